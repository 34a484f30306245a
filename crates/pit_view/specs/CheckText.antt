-- What `check` prints, and the status that goes with it.
use Rattle.std.specs.Prelude.{ℕ, ℤ, Bool, true, false, if◌then◌else◌, List, [], ◌∷◌, ◌++◌, Option, Some, None, codes}
use Rattle.pit_plan.specs.declared.breach.Breach.{Breach}
use Rattle.pit_plan.specs.declared.short.Short.{Short}
use Rattle.pit_step.specs.declared.status.Status.{Status}
use Rattle.pit_step.specs.declared.status.Status.TheVariants.{Fine, Failed}
use Rattle.pit_step.specs.LineTexts.{value_text, breach_text, shorts_text}

-- nothing is broken, and nothing falls short
abbrev pub is_fine : Option Breach → List Short → Bool
is_fine None [] = true
is_fine None (short ∷ more) = false
is_fine (Some breach) shorts = false

abbrev pub fine_text : Bool → List ℕ
fine_text true = codes "fine\n"
fine_text false = []

abbrev pub check_text : ℤ → Option Breach → List Short → List ℕ
check_text value breach shorts = codes "value " ++ (value_text value ++ (breach_text breach ++ (shorts_text shorts ++ fine_text (is_fine breach shorts))))

abbrev pub check_status : Option Breach → List Short → Status
check_status breach shorts = if is_fine breach shorts then Fine else Failed

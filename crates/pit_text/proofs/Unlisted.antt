-- A line of precedences that is judged without a list.
use Rattle.std.proofs.Common.{◌≡◌, ℕ, ◌<◌, nat_le, is_some, slice_index_or, Bool, true, false, cond, List, Option, Some, None, Result, Ok, Err, refl, ap, sym, ◌∙◌, arith}
use Rattle.std.specs.List.{list_any}
use Rattle.std.proofs.lemmas.Bool.Decides.{nat_tests}
use Rattle.pit_model.specs.Pit.{Pit}
use Rattle.pit_model.specs.declared.error.BuildError.{BuildError}
use Rattle.pit_model.specs.declared.error.BuildError.TheVariants.{BlockRange, Repeated}
use Rattle.pit_text.specs.declared.error.Fault.{Fault}
use Rattle.pit_text.specs.declared.error.Fault.TheVariants.{Build}
use Rattle.pit_text.specs.Stands.{◌>>=◌}
use Rattle.pit_text.specs.Causes.{fact_unless}
use Rattle.pit_text.specs.Precedence.{new_preds}
use Rattle.pit_text.specs.Inside.Unlisted.{with_block, has_from}

abbrev refusal_by : Pit → ℕ → Bool → Option BuildError
refusal_by pit block is_out =
    cond (nat_le pit.blocks block) (Some BlockRange) (cond is_out (Some BlockRange) (cond (is_some (slice_index_or pit.preds block None)) (Some Repeated) None))

-- where it has its list, the pit's refusal decides
judged : (pit : Pit) (block : ℕ) (is_out : Bool) (listed : Result (List ℕ) Fault) (line : Result (ℕ × List ℕ) Fault) → line ≡ with_block block listed → has_from pit.blocks listed ≡ Ok is_out
    → (fact : ℕ × List ℕ) × ((line >>= new_preds pit) ≡ fact_unless (refusal_by pit block is_out) fact)
judged pit block is_out (Ok blocks) line is found =
    let same : list_any (λ a. nat_le pit.blocks a) blocks ≡ is_out = cc in
    ((block, blocks), ap (λ (q : Result (ℕ × List ℕ) Fault). q >>= new_preds pit) is ∙ ap (λ (b : Bool). fact_unless (refusal_by pit block b) (block, blocks)) same)
judged pit block is_out (Err e) line is found = cc

by_out : {F : Type 0} (far set : Bool) (fact : F) → fact_unless (cond far (Some BlockRange) (cond true (Some BlockRange) (cond set (Some Repeated) None))) fact ≡ Err (Build BlockRange)
by_out true set fact = refl
by_out false set fact = refl

pub judged_out : (pit : Pit) (block least : ℕ) (is_out : Bool) (listed : Result (List ℕ) Fault) (line : Result (ℕ × List ℕ) Fault) → line ≡ with_block block listed → least ≡ pit.blocks
    → has_from least listed ≡ Ok is_out → is_out ≡ true → (line >>= new_preds pit) ≡ Err (Build BlockRange)
judged_out pit block least is_out listed line is same found out =
    let by = judged pit block is_out listed line is (ap (λ (n : ℕ). has_from n listed) (sym same) ∙ found) in
    by.1 ∙ ap (λ (b : Bool). fact_unless (refusal_by pit block b) by.0) out ∙ by_out (nat_le pit.blocks block) (is_some (slice_index_or pit.preds block None)) by.0

by_tests : {F : Type 0} (far out set : Bool) (fact : F) → far ≡ false → out ≡ false → set ≡ true
    → fact_unless (cond far (Some BlockRange) (cond out (Some BlockRange) (cond set (Some Repeated) None))) fact ≡ Err (Build Repeated)
by_tests far out set fact no_far no_out is_set = simp (no_far, no_out, is_set)

pub judged_again : (pit : Pit) (block least : ℕ) (is_out : Bool) (listed : Result (List ℕ) Fault) (line : Result (ℕ × List ℕ) Fault) → line ≡ with_block block listed → least ≡ pit.blocks
    → has_from least listed ≡ Ok is_out → is_out ≡ false → block < least → is_some (slice_index_or pit.preds block None) ≡ true → (line >>= new_preds pit) ≡ Err (Build Repeated)
judged_again pit block least is_out listed line is same found inside near set =
    let by = judged pit block is_out listed line is (ap (λ (n : ℕ). has_from n listed) (sym same) ∙ found) in
    let known : nat_le pit.blocks block ≡ false = grind (arith, nat_tests) in
    by.1 ∙ by_tests (nat_le pit.blocks block) is_out (is_some (slice_index_or pit.preds block None)) by.0 known inside set

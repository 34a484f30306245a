-- The lines that engines print: values, breaches, shortfalls and solutions.
use Rattle.std.specs.Prelude.{ℕ, ℤ, List, [], ◌∷◌, ◌++◌, Option, Some, None, codes, decimal}
use Rattle.std.specs.List.{flat_map}
use Rattle.pit_num.specs.Printed.{fixed_text}
use Rattle.pit_model.specs.Pit.{Pit}
use Rattle.pit_plan.specs.Schedule.{Commit, held_period}
use Rattle.pit_plan.specs.declared.breach.Breach.{Breach}
use Rattle.pit_plan.specs.declared.breach.Breach.TheVariants.{Precedence, Over}
use Rattle.pit_plan.specs.declared.short.Short.{Short}
use Rattle.pit_text.specs.Solution.{schedule_of}
use Rattle.pit_text.specs.SolutionText.{solution_text}

-- a value, and a line feed
abbrev pub value_text : ℤ → List ℕ
value_text value = fixed_text 18 value ++ 10 ∷ []

-- a whole number, and the byte behind it
abbrev pub field_text : ℕ → ℕ → List ℕ
field_text n end = decimal n ++ end ∷ []

-- a number of millionths, and the byte behind it
abbrev pub micro_text : ℤ → ℕ → List ℕ
micro_text z end = fixed_text 6 z ++ end ∷ []

-- a period, or `-` where there is none, and what stands behind it
abbrev pub period_text : Option ℕ → List ℕ → List ℕ
period_text None end = 45 ∷ end
period_text (Some t) end = decimal t ++ end

-- a limit in millionths, or `-` where there is none, and what stands behind it
abbrev pub limit_text : Option ℤ → List ℕ → List ℕ
limit_text None end = 45 ∷ end
limit_text (Some z) end = fixed_text 6 z ++ end

-- `R T LOAD LIMIT`
unfoldable pub load_words : ℕ → ℕ → ℤ → ℤ → List ℕ
load_words resource period load limit = field_text resource 32 ++ (field_text period 32 ++ (micro_text load 32 ++ fixed_text 6 limit))

-- `precedence B A` or `over R T LOAD LIMIT`
abbrev pub breach_words : Breach → List ℕ
breach_words (Precedence block before) = codes "precedence " ++ (field_text block 32 ++ decimal before)
breach_words (Over resource period load limit) = codes "over " ++ load_words resource period load limit

-- the line of a breach, where there is one
abbrev pub breach_text : Option Breach → List ℕ
breach_text None = []
breach_text (Some breach) = breach_words breach ++ 10 ∷ []

abbrev pub short_text : Short → List ℕ
short_text short = codes "short " ++ (load_words short.resource short.period short.load short.limit ++ 10 ∷ [])

unfoldable pub shorts_text : List Short → List ℕ
shorts_text shorts = flat_map short_text shorts

-- the solution that commits leave
abbrev pub left_text : Pit → List Commit → List ℕ
left_text pit commits = solution_text (schedule_of pit.blocks (held_period commits))

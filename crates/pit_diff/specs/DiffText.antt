-- What `diff` prints, and the status that goes with it.
use Rattle.std.specs.Prelude.{ℕ, ℤ, List, [], ◌∷◌, ◌++◌, flat_map, Option, codes, if◌then◌else◌}
use Rattle.std.specs.Option.{option_eq}
use Rattle.std.specs.Ordering.{int_eq}
use Rattle.std.specs.List.{range_with_len}
use Rattle.pit_num.specs.Printed.{fixed_text}
use Rattle.pit_model.specs.Pit.{Pit}
use Rattle.pit_plan.specs.Schedule.{Commit, held_period, limit_of, load_of, value_of}
use Rattle.pit_step.specs.declared.status.Status.{Status}
use Rattle.pit_step.specs.declared.status.Status.TheVariants.{Fine, Failed}
use Rattle.pit_step.specs.LineTexts.{field_text, micro_text, period_text, limit_text, value_text}
use Rattle.pit_diff.specs.Changes.{Change, Move, changes_of, moves_of}

-- ---- blocks

-- `block N OLD NEW`
unfoldable pub change_text : Change → List ℕ
change_text change = codes "block " ++ (field_text change.block 32 ++ (period_text change.old (32 ∷ []) ++ period_text change.new (10 ∷ [])))

abbrev pub changes_text : List Change → List ℕ
changes_text changes = flat_map change_text changes

-- `moves OLD NEW N`
unfoldable pub move_text : Move → List ℕ
move_text move = codes "moves " ++ (period_text move.old (32 ∷ []) ++ (period_text move.new (32 ∷ []) ++ field_text move.number 10))

abbrev pub moves_text : List Move → List ℕ
moves_text moves = flat_map move_text moves

-- ---- resources in periods

-- of each resource in each period, by rising period, and in it by rising resource
unfoldable pub by_cell : Pit → (ℕ → ℕ → List ℕ) → List ℕ
by_cell pit text = flat_map (λ t. flat_map (λ r. text r t) (range_with_len 0 pit.resources)) (range_with_len 0 pit.periods)

-- `limit R T OLD NEW`
unfoldable pub limit_line : ℕ → ℕ → Option ℤ → Option ℤ → List ℕ
limit_line r t old new = codes "limit " ++ (field_text r 32 ++ (field_text t 32 ++ (limit_text old (32 ∷ []) ++ limit_text new (10 ∷ []))))

-- that, where they differ
abbrev pub limit_change : ℕ → ℕ → Option ℤ → Option ℤ → List ℕ
limit_change r t old new = if option_eq int_eq old new then [] else limit_line r t old new

abbrev pub limits_text : Pit → (ℕ → ℕ → Option ℤ) → (ℕ → ℕ → Option ℤ) → List ℕ
limits_text pit old new = by_cell pit (λ r t. limit_change r t (old r t) (new r t))

-- `load R T OLD NEW`
unfoldable pub load_line : ℕ → ℕ → ℤ → ℤ → List ℕ
load_line r t old new = codes "load " ++ (field_text r 32 ++ (field_text t 32 ++ (micro_text old 32 ++ micro_text new 10)))

-- that, where they differ
abbrev pub load_change : ℕ → ℕ → ℤ → ℤ → List ℕ
load_change r t old new = if int_eq old new then [] else load_line r t old new

abbrev pub loads_text : Pit → (ℕ → Option ℕ) → (ℕ → Option ℕ) → List ℕ
loads_text pit old new = by_cell pit (λ r t. load_change r t (load_of pit old r t) (load_of pit new r t))

-- ---- values

-- `value OLD NEW`
unfoldable pub value_line : ℤ → ℤ → List ℕ
value_line old new = codes "value " ++ (fixed_text 18 old ++ (32 ∷ value_text new))

-- that, where they differ
abbrev pub value_change : ℤ → ℤ → List ℕ
value_change old new = if int_eq old new then [] else value_line old new

-- ---- the text

-- of what two lists of commits leave
unfoldable pub diff_text : Pit → List Commit → List Commit → List ℕ
diff_text pit old new =
    changes_text (changes_of pit.blocks (held_period old) (held_period new))
    ++ (moves_text (moves_of pit.blocks pit.periods (held_period old) (held_period new))
    ++ (limits_text pit (limit_of pit old) (limit_of pit new)
    ++ (loads_text pit (held_period old) (held_period new)
    ++ value_change (value_of pit (held_period old)) (value_of pit (held_period new)))))

-- whether there is any text
abbrev pub diff_status : List ℕ → Status
diff_status [] = Fine
diff_status (b ∷ text) = Failed

abbrev pub diff_answer : Pit → List Commit → List Commit → List ℕ × Status
diff_answer pit old new = (diff_text pit old new, diff_status (diff_text pit old new))

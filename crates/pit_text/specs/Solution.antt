-- What the lines of a solution say.
use Rattle.std.specs.Prelude.{◌≡◌, ◌⊎◌, ℕ, ℤ, pos, negsuc, ◌==◌, ◌^◌, nat_le, if◌then◌else◌, List, [], ◌∷◌, Result, Ok, Err, Option, Some, None, is_some, IsSome}
use Rattle.std.specs.List.{filter_map, range_with_len}
use Rattle.std.specs.Option.{option_map}
use Rattle.pit_model.specs.declared.error.BuildError.TheVariants.{BlockRange, PeriodRange, Repeated}
use Rattle.pit_text.specs.declared.error.Fault.{Fault}
use Rattle.pit_text.specs.declared.error.Fault.TheVariants.{FieldCount, Unsupported, PartBlock, Build}
use Rattle.pit_text.specs.declared.model.key.Key.TheVariants.{Destinations}
use Rattle.pit_text.specs.Numbers.{whole_field, decimal_field}
use Rattle.pit_text.specs.Cutting.{Cut}
use Rattle.pit_text.specs.Stands.{◌>>=◌, StandsTo, StandsFor}
use Rattle.pit_text.specs.Earlier.{first_value}

-- a block and a period
abbrev pub pair_in_range : ℕ → ℕ → ℕ → ℕ → Result (ℕ × ℕ) Fault
pair_in_range blocks periods b t =
    if nat_le blocks b then Err (Build BlockRange)
    else if nat_le periods t then Err (Build PeriodRange)
    else Ok (b, t)

-- the whole of a block is mined, or nothing of it
abbrev pub whole_or_none : ℤ → ℕ × ℕ → Result (Option (ℕ × ℕ)) Fault
whole_or_none (pos millionths) pair =
    if millionths == 0 then Ok None
    else if millionths == 10 ^ 6 then Ok (Some pair)
    else Err PartBlock
whole_or_none (negsuc n) pair = Err PartBlock

abbrev pub mined_pair : ℕ → ℤ → ℕ × ℕ → Result (Option (ℕ × ℕ)) Fault
mined_pair destination part pair = if destination == 0 then whole_or_none part pair else Err (Unsupported Destinations)

-- a line `b t` or `b d t y`, apart from the lines before it: the block and the period that it schedules, if any
unfoldable pub scheduled_pair : ℕ → ℕ → List (List ℕ) → Result (Option (ℕ × ℕ)) Fault
scheduled_pair blocks periods [] = Err FieldCount
scheduled_pair blocks periods (b ∷ []) = Err FieldCount
scheduled_pair blocks periods (b ∷ t ∷ []) =
    whole_field b >>= (λ block. whole_field t >>= (λ period. pair_in_range blocks periods block period >>= (λ pair. Ok (Some pair))))
scheduled_pair blocks periods (b ∷ d ∷ t ∷ []) = Err FieldCount
scheduled_pair blocks periods (b ∷ d ∷ t ∷ y ∷ []) =
    whole_field b >>= (λ block. whole_field d >>= (λ destination. whole_field t >>= (λ period. decimal_field y >>= (λ part.
    pair_in_range blocks periods block period >>= mined_pair destination part))))
scheduled_pair blocks periods (b ∷ d ∷ t ∷ y ∷ more ∷ fields) = Err FieldCount

abbrev pub period_in_fact : ℕ → Option (ℕ × ℕ) → Option ℕ
period_in_fact block None = None
period_in_fact block (Some pair) = if pair.0 == block then Some pair.1 else None

-- the period that the lines give a block
abbrev pub period_in : List (Option (ℕ × ℕ)) → ℕ → Option ℕ
period_in facts block = first_value (period_in_fact block) facts

-- no earlier line gave this block
abbrev pub new_to : List (Option (ℕ × ℕ)) → Option (ℕ × ℕ) → Result (Option (ℕ × ℕ)) Fault
new_to earlier None = Ok None
new_to earlier (Some pair) = if is_some (period_in earlier pair.0) then Err (Build Repeated) else Ok (Some pair)

unfoldable pub solution_line : ℕ → ℕ → List (Option (ℕ × ℕ)) → List (List ℕ) → Result (Option (ℕ × ℕ)) Fault
solution_line blocks periods earlier fields = scheduled_pair blocks periods fields >>= new_to earlier

-- each block that has a period, beside it, by rising block
abbrev pub pair_of : (ℕ → Option ℕ) → ℕ → Option (ℕ × ℕ)
pair_of period block = option_map (λ t. (block, t)) (period block)

unfoldable pub schedule_of : ℕ → (ℕ → Option ℕ) → List (ℕ × ℕ)
schedule_of blocks period = filter_map (pair_of period) (range_with_len 0 blocks)

-- Memory runs out at a line, where neither it nor a line before it has a fault, or at the end, where all lines stand for facts; and one of these
-- lines schedules a block.
abbrev pub SolutionStops : ℕ → ℕ → List Cut → ℕ → ℕ → Type 0
SolutionStops blocks periods lines end place =
    (facts : List (Option (ℕ × ℕ)))
    × (StandsTo (solution_line blocks periods) lines place facts ⊎ (StandsFor (solution_line blocks periods) lines facts × (place ≡ end)))
    × ((b : ℕ) × IsSome (period_in facts b))

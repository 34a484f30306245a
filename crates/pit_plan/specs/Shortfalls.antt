-- Which loads are below their lower limits.
use Rattle.std.specs.Prelude.{ℕ, ℤ, int_lt, List, [], ◌∷◌, flat_map, Option, Some, None, if◌then◌else◌}
use Rattle.std.specs.List.{range_with_len}
use Rattle.pit_model.specs.Pit.{Pit, lower_of}
use Rattle.pit_plan.specs.Schedule.{load_of}
use Rattle.pit_plan.specs.declared.short.Short.{Short}

-- the item of a resource in a period, where its load is below its lower limit
abbrev pub short_at : ℕ → ℕ → ℤ → Option ℤ → List Short
short_at r t load None = []
short_at r t load (Some lo) = if int_lt load lo then record { resource = r; period = t; load = load; limit = lo } ∷ [] else []

abbrev pub shorts_in : Pit → (ℕ → Option ℕ) → ℕ → List Short
shorts_in pit schedule t = flat_map (λ r. short_at r t (load_of pit schedule r t) (lower_of pit r t)) (range_with_len 0 pit.resources)

-- each load that is below its lower limit, by rising period, and in it by rising resource
unfoldable pub shortfalls_of : Pit → (ℕ → Option ℕ) → List Short
shortfalls_of pit schedule = flat_map (λ t. shorts_in pit schedule t) (range_with_len 0 pit.periods)

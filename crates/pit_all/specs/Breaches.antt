-- All that a schedule breaks.
use Rattle.std.specs.Prelude.{ℕ, ℤ, int_le, List, [], ◌∷◌, ◌++◌, map, flat_map, Option, Some, None, if◌then◌else◌}
use Rattle.std.specs.List.{range_with_len}
use Rattle.pit_model.specs.Pit.{Pit, preds_of}
use Rattle.pit_plan.specs.Schedule.{load_of, in_order}
use Rattle.pit_plan.specs.declared.breach.Breach.{Breach}
use Rattle.pit_plan.specs.declared.breach.Breach.TheVariants.{Precedence, Over}
use Rattle.pit_all.specs.declared.out_of_order.OutOfOrder.{OutOfOrder}

-- ---- pairs of a block and its predecessor

-- the pair with its periods, where it is out of order
abbrev pub out_at : (ℕ → Option ℕ) → ℕ → ℕ → List OutOfOrder
out_at schedule b a =
    if in_order (schedule b) (schedule a) then [] else record { block = b; before = a; period = schedule b; earlier = schedule a } ∷ []

abbrev pub outs_in : Pit → (ℕ → Option ℕ) → ℕ → List OutOfOrder
outs_in pit schedule b = flat_map (out_at schedule b) (preds_of pit b)

-- each pair that is out of order, by rising block, and then by rising predecessor
unfoldable pub outs_of : Pit → (ℕ → Option ℕ) → List OutOfOrder
outs_of pit schedule = flat_map (outs_in pit schedule) (range_with_len 0 pit.blocks)

-- ---- loads

-- the load of a resource in a period, where it is above its limit
abbrev pub over_at : ℕ → ℕ → ℤ → Option ℤ → List Breach
over_at r t load None = []
over_at r t load (Some top) = if int_le load top then [] else Over r t load top ∷ []

abbrev pub overs_in : Pit → (ℕ → Option ℕ) → (ℕ → ℕ → Option ℤ) → ℕ → List Breach
overs_in pit schedule limit t = flat_map (λ r. over_at r t (load_of pit schedule r t) (limit r t)) (range_with_len 0 pit.resources)

-- each load that is above its limit, by rising period, and in it by rising resource
unfoldable pub overs_of : Pit → (ℕ → Option ℕ) → (ℕ → ℕ → Option ℤ) → List Breach
overs_of pit schedule limit = flat_map (overs_in pit schedule limit) (range_with_len 0 pit.periods)

-- ---- both

abbrev pub breach_of : OutOfOrder → Breach
breach_of pair = Precedence pair.block pair.before

-- all breaches, in the order by which the first one is the first
abbrev pub breaches_of : Pit → (ℕ → Option ℕ) → (ℕ → ℕ → Option ℤ) → List Breach
breaches_of pit schedule limit = map breach_of (outs_of pit schedule) ++ overs_of pit schedule limit

abbrev pub first_of : {X : Type 0} → List X → Option X
first_of [] = None
first_of (x ∷ xs) = Some x

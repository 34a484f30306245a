-- Which refusal is due to a block with a period or none, or to a resource in a period.
use Rattle.std.specs.Prelude.{ℕ, Bool, false, nat_le, List, [], ◌∷◌, Option, Some, None, if◌then◌else◌}
use Rattle.std.specs.Option.{option_or}
use Rattle.pit_tx.specs.declared.error.WorkError.{WorkError}
use Rattle.pit_tx.specs.declared.error.WorkError.TheVariants.{NoBlock, NoResource, NoPeriod}
use Rattle.pit_tx.specs.Sets.{Sets}

-- there is a period, and it is not below the number of periods
abbrev pub is_past : ℕ → Option ℕ → Bool
is_past periods None = false
is_past periods (Some t) = nat_le periods t

-- the block is looked at first, then the period
abbrev pub refusal_of : Sets → ℕ → Option ℕ → Option WorkError
refusal_of sets b period =
    if nat_le sets.blocks b then Some NoBlock else if is_past sets.periods period then Some NoPeriod else None

-- one block after another is looked at, each with the period
abbrev pub first_refusal_of : Sets → List ℕ → ℕ → Option WorkError
first_refusal_of sets [] t = None
first_refusal_of sets (b ∷ blocks) t = option_or (refusal_of sets b (Some t)) (first_refusal_of sets blocks t)

-- the resource is looked at first, then the period
abbrev pub revision_refusal_of : Sets → ℕ → ℕ → Option WorkError
revision_refusal_of sets r t =
    if nat_le sets.resources r then Some NoResource else if nat_le sets.periods t then Some NoPeriod else None

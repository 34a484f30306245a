-- Pairs that are out of order, of which the first ones are kept and all are counted.
use Rattle.std.specs.Prelude.{◌≡◌, ℕ, List, ◌++◌, length, take}
use Rattle.pit_all.specs.declared.out_of_order.OutOfOrder.{OutOfOrder}
use Rattle.pit_all.specs.declared.outs.TheConstants.{PAIRS_SHOWN}

pub record Counted : Type 0 where
  pub first : List OutOfOrder
  pub count : ℕ

-- the first ones of these pairs, and how many there are
pub record Counts (outs : Counted) (pairs : List OutOfOrder) : Type 0 where
  pub first : outs.first ≡ take PAIRS_SHOWN pairs
  pub count : outs.count ≡ length pairs

-- these pairs were added, whatever there was before
abbrev pub Notes : Counted → List OutOfOrder → Counted → Type 0
Notes old more new = (pairs : List OutOfOrder) → Counts old pairs → Counts new (pairs ++ more)

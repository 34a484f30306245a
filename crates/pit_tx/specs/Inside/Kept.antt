-- The sets that a work keeps on the heap.
use Rattle.std.specs.Prelude.{◌≡◌, []}
use Rattle.pit_keyed.specs.Keyed.{HasFirstRoom}
use Rattle.pit_tx.specs.declared.work.Kept.{Kept}

-- they are empty, and each has its first room
pub record IsEmptied {A : Type 0} (sets : Kept A) : Type 0 where
  pub reads : sets.reads ≡ []
  pub writes : sets.writes.entries ≡ []
  pub revises : sets.revises.entries ≡ []
  pub first : HasFirstRoom sets.writes
  pub room : HasFirstRoom sets.revises

-- Keys that are written one after another, with room for all of them.
use Rattle.std.proofs.Common.{◌≡◌, ℕ, ◌+◌, ◌≤◌, Bool, List, length, drop}
use Rattle.indexmap.specs.IndexMap.{IndexMap, spare}
use Rattle.pit_keyed.specs.Keyed.{HasFirstRoom, with_each}

-- i keys are written, the rest would come to the whole, and there is room for it
pub record IsEachTo {K V S : Type 0} (eq : K → K → Bool) (old : List (K × V)) (keys : List K) (value : V) (i : ℕ) (now : IndexMap K V S) : Type 0 where
  pub whole : with_each eq now.entries (drop i keys) value ≡ with_each eq old keys value
  pub room : length keys ≤ i + spare now
  pub first : HasFirstRoom now

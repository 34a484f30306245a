-- A block has no more pairs than there are resources.
use Rattle.std.proofs.Common.{◌≡◌, ℕ, ℤ, ◌<◌, ◌≤◌, ◌==◌, false, FitsSigned, List, length, map, arith}
use Rattle.std.specs.List.{list_any}
use Rattle.std.proofs.lemmas.List.{length-map}
use Rattle.std.proofs.lemmas.List.Elements.{All-map}
use Rattle.std.proofs.lemmas.Map.Keys.{sorted_from_strictly_increasing}
use Rattle.std.proofs.lemmas.Map.Views.{length-le_from_below}
use Rattle.std.specs.Int.{w64}
use Rattle.pit_model.specs.Pit.{AreCoefs, with_pair}
use Rattle.pit_model.proofs.ByResource.{length-with_pair}
use Rattle.pit_model.proofs.Coefs.{AreCoefs-with_pair}

pub few_pairs : (resources : ℕ) (pairs : List (ℕ × ℤ)) → AreCoefs resources pairs → length pairs ≤ resources
few_pairs resources pairs ok =
    let few : length (map (λ pair. pair.0) pairs) ≤ resources = length-le_from_below resources (map (λ pair. pair.0) pairs) (sorted_from_strictly_increasing _ ok.rising) (All-map (λ r. r < resources) (λ pair. pair.0) pairs ok.in_range) in
    omega (arith, few, length-map pairs (λ pair. pair.0))

-- where one more may be set
pub fewer_pairs : (resources : ℕ) (pairs : List (ℕ × ℤ)) (r : ℕ) (v : ℤ) → AreCoefs resources pairs → r < resources → FitsSigned w64 v → list_any (λ pair. pair.0 == r) pairs ≡ false → length pairs < resources
fewer_pairs resources pairs r v ok resource value absent =
    omega (arith, few_pairs resources (with_pair pairs (r, v)) (AreCoefs-with_pair resources pairs r v ok resource value absent), length-with_pair pairs (r, v))

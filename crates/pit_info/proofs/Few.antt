-- How many coefficients a block has.
use Rattle.std.proofs.Common.{ℕ, ℤ, ◌<◌, ◌≤◌, List, length, map, All, arith}
use Rattle.std.proofs.lemmas.List.{length-map}
use Rattle.std.proofs.lemmas.List.Elements.{All-map}
use Rattle.pit_model.specs.Pit.{AreCoefs}
use Rattle.pit_step.proofs.CallerLemmas.{few-rising}

-- there are no more coefficients than resources
pub few-coefs : (resources : ℕ) (pairs : List (ℕ × ℤ)) → AreCoefs resources pairs → length pairs ≤ resources
few-coefs resources pairs are =
    let long = length-map pairs (λ (pair : ℕ × ℤ). pair.0) in
    let within : All (λ x. x < resources) (map (λ (pair : ℕ × ℤ). pair.0) pairs) = All-map (λ (x : ℕ). x < resources) (λ (pair : ℕ × ℤ). pair.0) pairs are.in_range in
    let short = few-rising (map (λ (pair : ℕ × ℤ). pair.0) pairs) resources are.rising within in
    omega (arith, long, short)

-- How the places of the blocks are kept: no list until the first one is set.
use Rattle.std.specs.Prelude.{◌≡◌, ℕ, ℤ, List, [], ◌∷◌, length, replicate, Option, None}

-- the place of each block
abbrev pub places_in : ℕ → List (Option (ℤ × ℤ × ℤ)) → List (Option (ℤ × ℤ × ℤ))
places_in blocks [] = replicate blocks None
places_in blocks (place ∷ more) = place ∷ more

-- a list that isn't empty has one item for each block
abbrev pub IsPlaceList : ℕ → List (Option (ℤ × ℤ × ℤ)) → Type 0
IsPlaceList blocks [] = Unit {0}
IsPlaceList blocks (place ∷ more) = length (place ∷ more) ≡ blocks

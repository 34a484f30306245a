-- What stands before the first element that passes.
use Rattle.std.proofs.Common.{◌≡◌, ℕ, ◌≤◌, Bool, Some, None, List, length, take, ap, sym, arith}
use Rattle.std.specs.List.{position, position_or_len, before_first}
use Rattle.std.proofs.lemmas.List.{take_all}
use Rattle.std.proofs.lemmas.Bool.Decides.{nat_tests}

place-is : {X : Type 0} (p : X → Bool) (xs : List X) (at : ℕ) → Some at ≡ position p xs → at ≡ position_or_len p xs
place-is p xs at found = grind (arith, nat_tests)

place-none : {X : Type 0} (p : X → Bool) (xs : List X) → None ≡ position p xs → length xs ≤ position_or_len p xs
place-none p xs none = grind (arith, nat_tests)

pub before-place : {X : Type 0} (p : X → Bool) (xs : List X) (at : ℕ) → Some at ≡ position p xs → take at xs ≡ before_first p xs
before-place p xs at found = ap (λ (n : ℕ). take n xs) (place-is p xs at found)

pub before-none : {X : Type 0} (p : X → Bool) (xs : List X) → None ≡ position p xs → xs ≡ before_first p xs
before-none p xs none = sym (take_all (position_or_len p xs) xs (place-none p xs none))

pub ruleset before_places = (before-place, before-none)

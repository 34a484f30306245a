-- A list cut at the first element that passes a test.
use Rattle.std.proofs.Common.{◌≡◌, ℕ, ◌+◌, ◌<◌, ◌≤◌, ◌||◌, Bool, true, false, Some, None, List, [], ◌∷◌, length, take, drop, ap, sym, ◌∙◌, refl, arith, add_comm}
use Rattle.std.specs.List.{before_first, after_first, list_any, position, position_or_len}
use Rattle.std.proofs.lemmas.List.{take_all, drop_all}
use Rattle.std.proofs.lemmas.Bool.Decides.{nat_tests}

-- what a first place says
pub place_is : {X : Type 0} (p : X → Bool) (xs : List X) (at : ℕ) → Some at ≡ position p xs → (at ≡ position_or_len p xs) × (at < length xs)
place_is p xs at h = grind (arith, nat_tests)

pub no_place : {X : Type 0} (p : X → Bool) (xs : List X) → None ≡ position p xs → length xs ≤ position_or_len p xs
no_place p xs h = grind (arith, nat_tests)

-- one more element in front
passes : {X : Type 0} (p : X → Bool) (x : X) (xs : List X) (b : Bool) → p x ≡ b → (position_or_len p xs < length xs → list_any p xs ≡ true) → position_or_len p (x ∷ xs) < length xs + 1 → (p x || list_any p xs) ≡ true
passes p x xs true e rest h = ap (λ (b : Bool). b || list_any p xs) e
passes p x xs false e rest h = let shorter : position_or_len p xs < length xs = (let at : position_or_len p (x ∷ xs) ≡ position_or_len p xs + 1 = simp e (add_comm 1 (position_or_len p xs)) in omega (arith, at)) in ap (λ (b : Bool). b || list_any p xs) e ∙ rest shorter

fails : {X : Type 0} (p : X → Bool) (x : X) (xs : List X) (b : Bool) → p x ≡ b → (length xs ≤ position_or_len p xs → list_any p xs ≡ false) → length xs + 1 ≤ position_or_len p (x ∷ xs) → (p x || list_any p xs) ≡ false
fails p x xs true e rest h = let at : position_or_len p (x ∷ xs) ≡ 0 = simp e in absurd (omega (arith, at))
fails p x xs false e rest h = let longer : length xs ≤ position_or_len p xs = (let at : position_or_len p (x ∷ xs) ≡ position_or_len p xs + 1 = simp e (add_comm 1 (position_or_len p xs)) in omega (arith, at)) in ap (λ (b : Bool). b || list_any p xs) e ∙ rest longer

pub any_from_place : {X : Type 0} (p : X → Bool) (xs : List X) → position_or_len p xs < length xs → list_any p xs ≡ true
any_from_place p [] h = absurd (omega arith)
any_from_place p (x ∷ xs) h = passes p x xs (p x) refl (any_from_place p xs) (omega arith)

pub none_from_place : {X : Type 0} (p : X → Bool) (xs : List X) → length xs ≤ position_or_len p xs → list_any p xs ≡ false
none_from_place p [] h = refl
none_from_place p (x ∷ xs) h = fails p x xs (p x) refl (none_from_place p xs) (omega arith)

pub front_at : {X : Type 0} (p : X → Bool) (xs : List X) (at : ℕ) → Some at ≡ position p xs → take at xs ≡ before_first p xs
front_at p xs at h = ap (λ n. take n xs) (place_is p xs at h).0

pub back_at : {X : Type 0} (p : X → Bool) (xs : List X) (at : ℕ) → Some at ≡ position p xs → drop (at + 1) xs ≡ after_first p xs
back_at p xs at h = ap (λ n. drop (n + 1) xs) (place_is p xs at h).0

pub front_none : {X : Type 0} (p : X → Bool) (xs : List X) → None ≡ position p xs → xs ≡ before_first p xs
front_none p xs h = sym (take_all (position_or_len p xs) xs (no_place p xs h))

pub back_none : {X : Type 0} (p : X → Bool) (xs : List X) → None ≡ position p xs → [] ≡ after_first p xs
back_none p xs h = let past : length xs ≤ position_or_len p xs + 1 = omega (arith, no_place p xs h) in sym (drop_all (position_or_len p xs + 1) xs past)

pub ruleset cuts = (place_is, no_place, any_from_place, none_from_place, front_at, back_at, front_none, back_none)

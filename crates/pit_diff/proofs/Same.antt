-- What tests of periods, of limits and of numbers tell.
use Rattle.std.proofs.Common.{◌≡◌, ◌⊎◌, ℕ, ℤ, Bool, true, false, Option, Some, None, refl, ap, inl, inr}
use Rattle.std.specs.Prelude.{nat_eq}
use Rattle.std.specs.Option.{option_eq}
use Rattle.std.specs.Ordering.{int_eq}
use Rattle.std.specs.Bool.{Decides}
use Rattle.std.proofs.lemmas.Bool.{false≢true}
use Rattle.std.proofs.lemmas.Bool.Decides.{Decides-eqb, Decides-int_eq}
use Rattle.pit_diff.specs.Changes.{is_same}

pub some-one : {X : Type 0} (x y d : X) → Some x ≡ Some y → x ≡ y
some-one {X} x y d same = ap (λ (o : Option X). by o) same
  where
    by : Option X → X
    by None = d
    by (Some z) = z

pub option-decides : {X : Type 0} (eq : X → X → Bool) → ((x y : X) → Decides (eq x y) (x ≡ y)) → (p q : Option X) → Decides (option_eq eq p q) (p ≡ q)
option-decides eq each None None = (λ _. refl, λ _. refl)
option-decides eq each None (Some y) = (λ is. absurd (false≢true is), λ same. cc)
option-decides eq each (Some x) None = (λ is. absurd (false≢true is), λ same. cc)
option-decides eq each (Some x) (Some y) = (λ is. ap Some ((each x y).0 is), λ same. (each x y).1 (some-one x y x same))

-- one period, or none both times
pub period-decides : (p q : Option ℕ) → Decides (is_same p q) (p ≡ q)
period-decides p q = option-decides nat_eq Decides-eqb p q

pub limit-decides : (p q : Option ℤ) → Decides (option_eq int_eq p q) (p ≡ q)
limit-decides p q = option-decides int_eq Decides-int_eq p q

pub tells : {P : Type 0} (test : Bool) → Decides test P → ((test ≡ true) × P) ⊎ ((test ≡ false) × (P → ⊥))
tells true decides = inl (refl, decides.0 refl)
tells false decides = inr (refl, λ is. false≢true (decides.1 is))

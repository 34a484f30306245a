-- What is kept of several bounds is the tightest.
use Rattle.std.proofs.Common.{◌≡◌, ◌≢◌, ℤ, ◌≤ℤ◌, ◌⊎◌, inl, inr, List, [], ◌∷◌, ◌++◌, Option, Some, None, Bool, int_lt, true, false, cond, refl, sym, ◌∙◌, subst, arith}
use Rattle.std.specs.Int.{int_min, int_max}
use Rattle.std.proofs.lemmas.Int.{ints, clamps}
use Rattle.std.proofs.lemmas.List.{append-nil}
use Rattle.std.proofs.Math.Logic.{⊎_elim}
use Rattle.pit_model.specs.Pit.{tighter_bound}
use Rattle.pit_model.specs.Tightest.{IsGiven, IsTightest}

-- how one of two bounds is picked
pub record IsPick (IsInside : ℤ → ℤ → Type 0) (pick : ℤ → ℤ → ℤ) : Type 0 where
  pub one : (x y : ℤ) → (pick x y ≡ x) ⊎ (pick x y ≡ y)
  pub left : (x y : ℤ) → IsInside (pick x y) x
  pub right : (x y : ℤ) → IsInside (pick x y) y
  pub same : (x : ℤ) → IsInside x x
  pub over : (x y z : ℤ) → IsInside x y → IsInside y z → IsInside x z

given-front : (given : List (Option ℤ)) (last : Option ℤ) (x : ℤ) → IsGiven given x → IsGiven (given ++ last ∷ []) x
given-front [] last x none = absurd none
given-front (first ∷ more) last x (inl here) = inl here
given-front (first ∷ more) last x (inr there) = inr (given-front more last x there)

given-last : (given : List (Option ℤ)) (last : Option ℤ) (x : ℤ) → last ≡ Some x → IsGiven (given ++ last ∷ []) x
given-last [] last x is = inl is
given-last (first ∷ more) last x is = inr (given-last more last x is)

given-either : (given : List (Option ℤ)) (last : Option ℤ) (x : ℤ) → IsGiven (given ++ last ∷ []) x → IsGiven given x ⊎ (last ≡ Some x)
given-either [] last x (inl is) = inr is
given-either [] last x (inr none) = absurd none
given-either (first ∷ more) last x (inl here) = inl (inl here)
given-either (first ∷ more) last x (inr there) = ⊎_elim (λ before. inl (inr before)) (λ is. inr is) (given-either more last x there)

some_kept : (o : Option ℤ) → o ≢ None → (k : ℤ) × (o ≡ Some k)
some_kept None some = absurd (some refl)
some_kept (Some k) some = (k, refl)

pub tightest-none : (IsInside : ℤ → ℤ → Type 0) → IsTightest IsInside [] None
tightest-none IsInside = record {
  one = λ bound is. let clash : None ≡ Some bound = is in cc;
  inside = λ bound other is among. absurd among;
  some = λ other among. absurd among;
}

module _ (IsInside : ℤ → ℤ → Type 0) (pick : ℤ → ℤ → ℤ) (is : IsPick IsInside pick) where
  some_same : (o : Option ℤ) (x y : ℤ) → o ≡ Some x → o ≡ Some y → IsInside x y
  some_same o x y at_x at_y = let same : x ≡ y = (let both : Some x ≡ Some y = sym at_x ∙ at_y in cc) in subst (λ z. IsInside x z) same (is.same x)

  from_either : (o other : Option ℤ) (bound : ℤ) → tighter_bound pick o other ≡ Some bound → (o ≡ Some bound) ⊎ (other ≡ Some bound)
  from_either None other bound h = inr h
  from_either (Some x) None bound h = inl h
  from_either (Some x) (Some y) bound h =
      elim (is.one x y) [
        | inl here ↦ let same : Some x ≡ Some bound = cc in inl same
        | inr there ↦ let same : Some y ≡ Some bound = cc in inr same
      ]

  within_left : (o other : Option ℤ) (x : ℤ) → o ≡ Some x → (m : ℤ) × (tighter_bound pick o other ≡ Some m) × IsInside m x
  within_left None other x h = let clash : None ≡ Some x = h in cc
  within_left (Some y) None x h = (y, refl, some_same (Some y) y x refl h)
  within_left (Some y) (Some z) x h = (pick y z, refl, is.over (pick y z) y x (is.left y z) (some_same (Some y) y x refl h))

  within_right : (o other : Option ℤ) (x : ℤ) → other ≡ Some x → (m : ℤ) × (tighter_bound pick o other ≡ Some m) × IsInside m x
  within_right None other x h = (x, h, is.same x)
  within_right (Some y) None x h = let clash : None ≡ Some x = h in cc
  within_right (Some y) (Some z) x h = (pick y z, refl, is.over (pick y z) z x (is.right y z) (some_same (Some z) z x refl h))

  -- what is kept is inside each one that is given
  reached : (given : List (Option ℤ)) (kept last : Option ℤ) (other : ℤ) → IsTightest IsInside given kept → IsGiven (given ++ last ∷ []) other → (m : ℤ) × (tighter_bound pick kept last ≡ Some m) × IsInside m other
  reached given kept last other was among =
      elim (given-either given last other among) [
        | inl before ↦
            let k = some_kept kept (was.some other before) in
            let m = within_left kept last k.0 k.1 in
            (m.0, m.1, is.over m.0 k.0 other m.2 (was.inside k.0 other k.1 before))
        | inr here ↦ within_right kept last other here
      ]

  -- one more is given
  tightest-more : (given : List (Option ℤ)) (kept last : Option ℤ) → IsTightest IsInside given kept → IsTightest IsInside (given ++ last ∷ []) (tighter_bound pick kept last)
  tightest-more given kept last was = record {
    one = λ bound h. elim (from_either kept last bound h) [ inl before ↦ given-front given last bound (was.one bound before) | inr here ↦ given-last given last bound here ];
    inside = λ bound other h among. let m = reached given kept last other was among in is.over bound m.0 other (some_same (tighter_bound pick kept last) bound m.0 h m.1) m.2;
    some = λ other among none. let m = reached given kept last other was among in let clash : None ≡ Some m.0 = sym none ∙ m.1 in cc;
  }

  -- one more is given, or is not
  pub tightest-with : (given all : List (Option ℤ)) (kept new last : Option ℤ) (more : Bool) → all ≡ given ++ cond more (last ∷ []) [] → new ≡ cond more (tighter_bound pick kept last) kept → IsTightest IsInside given kept → IsTightest IsInside all new
  tightest-with given all kept new last true lists bounds was =
      subst (λ (os : List (Option ℤ)). IsTightest IsInside os new) (sym lists) (subst (λ (o : Option ℤ). IsTightest IsInside (given ++ last ∷ []) o) (sym bounds) (tightest-more given kept last was))
  tightest-with given all kept new last false lists bounds was =
      subst (λ (os : List (Option ℤ)). IsTightest IsInside os new) (sym (lists ∙ append-nil given)) (subst (λ (o : Option ℤ). IsTightest IsInside given o) (sym bounds) was)

either : (test : Bool) (x y : ℤ) → (cond test x y ≡ x) ⊎ (cond test x y ≡ y)
either true x y = inl refl
either false x y = inr refl

pub least : IsPick (λ x y. x ≤ℤ y) int_min
least = record {
  one = λ x y. ⊎_elim inr inl (either (int_lt y x) y x);
  left = λ x y. omega (arith, ints, clamps);
  right = λ x y. omega (arith, ints, clamps);
  same = λ x. omega (arith, ints);
  over = λ x y z h k. omega (arith, ints, h, k);
}

pub greatest : IsPick (λ x y. y ≤ℤ x) int_max
greatest = record {
  one = λ x y. either (int_lt y x) x y;
  left = λ x y. omega (arith, ints, clamps);
  right = λ x y. omega (arith, ints, clamps);
  same = λ x. omega (arith, ints);
  over = λ x y z h k. omega (arith, ints, h, k);
}

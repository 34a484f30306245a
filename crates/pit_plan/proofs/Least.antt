-- The lesser of two pairs.
use Rattle.std.proofs.Common.{◌≡◌, ℕ, suc, ◌⊎◌, Bool, true, false, cond, Option, Some, None, sym, ap, subst, ◌∙◌, arith, inl, inr}
use Rattle.std.specs.Prelude.{nat_eq, nat_lt, ◌&&◌, ◌||◌}
use Rattle.std.proofs.lemmas.Bool.Decides.{leb_tells, eqb_tells}
use Rattle.pit_num.specs.Least.{ComesBefore, IsLeast, IsLeastOf}
use Rattle.pit_plan.specs.Inside.Touched.{is_lesser, lesser_of}

tells : (p q : ℕ × ℕ) → ((is_lesser p q ≡ true) × ComesBefore p q) ⊎ ((is_lesser p q ≡ false) × (ComesBefore p q → ⊥))
tells p q =
    elim (leb_tells (suc p.0) q.0) [
      | inl less ↦ inl (ap (λ (b : Bool). b || (nat_eq p.0 q.0 && nat_lt p.1 q.1)) less.0, inl less.1)
      | inr above ↦
          let past = ap (λ (b : Bool). b || (nat_eq p.0 q.0 && nat_lt p.1 q.1)) above.0 in
          elim (eqb_tells p.0 q.0) [
            | inr apart ↦
                inr (
                  past ∙ ap (λ (b : Bool). b && nat_lt p.1 q.1) apart.0,
                  λ before. elim before [ inl less ↦ omega (arith, above.1, less) | inr same ↦ apart.1 same.0 ],
                )
            | inl same ↦
                let both = past ∙ ap (λ (b : Bool). b && nat_lt p.1 q.1) same.0 in
                elim (leb_tells (suc p.1) q.1) [
                  | inl below ↦ inl (both ∙ below.0, inr (same.1, below.1))
                  | inr beyond ↦ inr (both ∙ beyond.0, λ before. elim before [ inl less ↦ omega (arith, above.1, less) | inr also ↦ omega (arith, beyond.1, also.1) ])
                ]
          ]
    ]

earlier : (p q r : ℕ × ℕ) → ComesBefore p q → ComesBefore q r → ComesBefore p r
earlier p q r one two =
    elim one [
      | inl less ↦ elim two [ inl more ↦ inl (omega (arith, less, more)) | inr same ↦ inl (omega (arith, less, same.0)) ]
      | inr same ↦ elim two [ inl more ↦ inl (omega (arith, same.0, more)) | inr also ↦ inr (omega (arith, same.0, also.0), omega (arith, same.1, also.1)) ]
    ]

-- what comes before a pair comes before one that is no lesser
before-greater : (p q r : ℕ × ℕ) → ComesBefore p q → (ComesBefore r q → ⊥) → ComesBefore p r
before-greater p q r before not =
    elim (leb_tells (suc p.0) r.0) [
      | inl less ↦ inl less.1
      | inr above ↦
          elim before [
            | inl less ↦ absurd (not (inl (omega (arith, above.1, less))))
            | inr same ↦
                elim (eqb_tells r.0 q.0) [
                  | inr apart ↦ absurd (not (inl (omega (arith, above.1, same.0, apart.1))))
                  | inl here ↦
                      elim (leb_tells (suc r.1) q.1) [
                        | inl below ↦ absurd (not (inr (here.1, below.1)))
                        | inr beyond ↦ inr (omega (arith, same.0, here.1), omega (arith, same.1, beyond.1))
                      ]
                ]
          ]
    ]

-- the lesser of the least pairs of two kinds is the least pair of either
pub least-lesser : (P Q R : ℕ × ℕ → Type 0) (f g : Option (ℕ × ℕ)) → IsLeast ComesBefore P f → IsLeast ComesBefore Q g
    → ((x : ℕ × ℕ) → P x → R x) → ((x : ℕ × ℕ) → Q x → R x) → ((x : ℕ × ℕ) → R x → P x ⊎ Q x) → IsLeast ComesBefore R (lesser_of f g)
least-lesser P Q R None None p q one two splits = λ x is. elim (splits x is) [ inl h ↦ p x h | inr h ↦ q x h ]
least-lesser P Q R None (Some g) p q one two splits = record {
  passes = two g q.passes;
  first = λ x is before. elim (splits x is) [ inl h ↦ p x h | inr h ↦ q.first x h before ];
}
least-lesser P Q R (Some f) None p q one two splits = record {
  passes = one f p.passes;
  first = λ x is before. elim (splits x is) [ inl h ↦ p.first x h before | inr h ↦ q x h ];
}
least-lesser P Q R (Some f) (Some g) p q one two splits =
    elim (tells g f) [
      | inl lesser ↦ subst (IsLeast ComesBefore R) (sym (ap (λ (b : Bool). cond b (Some g) (Some f)) lesser.0)) (of-second lesser.1)
      | inr greater ↦ subst (IsLeast ComesBefore R) (sym (ap (λ (b : Bool). cond b (Some g) (Some f)) greater.0)) (of-first greater.1)
    ]
  where
    of-second : ComesBefore g f → IsLeastOf ComesBefore R g
    of-second lesser = record {
      passes = two g q.passes;
      first = λ x is before. elim (splits x is) [ inl h ↦ p.first x h (earlier x g f before lesser) | inr h ↦ q.first x h before ];
    }

    of-first : (ComesBefore g f → ⊥) → IsLeastOf ComesBefore R f
    of-first greater = record {
      passes = one f p.passes;
      first = λ x is before. elim (splits x is) [ inl h ↦ p.first x h before | inr h ↦ q.first x h (before-greater x f g before greater) ];
    }

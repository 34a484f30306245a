-- Lists of pairs of which no two have the same number.
use Rattle.std.proofs.Common.{◌≡◌, ◌≢◌, ℕ, zero, suc, ◌+◌, ◌<◌, ◌⊎◌, Bool, true, false, cond, List, [], ◌∷◌, ◌++◌, length, take, get_or, Some, None, refl, sym, ap, subst, ◌∙◌, arith, inl, inr}
use Rattle.std.specs.Prelude.{nat_eq, unwrap_or, is_some, map, AllPairs}
use Rattle.std.specs.Map.{lookup}
use Rattle.std.specs.List.Sorted.{IsStrictlyIncreasing}
use Rattle.std.proofs.lemmas.Bool.{cond-true, cond-false}
use Rattle.std.proofs.lemmas.Bool.Decides.{eqb_tells}
use Rattle.std.proofs.lemmas.List.{take_more, get_or-map, length-map}
use Rattle.std.proofs.lemmas.List.Kept.{AllPairs-from_increasing}
use Rattle.pit_plan.specs.Inside.Touched.{overlaid_item, IsNamed}

pub same-eq : (x b : ℕ) → x ≡ b → nat_eq x b ≡ true
same-eq x b e = elim (eqb_tells x b) [ inl h ↦ h.0 | inr h ↦ absurd (h.1 e) ]

pub other-eq : (x b : ℕ) → x ≢ b → nat_eq x b ≡ false
other-eq x b n = elim (eqb_tells x b) [ inl h ↦ absurd (n h.1) | inr h ↦ h.0 ]

module _ {X : Type 0} where
  abbrev pub Once : List (ℕ × X) → Type 0
  Once ps = AllPairs (λ p q. p.0 ≢ q.0) ps

  once-tail : (p : ℕ × X) (ps : List (ℕ × X)) → Once (p ∷ ps) → Once ps
  once-tail p ps once = λ i j d lt l. once (suc i) (suc j) d (omega (arith, lt)) (omega (arith, l))

  first-apart : (p : ℕ × X) (ps : List (ℕ × X)) (j : ℕ) (d : ℕ × X) → Once (p ∷ ps) → j < length ps → nat_eq (get_or ps j d).0 p.0 ≡ false
  first-apart p ps j d once within = other-eq (get_or ps j d).0 p.0 (λ e. once 0 (suc j) d (omega arith) (omega (arith, within)) (sym e))

  -- the pairs before one don't name its number
  pub absent-before : (ps : List (ℕ × X)) (i : ℕ) (d : ℕ × X) → Once ps → i < length ps → lookup (nat_eq (get_or ps i d).0) (take i ps) ≡ None
  absent-before [] i d once within = absurd (omega (arith, within))
  absent-before (p ∷ ps) zero d once within = refl
  absent-before (p ∷ ps) (suc j) d once within =
      cond-false _ _ _ (first-apart p ps j d once (omega (arith, within))) ∙ absent-before ps j d (once-tail p ps once) (omega (arith, within))

  -- a pair is what the list says of its number
  pub lookup-at : (ps : List (ℕ × X)) (i : ℕ) (d : ℕ × X) → Once ps → i < length ps → lookup (nat_eq (get_or ps i d).0) ps ≡ Some (get_or ps i d).1
  lookup-at [] i d once within = absurd (omega (arith, within))
  lookup-at (p ∷ ps) zero d once within = cond-true _ _ _ (same-eq p.0 p.0 refl)
  lookup-at (p ∷ ps) (suc j) d once within =
      cond-false _ _ _ (first-apart p ps j d once (omega (arith, within))) ∙ lookup-at ps j d (once-tail p ps once) (omega (arith, within))

  -- a pair more, whose number isn't named yet
  overlaid_item-push : (before : ℕ → X) (ps : List (ℕ × X)) (p : ℕ × X) (k : ℕ) → lookup (nat_eq p.0) ps ≡ None → overlaid_item before (ps ++ p ∷ []) k ≡ cond (nat_eq k p.0) p.1 (overlaid_item before ps k)
  overlaid_item-push before [] p k none = elim (nat_eq k p.0) as (λ (b : Bool). unwrap_or (cond b (Some p.1) None) (before k) ≡ cond b p.1 (before k)) [ true ↦ refl | false ↦ refl ]
  overlaid_item-push before (q ∷ qs) p k none =
      elim (eqb_tells p.0 q.0) [
        | inl same ↦ absurd (cc (cond-true (nat_eq p.0 q.0) (Some q.1) (lookup (nat_eq p.0) qs) same.0, none))
        | inr apart ↦
            let rest = overlaid_item-push before qs p k (sym (cond-false (nat_eq p.0 q.0) (Some q.1) (lookup (nat_eq p.0) qs) apart.0) ∙ none) in
            elim (eqb_tells k q.0) [
              | inl here ↦
                  ap (λ (b : Bool). unwrap_or (cond b (Some q.1) (lookup (nat_eq k) (qs ++ p ∷ []))) (before k)) here.0
                  ∙ sym (cond-false _ _ _ (other-eq k p.0 (λ e. apart.1 (sym e ∙ here.1))) ∙ ap (λ (b : Bool). unwrap_or (cond b (Some q.1) (lookup (nat_eq k) qs)) (before k)) here.0)
              | inr there ↦
                  ap (λ (b : Bool). unwrap_or (cond b (Some q.1) (lookup (nat_eq k) (qs ++ p ∷ []))) (before k)) there.0
                  ∙ (rest ∙ ap (λ (x : X). cond (nat_eq k p.0) p.1 x) (sym (ap (λ (b : Bool). unwrap_or (cond b (Some q.1) (lookup (nat_eq k) qs)) (before k)) there.0)))
            ]
      ]

  pub overlaid_item-more : (before : ℕ → X) (ps : List (ℕ × X)) (i k : ℕ) (d : ℕ × X) → Once ps → i < length ps
      → overlaid_item before (take (i + 1) ps) k ≡ cond (nat_eq k (get_or ps i d).0) (get_or ps i d).1 (overlaid_item before (take i ps) k)
  overlaid_item-more before ps i k d once within = rw (take_more ps i d within) (overlaid_item-push before (take i ps) (get_or ps i d) k (absent-before ps i d once within))

  named-push : (ps : List (ℕ × X)) (p : ℕ × X) (k : ℕ) → IsNamed ps k → IsNamed (ps ++ p ∷ []) k
  named-push [] p k is = absurd (cc (is))
  named-push (q ∷ qs) p k is =
      elim (eqb_tells k q.0) [
        | inl here ↦ ap (λ (b : Bool). is_some (cond b (Some q.1) (lookup (nat_eq k) (qs ++ p ∷ [])))) here.0
        | inr there ↦
            ap (λ (b : Bool). is_some (cond b (Some q.1) (lookup (nat_eq k) (qs ++ p ∷ [])))) there.0
            ∙ named-push qs p k (sym (ap (λ (b : Bool). is_some (cond b (Some q.1) (lookup (nat_eq k) qs))) there.0) ∙ is)
      ]

  named-last : (ps : List (ℕ × X)) (p : ℕ × X) → IsNamed (ps ++ p ∷ []) p.0
  named-last [] p = ap (λ (b : Bool). is_some (cond b (Some p.1) None)) (same-eq p.0 p.0 refl)
  named-last (q ∷ qs) p = elim (nat_eq p.0 q.0) as (λ (b : Bool). is_some (cond b (Some q.1) (lookup (nat_eq p.0) (qs ++ p ∷ []))) ≡ true) [ true ↦ refl | false ↦ named-last qs p ]

  named-splits : (ps : List (ℕ × X)) (p : ℕ × X) (k : ℕ) → IsNamed (ps ++ p ∷ []) k → IsNamed ps k ⊎ (k ≡ p.0)
  named-splits [] p k is = elim (eqb_tells k p.0) [ inl here ↦ inr here.1 | inr there ↦ absurd (cc (ap (λ (b : Bool). is_some (cond b (Some p.1) None)) there.0, is)) ]
  named-splits (q ∷ qs) p k is =
      elim (eqb_tells k q.0) [
        | inl here ↦ inl (ap (λ (b : Bool). is_some (cond b (Some q.1) (lookup (nat_eq k) qs))) here.0)
        | inr there ↦
            elim (named-splits qs p k (sym (ap (λ (b : Bool). is_some (cond b (Some q.1) (lookup (nat_eq k) (qs ++ p ∷ [])))) there.0) ∙ is)) [
              | inl before ↦ inl (ap (λ (b : Bool). is_some (cond b (Some q.1) (lookup (nat_eq k) qs))) there.0 ∙ before)
              | inr last ↦ inr last
            ]
      ]

  -- one pair more names what was named, and its own number
  pub named-keeps : (ps : List (ℕ × X)) (i k : ℕ) (d : ℕ × X) → i < length ps → IsNamed (take i ps) k → IsNamed (take (i + 1) ps) k
  named-keeps ps i k d within is = rw (take_more ps i d within) (named-push (take i ps) (get_or ps i d) k is)

  pub named-own : (ps : List (ℕ × X)) (i k : ℕ) (d : ℕ × X) → i < length ps → k ≡ (get_or ps i d).0 → IsNamed (take (i + 1) ps) k
  named-own ps i k d within is = rw (take_more ps i d within) (subst (λ (x : ℕ). IsNamed (take i ps ++ get_or ps i d ∷ []) x) (sym is) (named-last (take i ps) (get_or ps i d)))

  pub named-before : (ps : List (ℕ × X)) (i k : ℕ) (d : ℕ × X) → i < length ps → IsNamed (take (i + 1) ps) k → IsNamed (take i ps) k ⊎ (k ≡ (get_or ps i d).0)
  named-before ps i k d within is = named-splits (take i ps) (get_or ps i d) k (subst (λ (qs : List (ℕ × X)). IsNamed qs k) (take_more ps i d within) is)

  -- pairs that rise by their numbers
  pub once-from_rising : (ps : List (ℕ × X)) → IsStrictlyIncreasing (map (λ p. p.0) ps) → Once ps
  once-from_rising ps rising = λ i j d lt l e.
      let less = AllPairs-from_increasing (map (λ p. p.0) ps) rising i j 0 lt (simp length-map l) in
      let at_i = get_or-map (λ p. p.0) ps i d 0 (omega (arith, lt, l)) in
      let at_j = get_or-map (λ p. p.0) ps j d 0 l in
      absurd (omega (arith, less, at_i, at_j, e))

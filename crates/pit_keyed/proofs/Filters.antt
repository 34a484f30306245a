-- Filters with one number more.
use Rattle.std.proofs.Common.{◌≡◌, ℕ, ◌/◌, ◌%◌, ◌⊎◌, inl, inr, Bool, true, false, cond, List, [], ◌∷◌, ◌++◌, Some, None, nat_eq, refl, ap, sym, ◌∙◌}
use Rattle.std.specs.Prelude.{is_some}
use Rattle.std.specs.Int.{bit_at}
use Rattle.std.proofs.lemmas.Bool.Decides.{Decides-eqb}
use Rattle.pit_num.specs.Bits.{IsWithBit}
use Rattle.pit_keyed.specs.Keyed.{at_key}
use Rattle.pit_keyed.specs.Inside.Filter.{IsFilterOf, AreFiltersOf}

-- a number of the pairs and one more is one of the pairs, or that one
named-push : {V : Type 0} (pairs : List (ℕ × V)) (key k : ℕ) (value : V) → is_some (at_key nat_eq (pairs ++ (key, value) ∷ []) k) ≡ true
    → (is_some (at_key nat_eq pairs k) ≡ true) ⊎ (k ≡ key)
named-push {V} [] key k value found = by (nat_eq k key) refl found
  where
    by : (x : Bool) → nat_eq k key ≡ x → is_some (cond x (Some value) None) ≡ true → (is_some (at_key {K = ℕ} {V = V} nat_eq [] k) ≡ true) ⊎ (k ≡ key)
    by true is found = inr ((Decides-eqb k key).0 is)
    by false is found = absurd cc
named-push {V} (p ∷ ps) key k value found = by (nat_eq k p.0) (named-push ps key k value) found
  where
    by : (x : Bool) → (is_some (at_key nat_eq (ps ++ (key, value) ∷ []) k) ≡ true → (is_some (at_key nat_eq ps k) ≡ true) ⊎ (k ≡ key))
        → is_some (cond x (Some p.1) (at_key nat_eq (ps ++ (key, value) ∷ []) k)) ≡ true → (is_some (cond x (Some p.1) (at_key nat_eq ps k)) ≡ true) ⊎ (k ≡ key)
    by true later found = inl refl
    by false later found = later found

-- the bit of the one more is set, and those that were set are
filter-push : {V : Type 0} (bit_of : ℕ → ℕ) (pairs : List (ℕ × V)) (key : ℕ) (value : V) (filter more : ℕ) → IsFilterOf bit_of pairs filter
    → IsWithBit filter (bit_of key) more → IsFilterOf bit_of (pairs ++ (key, value) ∷ []) more
filter-push bit_of pairs key value filter more kept with_key k found = by (named-push pairs key k value found)
  where
    of : (x : Bool) → nat_eq (bit_of k) (bit_of key) ≡ x → bit_at filter (bit_of k) ≡ 1 → bit_at more (bit_of k) ≡ 1
    of true is was = ap (bit_at more) ((Decides-eqb (bit_of k) (bit_of key)).0 is) ∙ with_key.here
    of false is was = with_key.others (bit_of k) (λ e. absurd (true-false (sym ((Decides-eqb (bit_of k) (bit_of key)).1 e) ∙ is))) ∙ was
      where
        true-false : true ≡ false → ⊥
        true-false e = cc

    by : (is_some (at_key nat_eq pairs k) ≡ true) ⊎ (k ≡ key) → bit_at more (bit_of k) ≡ 1
    by (inl there) = of (nat_eq (bit_of k) (bit_of key)) refl (kept k there)
    by (inr same) = ap (λ (n : ℕ). bit_at more (bit_of n)) same ∙ with_key.here

-- both filters with one number more
pub filters-push : {V : Type 0} (pairs : List (ℕ × V)) (key : ℕ) (value : V) (low high lower higher : ℕ) → AreFiltersOf pairs low high
    → IsWithBit low (key % 64) lower → IsWithBit high (key / 64 % 64) higher → AreFiltersOf (pairs ++ (key, value) ∷ []) lower higher
filters-push pairs key value low high lower higher kept with_low with_high = record {
  by_remainder = filter-push (λ (k : ℕ). k % 64) pairs key value low lower kept.by_remainder with_low;
  by_quotient = filter-push (λ (k : ℕ). k / 64 % 64) pairs key value high higher kept.by_quotient with_high;
}

-- Counts, sums, filters and searches over the numbers below one more.
use Rattle.std.proofs.Common.{◌≡◌, ℕ, zero, suc, ◌+◌, ◌<◌, ◌≤◌, inl, inr, not, Bool, true, false, cond, List, [], ◌∷◌, ◌++◌, length, Option, Some, refl, sym, ap, ◌∙◌, arith}
use Rattle.std.specs.List.{filter, range_with_len, count_by, sum_by, list_any}
use Rattle.std.proofs.lemmas.List.{append-nil}
use Rattle.std.proofs.lemmas.Bool.Decides.{eqb_tells}
use Rattle.std.proofs.lemmas.List.FromFn.{length-range_with_len}
use Rattle.std.proofs.lemmas.List.Sums.{sum_by_push, sum_by-cons}
use Rattle.std.proofs.lemmas.List.Elements.{filter-append}
use Rattle.std.proofs.lemmas.List.Folds.{list_any-append}
use Rattle.pit_text.specs.Model.{last_of}
use Rattle.pit_step.proofs.CallerLemmas.{range-more}

-- ---- sums and counts

pub sum-more : (f : ℕ → ℕ) (n : ℕ) → sum_by f (range_with_len 0 (n + 1)) ≡ sum_by f (range_with_len 0 n) + f n
sum-more f n = ap (sum_by f) (range-more n) ∙ sum_by_push f (range_with_len 0 n) n

pub sum_with : (f : ℕ → ℕ) (n sum more : ℕ) → sum ≡ sum_by f (range_with_len 0 n) → more ≡ f n → sum + more ≡ sum_by f (range_with_len 0 (n + 1))
sum_with f n sum more is next = let one = sum-more f n in omega (arith, one, is, next)

pub count_with : (p : ℕ → Bool) (n count more : ℕ) (test : Bool) → count ≡ count_by p (range_with_len 0 n) → more ≡ cond test 1 0 → test ≡ p n → count + more ≡ count_by p (range_with_len 0 (n + 1))
count_with p n count more test is next same = sum_with (λ x. cond (p x) 1 0) n count more is (next ∙ ap (λ (b : Bool). cond b 1 0) same)

-- those that pass and the others are all
parts_one : (b : Bool) → cond b 1 0 + cond (not b) 1 0 ≡ 1
parts_one true = refl
parts_one false = refl

parts_from : (p : ℕ → Bool) (xs : List ℕ) → count_by p xs + count_by (λ x. not (p x)) xs ≡ length xs
parts_from p [] = refl
parts_from p (x ∷ xs) =
    let here = sum_by-cons (λ (y : ℕ). cond (p y) 1 0) x xs in
    let there = sum_by-cons (λ (y : ℕ). cond (not (p y)) 1 0) x xs in
    let one = parts_one (p x) in
    let more = parts_from p xs in
    omega (arith, here, there, one, more)

pub count_parts : (p : ℕ → Bool) (n : ℕ) → count_by p (range_with_len 0 n) + count_by (λ x. not (p x)) (range_with_len 0 n) ≡ n
count_parts p n = parts_from p (range_with_len 0 n) ∙ length-range_with_len 0 n

pub twice : (b : Bool) → not (not b) ≡ b
twice true = refl
twice false = refl

-- ---- the last one that passes

pub last-push : {X : Type 0} (xs : List X) (x : X) → last_of (xs ++ x ∷ []) ≡ Some x
last-push [] x = refl
last-push (y ∷ []) x = refl
last-push (y ∷ z ∷ more) x = last-push (z ∷ more) x

pub last_with : (p : ℕ → Bool) (n : ℕ) (last next : Option ℕ) (test : Bool) → last ≡ last_of (filter p (range_with_len 0 n)) → next ≡ cond test last (Some n) → test ≡ not (p n)
    → next ≡ last_of (filter p (range_with_len 0 (n + 1)))
last_with p n last next test is then same =
    then ∙ by (p n) refl ∙ sym (ap (λ (xs : List ℕ). last_of xs) (ap (filter p) (range-more n) ∙ filter-append p (range_with_len 0 n) (n ∷ [])))
  where
    by : (passes : Bool) → p n ≡ passes → cond test last (Some n) ≡ last_of (filter p (range_with_len 0 n) ++ cond passes (n ∷ []) [])
    by true e = ap (λ (b : Bool). cond b last (Some n)) (same ∙ ap not e) ∙ sym (last-push (filter p (range_with_len 0 n)) n)
    by false e = ap (λ (b : Bool). cond b last (Some n)) (same ∙ ap not e) ∙ is ∙ sym (ap (λ (xs : List ℕ). last_of xs) (append-nil (filter p (range_with_len 0 n))))

-- ---- whether one passes

pub none_with : (p : ℕ → Bool) (n : ℕ) → list_any p (range_with_len 0 n) ≡ false → p n ≡ false → list_any p (range_with_len 0 (n + 1)) ≡ false
none_with p n none fails = ap (list_any p) (range-more n) ∙ list_any-append p (range_with_len 0 n) (n ∷ []) ∙ simp (none, fails)

-- the one at a number passes
some_from : (p : ℕ → Bool) (n a k : ℕ) → a ≤ k → k < a + n → p k ≡ true → list_any p (range_with_len a n) ≡ true
some_from p zero a k low high passes = absurd (omega (arith, low, high))
some_from p (suc n) a k low high passes =
    elim (eqb_tells a k) [
      | inl same ↦ rw (ap p same.1 ∙ passes) refl
      | inr other ↦ by (p a) refl (some_from p n (a + 1) k (omega (arith, low, other.1)) (omega (arith, high)) passes)
    ]
  where
    by : (b : Bool) → p a ≡ b → list_any p (range_with_len (a + 1) n) ≡ true → list_any p (range_with_len a (suc n)) ≡ true
    by true e later = rw e refl
    by false e later = rw e later

pub some_at : (p : ℕ → Bool) (k n : ℕ) → k < n → p k ≡ true → list_any p (range_with_len 0 n) ≡ true
some_at p k n below passes = some_from p n 0 k (omega arith) (omega (arith, below)) passes

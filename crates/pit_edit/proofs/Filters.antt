-- The changes of an edit, and its parts.
use Rattle.std.proofs.Common.{◌≡◌, ℕ, ◌+◌, ◌<◌, Bool, true, false, not, cond, List, [], ◌∷◌, ◌++◌, length, take, get_or, Option, refl, sym, ap, ◌∙◌, arith}
use Rattle.std.specs.Prelude.{All, nat_lt}
use Rattle.std.specs.List.{filter, range_with_len}
use Rattle.std.specs.List.Sorted.{IsStrictlyIncreasing}
use Rattle.std.proofs.lemmas.List.{map-id}
use Rattle.std.proofs.lemmas.List.Elements.{All-nil, All-cons, All-head, All-tail, All-filter, All-weaker, filter-append, filter_more}
use Rattle.std.proofs.lemmas.List.FromFn.{length-range_with_len, get_or-range_with_len, map-range_with_len_more}
use Rattle.std.proofs.lemmas.List.Kept.{IsStrictlyIncreasing-filter}
use Rattle.pit_edit.specs.Changes.{Edit, base_of, wanted_of, is_apart, is_change, changes_of, is_late, late_of, early_of, kept_of, left_of}

-- ---- filters

-- two tests that agree at each element keep the same ones
pub filter-same : {X : Type 0} (p q : X → Bool) (xs : List X) → All (λ x. p x ≡ q x) xs → filter p xs ≡ filter q xs
filter-same p q [] same = refl
filter-same {X} p q (x ∷ xs) same =
    let first : p x ≡ q x = All-head (λ (y : X). p y ≡ q y) x xs same in
    let more : filter p xs ≡ filter q xs = filter-same p q xs (All-tail (λ (y : X). p y ≡ q y) x xs same) in
    ap (λ (b : Bool). cond b (x ∷ filter p xs) (filter p xs)) first ∙ ap (λ (ys : List X). cond (q x) (x ∷ ys) ys) more

pub filter-none : {X : Type 0} (p : X → Bool) (xs : List X) → All (λ x. p x ≡ false) xs → filter p xs ≡ []
filter-none p [] none = refl
filter-none {X} p (x ∷ xs) none =
    ap (λ (b : Bool). cond b (x ∷ filter p xs) (filter p xs)) (All-head (λ (y : X). p y ≡ false) x xs none) ∙ filter-none p xs (All-tail (λ (y : X). p y ≡ false) x xs none)

pub none-passes : {X : Type 0} (p : X → Bool) (xs : List X) → filter p xs ≡ [] → All (λ x. p x ≡ false) xs
none-passes {X} p [] none = All-nil (λ (y : X). p y ≡ false)
none-passes {X} p (x ∷ xs) none = by (p x) refl (λ rest. none-passes p xs rest) none
  where
    by : (b : Bool) → p x ≡ b → (filter p xs ≡ [] → All (λ (y : X). p y ≡ false) xs) → cond b (x ∷ filter p xs) (filter p xs) ≡ [] → All (λ (y : X). p y ≡ false) (x ∷ xs)
    by true here more is = absurd (cc is)
    by false here more is = All-cons (λ (y : X). p y ≡ false) x xs here (more is)

-- one element more
pub filter-next : (p : ℕ → Bool) (xs : List ℕ) (i : ℕ) (before after : List ℕ) (kept : Bool) → i < length xs → kept ≡ p (get_or xs i 0) → before ≡ filter p (take i xs)
    → after ≡ before ++ cond kept (get_or xs i 0 ∷ []) [] → after ≡ filter p (take (i + 1) xs)
filter-next p xs i before after kept below told is pushed =
    pushed
    ∙ (ap (λ (ys : List ℕ). ys ++ cond kept (get_or xs i 0 ∷ []) []) is
    ∙ (ap (λ (b : Bool). filter p (take i xs) ++ cond b (get_or xs i 0 ∷ []) []) told ∙ sym (filter_more p xs i 0 below)))

-- ---- ranges

range-more : (n : ℕ) → range_with_len 0 (n + 1) ≡ range_with_len 0 n ++ n ∷ []
range-more n =
    sym (map-id (range_with_len 0 (n + 1)))
    ∙ (map-range_with_len_more (λ k. k) 0 n n (omega arith) ∙ ap (λ ns. ns ++ n ∷ []) (map-id (range_with_len 0 n)))

pub range-below : (n : ℕ) → All (λ b. b < n) (range_with_len 0 n)
range-below n = λ k d within.
    let inside : k < n = omega (arith, within, length-range_with_len 0 n) in
    omega (arith, inside, get_or-range_with_len 0 n k d inside)

rising-range : (n : ℕ) → IsStrictlyIncreasing (range_with_len 0 n)
rising-range n = λ k within.
    let long = length-range_with_len 0 n in
    omega (arith, get_or-range_with_len 0 n k 0 (omega (arith, within, long)), get_or-range_with_len 0 n (k + 1) 0 (omega (arith, within, long)))

-- ---- changes

pub changes-none : (edit : Edit) (held : ℕ → Option ℕ) → changes_of 0 edit held ≡ []
unfolding changes_of
changes-none edit held = refl

-- one block more
pub changes-more : (edit : Edit) (held : ℕ → Option ℕ) (n : ℕ) (before after : List ℕ) (changes : Bool) → changes ≡ is_change edit held n → before ≡ changes_of n edit held
    → after ≡ before ++ cond changes (n ∷ []) [] → after ≡ changes_of (n + 1) edit held
unfolding changes_of
changes-more edit held n before after changes told is pushed =
    pushed
    ∙ (ap (λ (bs : List ℕ). bs ++ cond changes (n ∷ []) []) is
    ∙ (ap (λ (b : Bool). filter (is_change edit held) (range_with_len 0 n) ++ cond b (n ∷ []) []) told
    ∙ sym (ap (λ (ns : List ℕ). filter (is_change edit held) ns) (range-more n) ∙ filter-append (is_change edit held) (range_with_len 0 n) (n ∷ []))))

pub changes-known : (n : ℕ) (edit : Edit) (held : ℕ → Option ℕ) → All (λ b. b < n) (changes_of n edit held)
unfolding changes_of
changes-known n edit held = All-filter (is_change edit held) (λ b. b < n) (range_with_len 0 n) (range-below n)

pub changes-rising : (n : ℕ) (edit : Edit) (held : ℕ → Option ℕ) → IsStrictlyIncreasing (changes_of n edit held)
unfolding changes_of
changes-rising n edit held = IsStrictlyIncreasing-filter (is_change edit held) (range_with_len 0 n) (rising-range n)

-- where the same is held
pub changes-same : (n : ℕ) (edit : Edit) (held other : ℕ → Option ℕ) → ((b : ℕ) → b < n → held b ≡ other b) → changes_of n edit held ≡ changes_of n edit other
unfolding changes_of
changes-same n edit held other same =
    filter-same (is_change edit held) (is_change edit other) (range_with_len 0 n)
    (All-weaker (λ b. b < n) (λ b. is_change edit held b ≡ is_change edit other b) (λ b below. ap (λ (p : Option ℕ). is_apart (base_of edit b) p (wanted_of edit b)) (same b below))
    (range_with_len 0 n) (range-below n))

-- ---- parts

pub kept-known : (is_partial : Bool) (n start : ℕ) (version : ℕ → ℕ) (changes : List ℕ) → All (λ b. b < n) changes → All (λ b. b < n) (kept_of is_partial start version changes)
kept-known true n start version changes known = All-filter (λ b. not (is_late start version b)) (λ b. b < n) changes known
kept-known false n start version changes known = known

pub kept-rising : (is_partial : Bool) (start : ℕ) (version : ℕ → ℕ) (changes : List ℕ) → IsStrictlyIncreasing changes → IsStrictlyIncreasing (kept_of is_partial start version changes)
kept-rising true start version changes rising = IsStrictlyIncreasing-filter (λ b. not (is_late start version b)) changes rising
kept-rising false start version changes rising = rising

-- where the last commits are the same
module _ (n start : ℕ) (version other : ℕ → ℕ) (changes : List ℕ) (known : All (λ b. b < n) changes) (same : (b : ℕ) → b < n → version b ≡ other b) where
  pub late-same : late_of start version changes ≡ late_of start other changes
  late-same =
      filter-same (is_late start version) (is_late start other) changes
      (All-weaker (λ b. b < n) (λ b. is_late start version b ≡ is_late start other b) (λ b below. ap (λ (v : ℕ). nat_lt start v) (same b below)) changes known)

  early-same : early_of start version changes ≡ early_of start other changes
  early-same =
      filter-same (λ b. not (is_late start version b)) (λ b. not (is_late start other b)) changes
      (All-weaker (λ b. b < n) (λ b. not (is_late start version b) ≡ not (is_late start other b)) (λ b below. ap (λ (v : ℕ). not (nat_lt start v)) (same b below)) changes known)

  pub kept-same : (is_partial : Bool) → kept_of is_partial start version changes ≡ kept_of is_partial start other changes
  kept-same true = early-same
  kept-same false = refl

  pub left-same : (is_partial : Bool) → left_of is_partial start version changes ≡ left_of is_partial start other changes
  left-same true = late-same
  left-same false = refl

-- how many are left out
pub left-count : (is_partial : Bool) (start : ℕ) (version : ℕ → ℕ) (changes late : List ℕ) (left : ℕ) → late ≡ late_of start version changes → left ≡ cond is_partial (length late) 0
    → left ≡ length (left_of is_partial start version changes)
left-count true start version changes late left is counted = counted ∙ ap length is
left-count false start version changes late left is counted = counted

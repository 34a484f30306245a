-- The numbers of blocks that went add up to the number of blocks whose period differs.
use Rattle.std.proofs.Common.{◌≡◌, ◌≢◌, ℕ, zero, suc, ◌+◌, ◌<◌, ◌≤◌, ◌==◌, ◌||◌, Bool, true, false, List, [], ◌∷◌, ◌++◌, length, length-append, map, cond, Option, Some, None, refl, sym, ap, subst, ◌∙◌, arith, inl, inr, if◌then◌else◌}
use Rattle.std.specs.Prelude.{flat_map, sum_by}
use Rattle.std.specs.List.{range_with_len}
use Rattle.std.proofs.lemmas.Bool.{cond-true, cond-false}
use Rattle.std.proofs.lemmas.Bool.Decides.{eqb_tells}
use Rattle.std.proofs.lemmas.List.Sums.{sum_by-cons, sum_by-append, sum_by_push}
use Rattle.pit_plan.proofs.CallerLemmas.{flat_map-pushed}
use Rattle.pit_diff.specs.Changes.{Change, Move, is_same, change_at, changes_of, goes, moved, move_of, periods_and_none, moves_from, moves_by, moves_of}
use Rattle.pit_diff.specs.Laid.{all_moved}
use Rattle.pit_diff.specs.Inside.Table.{IsPeriodOrNone}
use Rattle.pit_diff.proofs.Same.{some-one}
use Rattle.pit_diff.proofs.Counting.{moved-none, moved-more, goes-here, goes-elsewhere}

-- ---- sums

sum-flat : {X Y : Type 0} (f : Y → ℕ) (g : X → List Y) (xs : List X) → sum_by f (flat_map g xs) ≡ sum_by (λ (x : X). sum_by f (g x)) xs
sum-flat f g [] = refl
sum-flat {X} f g (x ∷ xs) =
    sum_by-append f (g x) (flat_map g xs)
    ∙ (ap (λ (n : ℕ). sum_by f (g x) + n) (sum-flat f g xs) ∙ sym (sum_by-cons (λ (y : X). sum_by f (g y)) x xs))

sum-same : {X : Type 0} (f g : X → ℕ) (xs : List X) → ((x : X) → f x ≡ g x) → sum_by f xs ≡ sum_by g xs
sum-same f g [] same = refl
sum-same f g (x ∷ xs) same = omega (arith, sum_by-cons f x xs, sum_by-cons g x xs, same x, sum-same f g xs same)

sum-both : {X : Type 0} (f g both : X → ℕ) (xs : List X) → ((x : X) → both x ≡ f x + g x) → sum_by both xs ≡ sum_by f xs + sum_by g xs
sum-both f g both [] is = refl
sum-both f g both (x ∷ xs) is = omega (arith, sum_by-cons f x xs, sum_by-cons g x xs, sum_by-cons both x xs, is x, sum-both f g both xs is)

sum-nothing : {X : Type 0} (f : X → ℕ) (xs : List X) → ((x : X) → f x ≡ 0) → sum_by f xs ≡ 0
sum-nothing f [] none = refl
sum-nothing f (x ∷ xs) none = omega (arith, sum_by-cons f x xs, none x, sum-nothing f xs none)

-- ---- over all periods_and_none, of which one counts alone

module _ (f : Option ℕ → ℕ) where
  none-below : (a n : ℕ) → ((t : ℕ) → f (Some t) ≡ 0) → sum_by f (map Some (range_with_len a n)) ≡ 0
  none-below a zero none = refl
  none-below a (suc n) none = omega (arith, sum_by-cons f (Some a) (map Some (range_with_len (a + 1) n)), none a, none-below (a + 1) n none)

  none-later : (t a n : ℕ) → t < a → ((k : ℕ) → k ≢ t → f (Some k) ≡ 0) → sum_by f (map Some (range_with_len a n)) ≡ 0
  none-later t a zero past none = refl
  none-later t a (suc n) past none =
      omega (
        arith,
        sum_by-cons f (Some a) (map Some (range_with_len (a + 1) n)),
        none a (λ same. omega (arith, past, same)),
        none-later t (a + 1) n (omega (arith, past)) none,
      )

  one-below : (t a n : ℕ) → a ≤ t → t < a + n → ((k : ℕ) → k ≢ t → f (Some k) ≡ 0) → sum_by f (map Some (range_with_len a n)) ≡ f (Some t)
  one-below t a zero low high none = absurd (omega (arith, low, high))
  one-below t a (suc n) low high none =
      elim (eqb_tells a t) [
        | inl here ↦
            let same : f (Some a) ≡ f (Some t) = ap (λ (k : ℕ). f (Some k)) here.1 in
            omega (arith, sum_by-cons f (Some a) (map Some (range_with_len (a + 1) n)), same, none-later t (a + 1) n (omega (arith, here.1)) none)
        | inr there ↦
            omega (
              arith,
              sum_by-cons f (Some a) (map Some (range_with_len (a + 1) n)),
              none a there.1,
              one-below t (a + 1) n (omega (arith, low, there.1)) (omega (arith, high)) none,
            )
      ]

  pub sum-one : (periods : ℕ) (a : Option ℕ) → IsPeriodOrNone periods a → ((p : Option ℕ) → p ≢ a → f p ≡ 0) → sum_by f (periods_and_none periods) ≡ f a
  unfolding periods_and_none
  sum-one periods None is none = omega (arith, sum_by_push f (map Some (range_with_len 0 periods)) None, none-below 0 periods (λ t. none (Some t) (λ same. cc)))
  sum-one periods (Some t) is none =
      omega (
        arith,
        sum_by_push f (map Some (range_with_len 0 periods)) None,
        one-below t 0 periods (omega arith) (omega (arith, is)) (λ k apart. none (Some k) (λ same. apart (some-one k t 0 same))),
        none None (λ same. cc),
      )

-- ---- over all pairs of periods_and_none

-- what a pair counts
abbrev apart : Option ℕ → Option ℕ → ℕ → ℕ
apart from to number = cond (is_same from to) 0 number

abbrev grid : ℕ → (Option ℕ → Option ℕ → ℕ) → ℕ
grid periods number = sum_by (λ (from : Option ℕ). sum_by (λ (to : Option ℕ). apart from to (number from to)) (periods_and_none periods)) (periods_and_none periods)

move-of : (from to : Option ℕ) (number : ℕ) → all_moved (move_of from to number) ≡ apart from to number
move-of from to number = by (is_same from to)
  where
    by : (same : Bool) → all_moved (if same || number == 0 then [] else record { old = from; new = to; number = number } ∷ []) ≡ cond same 0 number
    by true = refl
    by false = elim (eqb_tells number 0) [ inl none ↦ rw (none.0) (sym none.1) | inr some ↦ rw (some.0) (omega arith) ]

moves-grid : (periods : ℕ) (number : Option ℕ → Option ℕ → ℕ) → all_moved (moves_by periods number) ≡ grid periods number
unfolding moves_by
moves-grid periods number =
    sum-flat (λ (move : Move). move.number) (moves_from periods number) (periods_and_none periods)
    ∙ sum-same (λ (from : Option ℕ). all_moved (moves_from periods number from)) (λ (from : Option ℕ). sum_by (λ (to : Option ℕ). apart from to (number from to)) (periods_and_none periods)) (periods_and_none periods)
    (λ from.
    sum-flat (λ (move : Move). move.number) (λ to. move_of from to (number from to)) (periods_and_none periods)
    ∙ sum-same (λ (to : Option ℕ). all_moved (move_of from to (number from to))) (λ (to : Option ℕ). apart from to (number from to)) (periods_and_none periods) (λ to. move-of from to (number from to)))

apart-both : (from to : Option ℕ) (both number more : ℕ) → both ≡ number + more → apart from to both ≡ apart from to number + apart from to more
apart-both from to both number more is = by (is_same from to)
  where
    by : (same : Bool) → cond same 0 both ≡ cond same 0 number + cond same 0 more
    by true = refl
    by false = is

grid-both : (periods : ℕ) (both number more : Option ℕ → Option ℕ → ℕ) → ((from to : Option ℕ) → both from to ≡ number from to + more from to) → grid periods both ≡ grid periods number + grid periods more
grid-both periods both number more is =
    sum-both (λ (from : Option ℕ). sum_by (λ (to : Option ℕ). apart from to (number from to)) (periods_and_none periods))
    (λ (from : Option ℕ). sum_by (λ (to : Option ℕ). apart from to (more from to)) (periods_and_none periods))
    (λ (from : Option ℕ). sum_by (λ (to : Option ℕ). apart from to (both from to)) (periods_and_none periods)) (periods_and_none periods)
    (λ from.
    sum-both (λ (to : Option ℕ). apart from to (number from to)) (λ (to : Option ℕ). apart from to (more from to)) (λ (to : Option ℕ). apart from to (both from to)) (periods_and_none periods)
    (λ to. apart-both from to (both from to) (number from to) (more from to) (is from to)))

apart-none : (from to : Option ℕ) (number : ℕ) → number ≡ 0 → apart from to number ≡ 0
apart-none from to number none = by (is_same from to)
  where
    by : (same : Bool) → cond same 0 number ≡ 0
    by true = refl
    by false = none

grid-none : (periods : ℕ) (number : Option ℕ → Option ℕ → ℕ) → ((from to : Option ℕ) → number from to ≡ 0) → grid periods number ≡ 0
grid-none periods number none =
    sum-nothing (λ (from : Option ℕ). sum_by (λ (to : Option ℕ). apart from to (number from to)) (periods_and_none periods)) (periods_and_none periods)
    (λ from. sum-nothing (λ (to : Option ℕ). apart from to (number from to)) (periods_and_none periods) (λ to. apart-none from to (number from to) (none from to)))

module _ (old new : ℕ → Option ℕ) (periods : ℕ) where
  -- one block counts once, where its period differs
  grid-one : (b : ℕ) → IsPeriodOrNone periods (old b) → IsPeriodOrNone periods (new b) → grid periods (λ from to. cond (goes old new from to b) 1 0) ≡ cond (is_same (old b) (new b)) 0 1
  grid-one b is also =
      let row : Option ℕ → ℕ = λ (from : Option ℕ). sum_by (λ (to : Option ℕ). apart from to (cond (goes old new from to b) 1 0)) (periods_and_none periods) in
      let cell : Option ℕ → Option ℕ → ℕ = λ (from to : Option ℕ). apart from to (cond (goes old new from to b) 1 0) in
      let row-is : (from : Option ℕ) → row from ≡ cell from (new b) =
      λ from.
      sum-one (cell from) periods (new b) also
      (λ to other. apart-none from to (cond (goes old new from to b) 1 0) (cond-false (goes old new from to b) 1 0 (goes-elsewhere old new from to b (λ both. other (sym both.1))))) in
      sum-one row periods (old b) is
      (λ from other.
      row-is from
      ∙ apart-none from (new b) (cond (goes old new from (new b) b) 1 0)
      (cond-false (goes old new from (new b) b) 1 0 (goes-elsewhere old new from (new b) b (λ both. other (sym both.0)))))
      ∙ (row-is (old b) ∙ ap (apart (old b) (new b)) (cond-true (goes old new (old b) (new b) b) 1 0 (goes-here old new (old b) (new b) b refl refl)))

  -- ---- and of the blocks

  change-one : (b : ℕ) → length (change_at old new b) ≡ cond (is_same (old b) (new b)) 0 1
  change-one b = by (is_same (old b) (new b))
    where
      by : (same : Bool) → length {A = Change} (if same then [] else record { block = b; old = old b; new = new b } ∷ []) ≡ cond same 0 1
      by true = refl
      by false = refl

  changes-more : (n : ℕ) → length (changes_of (n + 1) old new) ≡ length (changes_of n old new) + cond (is_same (old n) (new n)) 0 1
  unfolding changes_of
  changes-more n =
      let rows = flat_map (change_at old new) (range_with_len 0 n) in
      sym (ap length (flat_map-pushed (change_at old new) [] rows (rows ++ change_at old new n) n refl refl))
      ∙ (length-append rows (change_at old new n) ∙ ap (λ (k : ℕ). length rows + k) (change-one n))

  changes-none : length (changes_of 0 old new) ≡ 0
  unfolding changes_of
  changes-none = refl

  all-add_up : (n : ℕ) → ((b : ℕ) → b < n → IsPeriodOrNone periods (old b)) → ((b : ℕ) → b < n → IsPeriodOrNone periods (new b)) → grid periods (moved n old new) ≡ length (changes_of n old new)
  all-add_up zero is also = grid-none periods (moved 0 old new) (moved-none old new) ∙ sym changes-none
  all-add_up (suc n) is also =
      let one : ◌≡◌ {A = ℕ} (n + 1) (suc n) = omega arith in
      let before = all-add_up n (λ b below. is b (omega (arith, below))) (λ b below. also b (omega (arith, below))) in
      let both = grid-both periods (moved (n + 1) old new) (moved n old new) (λ from to. cond (goes old new from to n) 1 0) (λ from to. moved-more old new n from to) in
      let last = grid-one n (is n (omega arith)) (also n (omega arith)) in
      subst (λ (k : ℕ). grid periods (moved k old new) ≡ length (changes_of k old new)) one
      (both ∙ (ap (λ (k : ℕ). k + grid periods (λ from to. cond (goes old new from to n) 1 0)) before
      ∙ (ap (λ (k : ℕ). length (changes_of n old new) + k) last ∙ sym (changes-more n))))

pub add-up : (blocks periods : ℕ) (old new : ℕ → Option ℕ) → ((b : ℕ) → b < blocks → IsPeriodOrNone periods (old b)) → ((b : ℕ) → b < blocks → IsPeriodOrNone periods (new b))
    → all_moved (moves_of blocks periods old new) ≡ length (changes_of blocks old new)
add-up blocks periods old new is also = moves-grid periods (moved blocks old new) ∙ all-add_up old new periods blocks is also

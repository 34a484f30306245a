-- A walk finds the members.
use Rattle.std.proofs.Common.{◌≡◌, ℕ, zero, suc, ◌+◌, ◌<◌, ◌≤◌, inl, inr, ⊎_elim, Bool, true, false, cond, ◌||◌, eqb, nat_eq, List, [], ◌∷◌, ◌++◌, Option, Some, None, length, get_or, refl, sym, ap, subst, subst₂, ◌∙◌, arith, eq-eqb, ne_eqb, eqb-true, nat_cmp}
use Rattle.std.specs.Prelude.{is_some}
use Rattle.std.specs.Cmp.{nat_eq_equiv}
use Rattle.std.specs.List.{All, AllPairs, Contains, IsDistinct, filter, list_any, list_all, range_with_len}
use Rattle.std.specs.List.Sorted.{IsSorted, IsPermutation, IsStrictlyIncreasing}
use Rattle.std.proofs.lemmas.Bool.{cases_Bool, cases_eq, false≢true}
use Rattle.std.proofs.lemmas.List.Elements.{All-nil, All-cons, All-head, All-tail, All-weaker, All-contains, All-push, All-contains_itself, Contains-push, Contains-append_left, Contains-push_cases}
use Rattle.std.proofs.lemmas.List.Kept.{AllPairs-from_increasing}
use Rattle.std.proofs.lemmas.List.Sorted.{All-permutation, Contains-permutation, IsNonDecreasingBy-from_sort}
use Rattle.std.proofs.lemmas.Map.Keys.{IsDistinct-push, IsDistinct-IsPermutation, IsStrictlyIncreasing-from_distinct}
use Rattle.std.proofs.lemmas.Map.Steps.{length-le_from_distinct_below}
use Rattle.pit_job.specs.Cones.{in_round, cone_of, all_led, IsNextOf}
use Rattle.pit_job.specs.Effect.{Known, Agrees}
use Rattle.pit_job.specs.Inside.Walking.{IsWalk}
use Rattle.pit_job.proofs.Cones.{both, left, right, same-from, any-some, some-any, is_in-from, from-is_in, all-range, filter-on, round-least, cone-closed, cone-starts, cone-has, has-cone}

-- ---- tests of all elements

all-from : (p : ℕ → Bool) (xs : List ℕ) → ((x : ℕ) → Contains xs x → p x ≡ true) → list_all p xs ≡ true
all-from p [] each = refl
all-from p (x ∷ xs) each = both (p x) (list_all p xs) (each x (All-head (Contains (x ∷ xs)) x xs (All-contains_itself (x ∷ xs))))
    (all-from p xs (λ y among. each y (All-contains (Contains (x ∷ xs)) xs y (All-tail (Contains (x ∷ xs)) x xs (All-contains_itself (x ∷ xs))) among)))

from-all : (p : ℕ → Bool) (xs : List ℕ) → list_all p xs ≡ true → All (λ x. p x ≡ true) xs
from-all p [] is = All-nil (λ x. p x ≡ true)
from-all p (x ∷ xs) is = All-cons (λ x. p x ≡ true) x xs (left (p x) (list_all p xs) is) (from-all p xs (right (p x) (list_all p xs) is))

-- all that members lead to
pub led-from : (p : ℕ → Bool) (next : ℕ → List ℕ) (xs : List ℕ) → ((m a : ℕ) → Contains xs m → Contains (next m) a → p a ≡ true) → all_led p next xs ≡ true
led-from p next xs each = all-from (λ m. list_all p (next m)) xs (λ m among. all-from p (next m) (λ a led. each m a among led))

pub from-led : (p : ℕ → Bool) (next : ℕ → List ℕ) (xs : List ℕ) → all_led p next xs ≡ true → (m a : ℕ) → Contains xs m → Contains (next m) a → p a ≡ true
from-led p next xs is m a among led =
    All-contains (λ x. p x ≡ true) (next m) a (from-all p (next m) (All-contains (λ y. list_all p (next y) ≡ true) xs m (from-all (λ y. list_all p (next y)) xs is) among)) led

-- ---- tests that agree

-- two tests that agree at the start and at all that members of the one lead to have the same members
pub cone-same : (blocks : ℕ) (w v : ℕ → Bool) (next : ℕ → List ℕ) (start : ℕ) → w start ≡ v start
    → ((b m : ℕ) → m < blocks → b < blocks → in_round blocks w next start blocks m ≡ true → Contains (next m) b → w b ≡ v b)
    → cone_of blocks v next start ≡ cone_of blocks w next start
unfolding cone_of
cone-same blocks w v next start first agree =
    let more : (c : ℕ) → in_round blocks v next start blocks c ≡ true → c < blocks → in_round blocks w next start blocks c ≡ true = λ c.
    round-least blocks v next start (λ c. c < blocks → in_round blocks w next start blocks c ≡ true)
    (λ is less. cone-starts blocks w next start (first ∙ is))
    (λ b m is within among before less. cone-closed blocks w next start b m less (agree b m within less (before within) among ∙ is) within among (before within)) blocks c in
    let less : (c : ℕ) → in_round blocks w next start blocks c ≡ true → c < blocks → (in_round blocks w next start blocks c ≡ true) × (in_round blocks v next start blocks c ≡ true) = λ c.
    round-least blocks w next start (λ c. c < blocks → (in_round blocks w next start blocks c ≡ true) × (in_round blocks v next start blocks c ≡ true))
    (λ is less. (cone-starts blocks w next start is, cone-starts blocks v next start (sym first ∙ is)))
    (λ b m is within among before less. (
      cone-closed blocks w next start b m less is within among (before within).0,
      cone-closed blocks v next start b m less (sym (agree b m within less (before within).0 among) ∙ is) within among (before within).1,
    )) blocks c in
    filter-on (λ b. in_round blocks v next start blocks b) (λ b. in_round blocks w next start blocks b) (range_with_len 0 blocks)
    (all-range (λ x. in_round blocks v next start blocks x ≡ in_round blocks w next start blocks x) blocks
    (λ b within. same-from (in_round blocks v next start blocks b) (in_round blocks w next start blocks b) (λ is. more b is within) (λ is. (less b is within).1)))

-- ---- a map that holds more

some-of : (o : Option (Option ℕ)) → is_some o ≡ true → (v : Option ℕ) × (o ≡ Some v)
some-of None is = absurd (false≢true is)
some-of (Some v) is = (v, refl)

-- what is known is the same in a map that holds more
pub held-same : (known more : Known) → Agrees known more → (b : ℕ) → is_some (known b) ≡ true → more b ≡ known b
held-same known more holds b is = let v = some-of (known b) is in holds b v.0 v.1 ∙ sym v.1

pub held-known : (known more : Known) → Agrees known more → (b : ℕ) → is_some (known b) ≡ true → is_some (more b) ≡ true
held-known known more holds b is = ap (λ (o : Option (Option ℕ)). is_some o) (held-same known more holds b is) ∙ is

wanted-known : (wanted : Option (Option ℕ) → Bool) → wanted None ≡ false → (o : Option (Option ℕ)) → wanted o ≡ true → is_some o ≡ true
wanted-known wanted none None is = absurd (false≢true (sym none ∙ is))
wanted-known wanted none (Some v) is = refl

-- where all that members lead to is known, a map that holds more has the same members, and knows all that
pub cone-agrees : (blocks : ℕ) (wanted : Option (Option ℕ) → Bool) (next : ℕ → List ℕ) (start : ℕ) (known more : Known) → Agrees known more → is_some (known start) ≡ true
    → all_led (λ a. is_some (known a)) next (cone_of blocks (λ b. wanted (known b)) next start) ≡ true
    → (cone_of blocks (λ b. wanted (more b)) next start ≡ cone_of blocks (λ b. wanted (known b)) next start)
    × (is_some (more start) ≡ true) × (all_led (λ a. is_some (more a)) next (cone_of blocks (λ b. wanted (more b)) next start) ≡ true)
cone-agrees blocks wanted next start known more holds first led =
    let each = from-led (λ a. is_some (known a)) next (cone_of blocks (λ b. wanted (known b)) next start) led in
    let same : cone_of blocks (λ b. wanted (more b)) next start ≡ cone_of blocks (λ b. wanted (known b)) next start =
    cone-same blocks (λ b. wanted (known b)) (λ b. wanted (more b)) next start (ap wanted (sym (held-same known more holds start first)))
    (λ b m within less in_it among. ap wanted (sym (held-same known more holds b (each m b (cone-has blocks (λ b. wanted (known b)) next start m within in_it) among)))) in (
      same,
      held-known known more holds start first,
      led-from (λ a. is_some (more a)) next (cone_of blocks (λ b. wanted (more b)) next start)
          (λ m a among led. held-known known more holds a (each m a (subst (λ (xs : List ℕ). Contains xs m) same among) led)),
    )

-- ---- lists with the same members

abbrev Rises : ℕ → ℕ → List ℕ → Type 0
Rises low high [] = Unit {0}
Rises low high (x ∷ xs) = (low ≤ x) × (x < high) × Rises (x + 1) high xs

Rises-from_increasing : (low high : ℕ) (xs : List ℕ) → IsStrictlyIncreasing xs → All (λ x. low ≤ x) xs → All (λ x. x < high) xs → Rises low high xs
Rises-from_increasing low high xs up above below = pairs low xs (AllPairs-from_increasing xs up) above below
  where
    pairs : (from : ℕ) (ys : List ℕ) → AllPairs (λ x y. x < y) ys → All (λ x. from ≤ x) ys → All (λ x. x < high) ys → Rises from high ys
    pairs from [] ordered least most = tt
    pairs from (y ∷ ys) ordered least most = (
      least 0 y (omega arith),
      most 0 y (omega arith),
      pairs (y + 1) ys (λ i j d less within. ordered (suc i) (suc j) d (omega arith) (omega arith)) (λ k d lt. let more : y < get_or ys k d = ordered 0 (suc k) d (omega arith) (omega arith) in omega arith) (λ k d lt. most (suc k) d (omega arith)),
    )

is_in-below : (a low high : ℕ) (xs : List ℕ) → Rises low high xs → a < low → list_any (λ x. eqb x a) xs ≡ false
is_in-below a low high [] up less = refl
is_in-below a low high (x ∷ xs) up less = rw (ne_eqb x a (λ same. omega (arith, up.0)), is_in-below a (x + 1) high xs up.2 (omega (arith, up.0))) refl

-- what a range has of the members of a rising list that lies in it
filter-Rises : (p : ℕ → Bool) (low n : ℕ) (xs : List ℕ) → Rises low (low + n) xs → ((a : ℕ) → low ≤ a → a < low + n → p a ≡ list_any (λ x. eqb x a) xs) → filter p (range_with_len low n) ≡ xs
filter-Rises p low zero [] up same = refl
filter-Rises p low zero (x ∷ xs) up same = absurd (omega (arith, up.0, up.1))
filter-Rises p low (suc n) [] up same = rw (same low (omega arith) (omega arith)) (filter-Rises p (low + 1) n [] tt (λ a le lt. same a (omega arith) (omega arith)))
filter-Rises p low (suc n) (x ∷ xs) up same = ⊎_elim
    (λ e.
    let here : p low ≡ true = same low (omega arith) (omega arith) ∙ ap (λ b. b || list_any (λ x. eqb x low) xs) (eq-eqb x low e) in
    let next : Rises (low + 1) (low + 1 + n) xs = subst₂ (λ m h. Rises m h xs) {x = x + 1} {y = low + 1} {u = low + suc n} {v = low + 1 + n} (omega arith) (omega arith) up.2 in
    let agree : (a : ℕ) → low + 1 ≤ a → a < low + 1 + n → p a ≡ list_any (λ x. eqb x a) xs = λ a le lt. same a (omega arith) (omega arith) ∙ ap (λ b. b || list_any (λ x. eqb x a) xs) (ne_eqb x a (λ f. omega arith)) in
    rw (here, filter-Rises p (low + 1) n xs next agree, e) refl)
    (λ e.
    let here : p low ≡ false = same low (omega arith) (omega arith) ∙ is_in-below low (low + 1) (low + suc n) (x ∷ xs) (omega (arith, up.0), up.1, up.2) (omega arith) in
    let next : Rises (low + 1) (low + 1 + n) (x ∷ xs) = subst (λ h. Rises (low + 1) h (x ∷ xs)) {x = low + suc n} {y = low + 1 + n} (omega arith) (omega (arith, up.0), up.1, up.2) in
    rw here (filter-Rises p (low + 1) n (x ∷ xs) next (λ a le lt. same a (omega arith) (omega arith))))
    (cases_eq x low)

eqb-flips : (x y : ℕ) → nat_eq x y ≡ nat_eq y x
eqb-flips x y = same-from (eqb x y) (eqb y x) (λ is. eq-eqb y x (sym (eqb-true x y is))) (λ is. eq-eqb x y (sym (eqb-true y x is)))

-- a sorted list of what a filter has
pub filter-is : (p : ℕ → Bool) (n : ℕ) (found sorted : List ℕ) → IsPermutation found sorted → IsSorted nat_cmp sorted → IsDistinct nat_eq found → All (λ x. x < n) found
    → ((a : ℕ) → a < n → p a ≡ true → Contains found a) → All (λ a. p a ≡ true) found → filter p (range_with_len 0 n) ≡ sorted
filter-is p n found sorted moved up distinct below all each =
    let rising : IsStrictlyIncreasing sorted = IsStrictlyIncreasing-from_distinct sorted (IsNonDecreasingBy-from_sort (λ x. x) sorted up) (IsDistinct-IsPermutation nat_eq eqb-flips found sorted moved distinct) in
    let rises : Rises 0 (0 + n) sorted = subst (λ h. Rises 0 h sorted) {x = n} {y = 0 + n} (omega arith) (Rises-from_increasing 0 n sorted rising (λ k d lt. omega arith) (All-permutation (λ x. x < n) found sorted moved below)) in
    filter-Rises p 0 n sorted rises (λ a le lt. same-from (p a) (list_any (λ x. eqb x a) sorted)
    (λ is. is_in-from a sorted (Contains-permutation found sorted a moved (all a (omega arith) is)))
    (λ is. All-contains (λ a. p a ≡ true) sorted a (All-permutation (λ a. p a ≡ true) found sorted moved each) (from-is_in a sorted is)))

pub cone-is : (blocks : ℕ) (late : ℕ → Bool) (next : ℕ → List ℕ) (start : ℕ) (found sorted : List ℕ) → IsPermutation found sorted → IsSorted nat_cmp sorted → IsDistinct nat_eq found → All (λ x. x < blocks) found
    → ((a : ℕ) → a < blocks → in_round blocks late next start blocks a ≡ true → Contains found a) → All (λ a. in_round blocks late next start blocks a ≡ true) found → cone_of blocks late next start ≡ sorted
unfolding cone_of
cone-is blocks late next start found sorted moved up distinct below all each = filter-is (λ b. in_round blocks late next start blocks b) blocks found sorted moved up distinct below all each

-- ---- the walk

pub next-kept : (next : ℕ → List ℕ) (start : ℕ) (found now : List ℕ) → ((m : ℕ) → Contains found m → Contains now m) → (b : ℕ) → IsNextOf next start found b → IsNextOf next start now b
next-kept next start found now kept b (inl same) = inl same
next-kept next start found now kept b (inr (m, among, leads)) = inr (m, kept m among, leads)

distinct-none : IsDistinct nat_eq []
unfolding IsDistinct
distinct-none = tt

module _ (blocks : ℕ) (wanted : Option (Option ℕ) → Bool) (none : wanted None ≡ false) (next : ℕ → List ℕ) (start : ℕ) where
  -- a map that holds more has no fewer members
  round-grows : (known more : Known) → Agrees known more → (n b : ℕ) → in_round blocks (λ b. wanted (known b)) next start n b ≡ true → b < blocks → in_round blocks (λ b. wanted (more b)) next start blocks b ≡ true
  round-grows known more holds n b is =
      let later : (c : ℕ) → wanted (known c) ≡ true → wanted (more c) ≡ true = λ c is. ap wanted (held-same known more holds c (wanted-known wanted none (known c) is)) ∙ is in
      round-least blocks (λ b. wanted (known b)) next start (λ c. c < blocks → in_round blocks (λ b. wanted (more b)) next start blocks c ≡ true)
      (λ is less. cone-starts blocks (λ b. wanted (more b)) next start (later start is))
      (λ b m is within among before less. cone-closed blocks (λ b. wanted (more b)) next start b m less (later b is) within among (before within)) n b is

  pub found-below : (known : Known) (visited found : List ℕ) → IsWalk blocks wanted next start known visited found → All (λ m. m < blocks) found
  found-below known visited found walk = All-weaker (Contains visited) (λ m. m < blocks) (λ m among. All-contains (λ a. a < blocks) visited m walk.below among) found walk.visits

  -- nothing is visited
  pub walk-none : (known : Known) → IsWalk blocks wanted next start known [] []
  walk-none known = record {
    read = All-nil (λ a. is_some (known a) ≡ true);
    below = All-nil (λ a. a < blocks);
    led = All-nil (IsNextOf next start []);
    visits = All-nil (Contains []);
    finds = All-nil (λ m. in_round blocks (λ b. wanted (known b)) next start blocks m ≡ true);
    distinct = distinct-none;
    whole = λ a among is. absurd (omega (arith, among.1));
  }

  -- more is known
  pub walk-grows : (known more : Known) (visited found : List ℕ) → Agrees known more → IsWalk blocks wanted next start known visited found → IsWalk blocks wanted next start more visited found
  walk-grows known more visited found holds walk = record {
    read = All-weaker (λ a. is_some (known a) ≡ true) (λ a. is_some (more a) ≡ true) (λ a is. held-known known more holds a is) visited walk.read;
    below = walk.below;
    led = walk.led;
    visits = walk.visits;
    finds = λ k d lt. round-grows known more holds blocks (get_or found k d) (walk.finds k d lt) (found-below known visited found walk k d lt);
    distinct = walk.distinct;
    whole = λ a among is. walk.whole a among (sym (ap wanted (held-same known more holds a (All-contains (λ a. is_some (known a) ≡ true) visited a walk.read among))) ∙ is);
  }

  -- one block more is visited, of which this is known
  pub walk-more : (known : Known) (visited found : List ℕ) (b : ℕ) (period : Option ℕ) → IsWalk blocks wanted next start known visited found → b < blocks → list_any (nat_eq b) visited ≡ false → known b ≡ Some period
      → IsNextOf next start found b → IsWalk blocks wanted next start known (visited ++ b ∷ []) (cond (wanted (Some period)) (found ++ b ∷ []) found)
  walk-more known visited found b period walk less new is leads = by (wanted (Some period)) refl
    where
      apart : list_any (nat_eq b) found ≡ false
      apart = elim (cases_Bool (list_any (nat_eq b) found)) [
        | inr out ↦ out
        | inl in_it ↦
            let m = any-some (nat_eq b) found in_it in
            let there : Contains visited b = subst (Contains visited) (sym (eqb-true b m.0 m.2)) (All-contains (Contains visited) found m.0 walk.visits m.1) in
            absurd (false≢true (sym new ∙ some-any (nat_eq b) visited b there (eq-eqb b b refl)))
      ]

      read : All (λ a. is_some (known a) ≡ true) (visited ++ b ∷ [])
      read = All-push (λ a. is_some (known a) ≡ true) visited b walk.read (ap (λ (o : Option (Option ℕ)). is_some o) is)

      below : All (λ a. a < blocks) (visited ++ b ∷ [])
      below = All-push (λ a. a < blocks) visited b walk.below less

      led : (now : List ℕ) → ((m : ℕ) → Contains found m → Contains now m) → All (IsNextOf next start now) (visited ++ b ∷ [])
      led now kept = All-push (IsNextOf next start now) visited b (All-weaker (IsNextOf next start found) (IsNextOf next start now) (λ c is. next-kept next start found now kept c is) visited walk.led)
          (next-kept next start found now kept b leads)

      visits : All (Contains (visited ++ b ∷ [])) found
      visits = All-weaker (Contains visited) (Contains (visited ++ b ∷ [])) (λ m among. Contains-append_left visited (b ∷ []) m among) found walk.visits

      member : wanted (known b) ≡ true → in_round blocks (λ b. wanted (known b)) next start blocks b ≡ true
      member late = elim leads [
        | inl same ↦ subst (λ c. in_round blocks (λ b. wanted (known b)) next start blocks c ≡ true) (sym same) (cone-starts blocks (λ b. wanted (known b)) next start (subst (λ c. wanted (known c) ≡ true) same late))
        | inr m ↦ cone-closed blocks (λ b. wanted (known b)) next start b m.0 less late (All-contains (λ m. m < blocks) found m.0 (found-below known visited found walk) m.1) m.2
            (All-contains (λ m. in_round blocks (λ b. wanted (known b)) next start blocks m ≡ true) found m.0 walk.finds m.1)
      ]

      by : (c : Bool) → wanted (Some period) ≡ c → IsWalk blocks wanted next start known (visited ++ b ∷ []) (cond c (found ++ b ∷ []) found)
      by true e = record {
        read = read;
        below = below;
        led = led (found ++ b ∷ []) (λ m among. Contains-append_left found (b ∷ []) m among);
        visits = All-push (Contains (visited ++ b ∷ [])) found b visits (Contains-push visited b);
        finds = All-push (λ m. in_round blocks (λ b. wanted (known b)) next start blocks m ≡ true) found b walk.finds (member (ap wanted is ∙ e));
        distinct = IsDistinct-push nat_eq_equiv found b walk.distinct apart;
        whole = λ a among late. elim (Contains-push_cases visited b a among) [
          | inl before ↦ Contains-append_left found (b ∷ []) a (walk.whole a before late)
          | inr same ↦ subst (Contains (found ++ b ∷ [])) same (Contains-push found b)
        ];
      }
      by false e = record {
        read = read;
        below = below;
        led = led found (λ m among. among);
        visits = visits;
        finds = walk.finds;
        distinct = walk.distinct;
        whole = λ a among late. elim (Contains-push_cases visited b a among) [
          | inl before ↦ walk.whole a before late
          | inr same ↦ absurd (false≢true (sym e ∙ sym (ap wanted is) ∙ ap (λ c. wanted (known c)) same ∙ late))
        ];
      }

  -- there are no more members than blocks
  pub walk-few : (known : Known) (visited found : List ℕ) → IsWalk blocks wanted next start known visited found → length found ≤ blocks
  walk-few known visited found walk = length-le_from_distinct_below found blocks walk.distinct (λ q is.
      let m = any-some (nat_eq q) found is in
      subst (λ x. x < blocks) (sym (eqb-true q m.0 m.2)) (All-contains (λ m. m < blocks) found m.0 (found-below known visited found walk) m.1))

  -- where all that the members lead to was visited, they are all
  pub walk-whole : (known more : Known) (visited found sorted : List ℕ) → IsWalk blocks wanted next start known visited found → Agrees known more → Contains visited start
      → ((m a : ℕ) → Contains found m → Contains (next m) a → Contains visited a) → IsPermutation found sorted → IsSorted nat_cmp sorted
      → (cone_of blocks (λ b. wanted (more b)) next start ≡ sorted) × (is_some (more start) ≡ true) × (all_led (λ a. is_some (more a)) next (cone_of blocks (λ b. wanted (more b)) next start) ≡ true)
  walk-whole known more visited found sorted old holds first led moved up =
      let walk = walk-grows known more visited found holds old in
      let below = found-below more visited found walk in
      let all : (a : ℕ) → in_round blocks (λ b. wanted (more b)) next start blocks a ≡ true → Contains found a = λ a.
      round-least blocks (λ b. wanted (more b)) next start (Contains found) (λ is. walk.whole start first is) (λ b m is within among before. walk.whole b (led m b before among) is) blocks a in
      let known_at : (a : ℕ) → Contains visited a → is_some (more a) ≡ true = λ a among. All-contains (λ a. is_some (more a) ≡ true) visited a walk.read among in (
        cone-is blocks (λ b. wanted (more b)) next start found sorted moved up walk.distinct below (λ a less is. all a is) walk.finds,
        known_at start first,
        led-from (λ a. is_some (more a)) next (cone_of blocks (λ b. wanted (more b)) next start) (λ m a among to. known_at a (led m a (all m (has-cone blocks (λ b. wanted (more b)) next start m among).1) to)),
      )

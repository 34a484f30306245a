-- Rounds: they grow, come to an end, and are then the least set that is closed.
use Rattle.std.proofs.Common.{◌≡◌, ℕ, zero, suc, ◌+◌, ◌<◌, ◌≤◌, ◌⊎◌, inl, inr, Bool, true, false, cond, ◌&&◌, ◌||◌, eqb, List, [], ◌∷◌, length, get_or, refl, sym, ap, subst, ◌∙◌, arith, eq-eqb, eqb-true}
use Rattle.std.specs.List.{All, Contains, filter, list_any, range_with_len}
use Rattle.std.proofs.lemmas.Bool.{false≢true}
use Rattle.std.proofs.lemmas.List.Elements.{All-cons, All-head, All-tail, All-contains, All-contains_itself, All-filter, filter_passes}
use Rattle.std.proofs.lemmas.List.Folds.{Any-from_list_any, list_any_at}
use Rattle.std.proofs.lemmas.List.FromFn.{length-range_with_len, get_or-range_with_len}
use Rattle.pit_job.specs.Cones.{in_round, cone_of, Reaches, here, further}

-- ---- tests

pub both : (a b : Bool) → a ≡ true → b ≡ true → a && b ≡ true
both true b p q = q
both false b p q = absurd (false≢true p)

pub left : (a b : Bool) → a && b ≡ true → a ≡ true
left true b p = refl
left false b p = absurd (false≢true p)

pub right : (a b : Bool) → a && b ≡ true → b ≡ true
right true b p = p
right false b p = absurd (false≢true p)

either : (a b : Bool) → a || b ≡ true → (a ≡ true) ⊎ (b ≡ true)
either true b p = inl refl
either false b p = inr p

or-left : (a b : Bool) → a ≡ true → a || b ≡ true
or-left true b p = refl
or-left false b p = absurd (false≢true p)

or-right : (a b : Bool) → b ≡ true → a || b ≡ true
or-right true b p = refl
or-right false b p = p

pub same-from : (a b : Bool) → (a ≡ true → b ≡ true) → (b ≡ true → a ≡ true) → a ≡ b
same-from true true f g = refl
same-from true false f g = sym (f refl)
same-from false true f g = g refl
same-from false false f g = refl

-- an element that passes
pub any-some : (p : ℕ → Bool) (xs : List ℕ) → list_any p xs ≡ true → (m : ℕ) × Contains xs m × (p m ≡ true)
any-some p xs is = let found = Any-from_list_any p xs is in (found.1, (found.0, found.2, found.3), found.4)

pub some-any : (p : ℕ → Bool) (xs : List ℕ) (m : ℕ) → Contains xs m → p m ≡ true → list_any p xs ≡ true
some-any p xs m among passes = list_any_at p xs among.0 m among.1 (ap p among.2 ∙ passes)

-- what holds at each of a range
pub at-range : (P : ℕ → Type 0) (n b : ℕ) → All P (range_with_len 0 n) → b < n → P b
at-range P n b each less =
    let long = length-range_with_len 0 n in
    let here : get_or (range_with_len 0 n) b 0 ≡ 0 + b = get_or-range_with_len 0 n b 0 less in
    subst P {x = get_or (range_with_len 0 n) b 0} {y = b} (omega arith) (each b 0 (omega arith))

pub all-range : (P : ℕ → Type 0) (n : ℕ) → ((b : ℕ) → b < n → P b) → All P (range_with_len 0 n)
all-range P n each k d within =
    let long = length-range_with_len 0 n in
    let here : get_or (range_with_len 0 n) k d ≡ 0 + k = get_or-range_with_len 0 n k d (omega arith) in
    subst P {x = k} {y = get_or (range_with_len 0 n) k d} (omega arith) (each k (omega arith))

pub in-range : (n m : ℕ) → Contains (range_with_len 0 n) m → m < n
in-range n m among = All-contains (λ x. x < n) (range_with_len 0 n) m (all-range (λ x. x < n) n (λ b less. less)) among

pub range-has : (n m : ℕ) → m < n → Contains (range_with_len 0 n) m
range-has n m less = at-range (λ x. Contains (range_with_len 0 n) x) n m (All-contains_itself (range_with_len 0 n)) less

-- ---- counting

kept-most : (p : ℕ → Bool) (xs : List ℕ) → length (filter p xs) ≤ length xs
kept-most p [] = omega arith
kept-most p (x ∷ xs) = by (p x) (kept-most p xs)
  where
    by : (c : Bool) → length (filter p xs) ≤ length xs → length (cond c (x ∷ filter p xs) (filter p xs)) ≤ length (x ∷ xs)
    by true h = omega (arith, h)
    by false h = omega (arith, h)

-- where as many are kept as there are, each passes
kept-all : (p : ℕ → Bool) (xs : List ℕ) → length xs ≤ length (filter p xs) → All (λ x. p x ≡ true) xs
kept-all p [] h = λ k d lt. absurd (omega (arith, lt))
kept-all p (x ∷ xs) h = by (p x) refl h (kept-all p xs)
  where
    by : (c : Bool) → p x ≡ c → length (x ∷ xs) ≤ length (cond c (x ∷ filter p xs) (filter p xs)) → (length xs ≤ length (filter p xs) → All (λ x. p x ≡ true) xs) → All (λ x. p x ≡ true) (x ∷ xs)
    by true e h rest = All-cons (λ x. p x ≡ true) x xs e (rest (omega (arith, h)))
    by false e h rest = absurd (omega (arith, h, kept-most p xs))

-- a test that passes no less keeps no fewer; and more, where it passes another
kept-more : (p q : ℕ → Bool) → ((x : ℕ) → p x ≡ true → q x ≡ true) → (xs : List ℕ)
    → (All (λ x. q x ≡ true → p x ≡ true) xs × (length (filter p xs) ≤ length (filter q xs))) ⊎ (length (filter p xs) + 1 ≤ length (filter q xs))
kept-more p q more [] = inl ((λ k d lt. absurd (omega (arith, lt))), omega arith)
kept-more p q more (x ∷ xs) = by (p x) (q x) refl refl (kept-more p q more xs)
  where
    by : (c e : Bool) → p x ≡ c → q x ≡ e
        → (All (λ x. q x ≡ true → p x ≡ true) xs × (length (filter p xs) ≤ length (filter q xs))) ⊎ (length (filter p xs) + 1 ≤ length (filter q xs))
        → (All (λ x. q x ≡ true → p x ≡ true) (x ∷ xs) × (length (cond c (x ∷ filter p xs) (filter p xs)) ≤ length (cond e (x ∷ filter q xs) (filter q xs))))
        ⊎ (length (cond c (x ∷ filter p xs) (filter p xs)) + 1 ≤ length (cond e (x ∷ filter q xs) (filter q xs)))
    by true true f g (inl h) = inl (All-cons (λ x. q x ≡ true → p x ≡ true) x xs (λ _. f) h.0, let le = h.1 in omega arith)
    by true true f g (inr h) = inr (omega (arith, h))
    by true false f g h = absurd (false≢true (sym g ∙ more x f))
    by false true f g (inl h) = inr (let le = h.1 in omega arith)
    by false true f g (inr h) = inr (omega (arith, h))
    by false false f g (inl h) = inl (All-cons (λ x. q x ≡ true → p x ≡ true) x xs (λ is. absurd (false≢true (sym g ∙ is))) h.0, h.1)
    by false false f g (inr h) = inr h

-- ---- rounds

pub is_in-from : (a : ℕ) (xs : List ℕ) → Contains xs a → list_any (λ x. eqb x a) xs ≡ true
is_in-from a xs among = some-any (λ x. eqb x a) xs a among (eq-eqb a a refl)

pub from-is_in : (a : ℕ) (xs : List ℕ) → list_any (λ x. eqb x a) xs ≡ true → Contains xs a
from-is_in a xs is = let found = any-some (λ x. eqb x a) xs is in subst (Contains xs) (eqb-true found.0 a found.2) found.1

-- ---- filters

pub filter-has : (p : ℕ → Bool) (xs : List ℕ) (b : ℕ) → Contains xs b → p b ≡ true → Contains (filter p xs) b
filter-has p xs b among passes = from-is_in b (filter p xs) (same p xs b (is_in-from b xs among) passes)
  where
    same : (p : ℕ → Bool) (xs : List ℕ) (b : ℕ) → list_any (λ x. eqb x b) xs ≡ true → p b ≡ true → list_any (λ x. eqb x b) (filter p xs) ≡ true
    same p [] b is passes = is
    same p (x ∷ xs) b is passes = by (p x) (eqb x b) refl refl is (λ h. same p xs b h passes)
      where
        by : (c e : Bool) → p x ≡ c → eqb x b ≡ e → e || list_any (λ x. eqb x b) xs ≡ true → (list_any (λ x. eqb x b) xs ≡ true → list_any (λ x. eqb x b) (filter p xs) ≡ true)
            → list_any (λ x. eqb x b) (cond c (x ∷ filter p xs) (filter p xs)) ≡ true
        by true true f g is rest = or-left (eqb x b) (list_any (λ x. eqb x b) (filter p xs)) g
        by true false f g is rest = or-right (eqb x b) (list_any (λ x. eqb x b) (filter p xs)) (rest is)
        by false true f g is rest = absurd (false≢true (sym f ∙ ap p (eqb-true x b g) ∙ passes))
        by false false f g is rest = rest is

pub filter-on : (p q : ℕ → Bool) (xs : List ℕ) → All (λ x. p x ≡ q x) xs → filter p xs ≡ filter q xs
filter-on p q [] same = refl
filter-on p q (x ∷ xs) same = rw (All-head (λ x. p x ≡ q x) x xs same, filter-on p q xs (All-tail (λ x. p x ≡ q x) x xs same)) refl

module _ (blocks : ℕ) (wanted : ℕ → Bool) (next : ℕ → List ℕ) (start : ℕ) where
  abbrev led : ℕ → ℕ → ℕ → Bool
  led n b m = in_round blocks wanted next start n m && list_any (λ a. eqb a b) (next m)

  pub round-start : wanted start ≡ true → in_round blocks wanted next start zero start ≡ true
  unfolding in_round
  round-start is = both (eqb start start) (wanted start) (eq-eqb start start refl) is

  pub round-more : (n b : ℕ) → in_round blocks wanted next start n b ≡ true → in_round blocks wanted next start (suc n) b ≡ true
  unfolding in_round
  round-more n b is = or-left (in_round blocks wanted next start n b) (wanted b && list_any (led n b) (range_with_len 0 blocks)) is

  pub round-step : (n b m : ℕ) → wanted b ≡ true → m < blocks → Contains (next m) b → in_round blocks wanted next start n m ≡ true → in_round blocks wanted next start (suc n) b ≡ true
  unfolding in_round
  round-step n b m is less among in_it =
      or-right (in_round blocks wanted next start n b) (wanted b && list_any (led n b) (range_with_len 0 blocks))
      (both (wanted b) (list_any (led n b) (range_with_len 0 blocks)) is
      (some-any (led n b) (range_with_len 0 blocks) m (range-has blocks m less) (both (in_round blocks wanted next start n m) (list_any (λ a. eqb a b) (next m)) in_it (is_in-from b (next m) among))))

  pub round-first : (b : ℕ) → in_round blocks wanted next start zero b ≡ true → (b ≡ start) × (wanted b ≡ true)
  unfolding in_round
  round-first b is = (eqb-true b start (left (eqb b start) (wanted b) is), right (eqb b start) (wanted b) is)

  -- a later one has a block of an earlier round before it
  pub record IsLed (n b : ℕ) : Type 0 where
    pub is : wanted b ≡ true
    pub by : ℕ
    pub less : by < blocks
    pub among : Contains (next by) b
    pub found : in_round blocks wanted next start n by ≡ true

  pub round-cases : (n b : ℕ) → in_round blocks wanted next start (suc n) b ≡ true → (in_round blocks wanted next start n b ≡ true) ⊎ IsLed n b
  unfolding in_round
  round-cases n b is = elim (either (in_round blocks wanted next start n b) (wanted b && list_any (led n b) (range_with_len 0 blocks)) is) [
    | inl before ↦ inl before
    | inr now ↦
        let m = any-some (led n b) (range_with_len 0 blocks) (right (wanted b) (list_any (led n b) (range_with_len 0 blocks)) now) in
        inr record {
          is = left (wanted b) (list_any (led n b) (range_with_len 0 blocks)) now;
          by = m.0;
          less = in-range blocks m.0 m.1;
          among = from-is_in b (next m.0) (right (in_round blocks wanted next start n m.0) (list_any (λ a. eqb a b) (next m.0)) m.2);
          found = left (in_round blocks wanted next start n m.0) (list_any (λ a. eqb a b) (next m.0)) m.2;
        }
  ]

  -- any set that has the start, where it is wanted, and whatever is wanted and that a member leads to, has all rounds
  pub round-least : (X : ℕ → Type 0) → (wanted start ≡ true → X start) → ((b m : ℕ) → wanted b ≡ true → m < blocks → Contains (next m) b → X m → X b)
      → (n b : ℕ) → in_round blocks wanted next start n b ≡ true → X b
  round-least X first more zero b is = let h = round-first b is in subst X (sym h.0) (first (subst (λ c. wanted c ≡ true) h.0 h.1))
  round-least X first more (suc n) b is = elim (round-cases n b is) [
    | inl before ↦ round-least X first more n b before
    | inr now ↦ more b now.by now.is now.less now.among (round-least X first more n now.by now.found)
  ]

  pub round-wanted : (n b : ℕ) → in_round blocks wanted next start n b ≡ true → wanted b ≡ true
  round-wanted n b is = round-least (λ c. wanted c ≡ true) (λ h. h) (λ b m h less among before. h) n b is

  -- ---- they come to an end

  -- nothing below so many blocks is new
  abbrev pub Stable : ℕ → Type 0
  Stable n = (b : ℕ) → b < blocks → in_round blocks wanted next start (suc n) b ≡ true → in_round blocks wanted next start n b ≡ true

  stable-more : (n : ℕ) → Stable n → Stable (suc n)
  stable-more n stable b less is = elim (round-cases (suc n) b is) [
    | inl before ↦ before
    | inr now ↦ round-step n b now.by now.is now.less now.among (stable now.by now.less now.found)
  ]

  grows-or-stays : (n : ℕ) → (n ≤ length (filter (λ b. in_round blocks wanted next start n b) (range_with_len 0 blocks))) ⊎ Stable n
  grows-or-stays zero = inl (omega arith)
  grows-or-stays (suc n) = elim (grows-or-stays n) [
    | inr stable ↦ inr (stable-more n stable)
    | inl so_far ↦ elim (kept-more (λ b. in_round blocks wanted next start n b) (λ b. in_round blocks wanted next start (suc n) b) (round-more n) (range_with_len 0 blocks)) [
      | inl same ↦ inr (stable-more n
          (λ b less. at-range (λ x. in_round blocks wanted next start (suc n) x ≡ true → in_round blocks wanted next start n x ≡ true) blocks b same.0 less))
      | inr more ↦ inl (omega (arith, so_far, more))
    ]
  ]

  -- in as many rounds as there are blocks all are found
  pub all-found : Stable blocks
  all-found = elim (grows-or-stays blocks) [
    | inr stable ↦ stable
    | inl many ↦ λ b less is. at-range (λ x. in_round blocks wanted next start blocks x ≡ true) blocks b
        (kept-all (λ b. in_round blocks wanted next start blocks b) (range_with_len 0 blocks) (let long = length-range_with_len 0 blocks in omega (arith, many))) less
  ]

  -- so the set is closed
  pub cone-closed : (b m : ℕ) → b < blocks → wanted b ≡ true → m < blocks → Contains (next m) b → in_round blocks wanted next start blocks m ≡ true → in_round blocks wanted next start blocks b ≡ true
  cone-closed b m less is before among in_it = all-found b less (round-step blocks b m is before among in_it)

  round-up : (n : ℕ) → in_round blocks wanted next start zero start ≡ true → in_round blocks wanted next start n start ≡ true
  round-up zero is = is
  round-up (suc n) is = round-more n start (round-up n is)

  pub cone-starts : wanted start ≡ true → in_round blocks wanted next start blocks start ≡ true
  cone-starts is = round-up blocks (round-start is)

  -- ---- the members

  pub cone-has : (b : ℕ) → b < blocks → in_round blocks wanted next start blocks b ≡ true → Contains (cone_of blocks wanted next start) b
  unfolding cone_of
  cone-has b less is = filter-has (λ b. in_round blocks wanted next start blocks b) (range_with_len 0 blocks) b (range-has blocks b less) is

  pub has-cone : (b : ℕ) → Contains (cone_of blocks wanted next start) b → (b < blocks) × (in_round blocks wanted next start blocks b ≡ true)
  unfolding cone_of
  has-cone b among = (
    All-contains (λ x. x < blocks) (filter (λ b. in_round blocks wanted next start blocks b) (range_with_len 0 blocks)) b
        (All-filter (λ b. in_round blocks wanted next start blocks b) (λ x. x < blocks) (range_with_len 0 blocks) (all-range (λ x. x < blocks) blocks (λ b less. less))) among,
    All-contains (λ x. in_round blocks wanted next start blocks x ≡ true) (filter (λ b. in_round blocks wanted next start blocks b) (range_with_len 0 blocks)) b
        (filter_passes (λ b. in_round blocks wanted next start blocks b) (range_with_len 0 blocks)) among,
  )

  -- ---- what a planner is told of it

  -- the start reaches each member
  pub cone-reached : (n b : ℕ) → in_round blocks wanted next start n b ≡ true → Reaches next start b
  cone-reached n b is = round-least (Reaches next start) (λ h. here) (λ b m h less among before. further m b before among) n b is

  -- where whatever leads to something wanted is wanted itself, the members are all that is wanted and that the start reaches
  pub cone-ancestors : ((m b : ℕ) → Contains (next m) b → wanted b ≡ true → wanted m ≡ true) → ((m b : ℕ) → Contains (next m) b → (m < blocks) × (b < blocks)) → (b : ℕ) → Reaches next start b
      → wanted b ≡ true → in_round blocks wanted next start blocks b ≡ true
  cone-ancestors down inside b here is = cone-starts is
  cone-ancestors down inside b (further m b' before among) is =
      cone-closed b m (inside m b among).1 is (inside m b among).0 among (cone-ancestors down inside m before (down m b among is))

-- What a line takes along: a start, and what leads on from it.
use Rattle.std.specs.Prelude.{◌≡◌, ◌⊎◌, ℕ, zero, suc, ◌==◌, ◌&&◌, ◌||◌, Bool, List}
use Rattle.std.specs.List.{Contains, filter, list_any, list_all, range_with_len}

module _ (blocks : ℕ) (wanted : ℕ → Bool) (next : ℕ → List ℕ) (start : ℕ) where
  -- Found in no round more than n: the start, where it is wanted, and in each further round whatever is wanted and among what a block leads to that was
  -- found before.
  unfoldable pub in_round : ℕ → ℕ → Bool
  in_round zero b = (b == start) && wanted b
  in_round (suc n) b = in_round n b || (wanted b && list_any (λ m. in_round n m && list_any (λ a. a == b) (next m)) (range_with_len 0 blocks))

  -- The members, rising. In as many rounds as there are blocks all are found.
  unfoldable pub cone_of : List ℕ
  cone_of = filter (λ b. in_round blocks b) (range_with_len 0 blocks)

-- each of these leads to nothing but what passes
abbrev pub all_led : (ℕ → Bool) → (ℕ → List ℕ) → List ℕ → Bool
all_led passes next members = list_all (λ m. list_all passes (next m)) members

-- the start, or what one of these leads to
abbrev pub IsNextOf : (ℕ → List ℕ) → ℕ → List ℕ → ℕ → Type 0
IsNextOf next start found b = (b ≡ start) ⊎ ((m : ℕ) × Contains found m × Contains (next m) b)

-- the start leads there, over any number of blocks, itself among them
pub data Reaches (next : ℕ → List ℕ) (start : ℕ) : ℕ → Type 0 where
  here : Reaches next start start
  further : (m b : ℕ) → Reaches next start m → Contains (next m) b → Reaches next start b

-- The same step for each of a list, whatever the numbers.
use Rattle.std.proofs.Common.{inl, inr, ℕ, ◌+◌, List, [], ◌∷◌, ◌++◌}
use Rattle.pit_step.specs.Steps.{Step, each}

module _ {F A B : Type 0} (step : A → Step F (Unit {0}) B) where
  abbrev pub from : ℕ → List A → Step F (Unit {0}) (List B)
  from number items = each (λ (n : ℕ). step) number items

  gives-at : (n m : ℕ) (xs : List A) (bs : List B) → (from n xs).Gives tt bs → (from m xs).Gives tt bs
  gives-at n m [] bs g = g
  gives-at n m (x ∷ xs) [] g = absurd g
  gives-at n m (x ∷ xs) (b ∷ bs) g = (g.0, gives-at (n + 1) (m + 1) xs bs g.1)

  pub gives-append : (n : ℕ) (xs ys : List A) (bs cs : List B) → (from n xs).Gives tt bs → (from 1 ys).Gives tt cs → (from n (xs ++ ys)).Gives tt (bs ++ cs)
  gives-append n [] ys [] cs g h = gives-at 1 n ys cs h
  gives-append n [] ys (b ∷ bs) cs g h = cc
  gives-append n (x ∷ xs) ys [] cs g h = absurd g
  gives-append n (x ∷ xs) ys (b ∷ bs) cs g h = (g.0, gives-append (n + 1) xs ys bs cs g.1 h)

  module _ (left : (n : ℕ) (xs : List A) → (from n xs).IsUntouched) where
    fails-at : (n m : ℕ) (xs : List A) (fault : F) → (from n xs).Fails tt fault → (from m xs).Fails tt fault
    fails-at n m [] fault f = absurd f
    fails-at n m (x ∷ xs) fault (inl p) = inl (p.0, left (m + 1) xs)
    fails-at n m (x ∷ xs) fault (inr (b, g, p)) = inr (b, g, fails-at (n + 1) (m + 1) xs fault p)

    pub fails-first : (n : ℕ) (xs ys : List A) (fault : F) → (from n xs).Fails tt fault → (from n (xs ++ ys)).Fails tt fault
    fails-first n [] ys fault f = absurd f
    fails-first n (x ∷ xs) ys fault (inl p) = inl (p.0, left (n + 1) (xs ++ ys))
    fails-first n (x ∷ xs) ys fault (inr (b, g, p)) = inr (b, g, fails-first (n + 1) xs ys fault p)

    pub fails-then : (n : ℕ) (xs ys : List A) (bs : List B) (fault : F) → (from n xs).Gives tt bs → (from 1 ys).Fails tt fault → (from n (xs ++ ys)).Fails tt fault
    fails-then n [] ys bs fault g f = fails-at 1 n ys fault f
    fails-then n (x ∷ xs) ys [] fault g f = absurd g
    fails-then n (x ∷ xs) ys (b ∷ bs) fault g f = inr (b, g.0, fails-then (n + 1) xs ys bs fault g.1 f)

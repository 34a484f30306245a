-- The steps of a list, one more at a time.
use Rattle.std.proofs.Common.{◌≡◌, inl, inr, ℕ, suc, ◌+◌, ◌<◌, List, [], ◌∷◌, ◌++◌, length, map, take, drop, set, slice_index_or, refl, ap, subst, sym, ◌∙◌, arith}
use Rattle.std.proofs.lemmas.List.{length-take-le, take_more, set_split, set-get_or, get_or-map, length-map}
use Rattle.pit_step.specs.Steps.{Step, each}

module _ {F A B : Type 0} (step : ℕ → A → Step F (Unit {0}) B) where
  -- one more gives a value
  each_push : (number : ℕ) (items : List A) (values : List B) (item : A) (value : B) → (each step number items).Gives tt values → (step (length items + number) item).Gives tt value
      → (each step number (items ++ item ∷ [])).Gives tt (values ++ value ∷ [])
  each_push number [] [] item value so gives = (subst (λ (n : ℕ). (step n item).Gives tt value) (omega arith) gives, refl)
  each_push number [] (v ∷ values) item value so gives = let clash : ⊥ = cc in absurd clash
  each_push number (i ∷ items) [] item value so gives = absurd so
  each_push number (i ∷ items) (v ∷ values) item value so gives =
      (so.0, each_push (number + 1) items values item value so.1 (subst (λ (n : ℕ). (step n item).Gives tt value) (omega arith) gives))

  -- some give values, and the next one has a fault
  each_fail : (number : ℕ) (items : List A) (values : List B) (item : A) (more : List A) (fault : F) → ((n : ℕ) → (each step n more).IsUntouched)
      → (each step number items).Gives tt values → (step (length items + number) item).Fails tt fault → (each step number (items ++ item ∷ more)).Fails tt fault
  each_fail number [] values item more fault left so fails = inl (subst (λ (n : ℕ). (step n item).Fails tt fault) (omega arith) fails, left (number + 1))
  each_fail number (i ∷ items) [] item more fault left so fails = absurd so
  each_fail number (i ∷ items) (v ∷ values) item more fault left so fails =
      inr (v, so.0, each_fail (number + 1) items values item more fault left so.1 (subst (λ (n : ℕ). (step n item).Fails tt fault) (omega arith) fails))

  module _ {X : Type 0} (f : X → A) (xs : List X) (i : ℕ) (x : X) (below : i < length xs) (is : x ≡ slice_index_or xs i x) (values : List B) (so : (each step 1 (take i (map f xs))).Gives tt values) where
    long : i < length (map f xs)
    long = let same = length-map xs f in omega arith

    at : f x ≡ slice_index_or (map f xs) i (f x)
    at = ap f is ∙ sym (get_or-map f xs i x (f x) below)

    front : length (take i (map f xs)) ≡ i
    front = length-take-le i (map f xs) (let l = long in omega arith)

    pub each-goes_on : (value : B) → (step (i + 1) (f x)).Gives tt value → (each step 1 (take (i + 1) (map f xs))).Gives tt (values ++ value ∷ [])
    each-goes_on value gives =
        subst (λ (items : List A). (each step 1 items).Gives tt (values ++ value ∷ [])) (ap (λ (a : A). take i (map f xs) ++ a ∷ []) at ∙ sym (take_more (map f xs) i (f x) long))
        (each_push 1 (take i (map f xs)) values (f x) value so (subst (λ (n : ℕ). (step (n + 1) (f x)).Gives tt value) (sym front) gives))

    split : take i (map f xs) ++ f x ∷ drop (suc i) (map f xs) ≡ map f xs
    split = sym (set_split (map f xs) i (f x) long) ∙ ap (set (map f xs) i) at ∙ set-get_or (map f xs) i (f x)

    pub each-stops : (fault : F) → ((n : ℕ) → (each step n (drop (suc i) (map f xs))).IsUntouched) → (step (i + 1) (f x)).Fails tt fault → (each step 1 (map f xs)).Fails tt fault
    each-stops fault left fails =
        subst (λ (items : List A). (each step 1 items).Fails tt fault) split
        (each_fail 1 (take i (map f xs)) values (f x) (drop (suc i) (map f xs)) fault left so (subst (λ (n : ℕ). (step (n + 1) (f x)).Fails tt fault) (sym front) fails))

-- A pit that lines are added to.
use Rattle.std.proofs.Common.{◌≡◌, ℕ, List, [], ◌∷◌, ◌++◌, Result, ap, sym, ◌∙◌, refl}
use Rattle.std.proofs.lemmas.List.Sums.{fold-append}
use Rattle.pit_model.specs.Pit.{Pit}
use Rattle.pit_text.specs.declared.error.Fault.{Fault}
use Rattle.pit_text.specs.Added.{pit_with, line_of_pit}

pub pit_with-none : {F : Type 0} (with_fact : Pit → F → Pit) (given : Pit) → pit_with with_fact given [] ≡ given
unfolding pit_with
pit_with-none with_fact given = refl

pub pit_with-more : {F : Type 0} (with_fact : Pit → F → Pit) (given : Pit) (facts : List F) (fact : F) → pit_with with_fact given (facts ++ fact ∷ []) ≡ with_fact (pit_with with_fact given facts) fact
unfolding pit_with
pit_with-more with_fact given facts fact = fold-append with_fact given facts (fact ∷ [])

-- a line is judged by the pit that the lines before it left
pub line_of_pit-is : {F : Type 0} (with_fact : Pit → F → Pit) (fact_in : Pit → List (List ℕ) → Result F Fault) (given pit : Pit) (facts : List F) (fields : List (List ℕ)) (r : Result F Fault) → pit ≡ pit_with with_fact given facts → fact_in pit fields ≡ r
    → line_of_pit with_fact fact_in given facts fields ≡ r
unfolding line_of_pit
line_of_pit-is with_fact fact_in given pit facts fields r is same = ap (λ (p : Pit). fact_in p fields) (sym is) ∙ same

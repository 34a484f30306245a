-- One more line that states a fact.
use Rattle.std.proofs.Common.{◌≡◌, List, [], ◌∷◌, ◌++◌, Ok, ap, sym, ◌∙◌, refl, append_assoc}
use Rattle.std.proofs.lemmas.List.{append-nil}
use Rattle.pit_text.specs.Cutting.{Cut}
use Rattle.pit_text.specs.Stands.{Judge, StatesAfter}

-- a list of lines and one more
pub states_more : {F C : Type 0} (judge : Judge F C) (earlier facts : List F) (lines : List Cut) (line : Cut) (fact : F) → StatesAfter judge earlier lines facts → judge (earlier ++ facts) line.fields ≡ Ok fact → StatesAfter judge earlier (lines ++ line ∷ []) (facts ++ fact ∷ [])
states_more judge earlier [] [] line fact stated is = (ap (λ es. judge es line.fields) (sym (append-nil earlier)) ∙ is, refl)
states_more judge earlier (x ∷ facts) [] line fact stated is = cc
states_more judge earlier [] (l ∷ lines) line fact stated is = absurd stated
states_more judge earlier (x ∷ facts) (l ∷ lines) line fact stated is =
    (stated.0, states_more judge (earlier ++ x ∷ []) facts lines line fact stated.1 (ap (λ es. judge es line.fields) (append_assoc earlier (x ∷ []) facts) ∙ is))

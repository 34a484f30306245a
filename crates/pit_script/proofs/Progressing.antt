-- What lines leave.
use Rattle.std.proofs.Common.{◌≡◌, ℕ, List, [], ◌∷◌, ◌++◌, Result, ap, subst, sym, ◌∙◌, refl}
use Rattle.std.proofs.lemmas.List.Sums.{fold-append}
use Rattle.pit_model.specs.Pit.{Pit}
use Rattle.pit_text.specs.Cutting.{Cut, cut_of}
use Rattle.pit_text.specs.Stands.{StandsFor}
use Rattle.pit_script.specs.Jobs.{Progress, no_job, with_fact, progress_of, fact_in, script_line}
use Rattle.pit_script.specs.Scripts.{StandsForJobs}
use Rattle.pit_script.specs.declared.error.ScriptFault.{ScriptFault}
use Rattle.pit_script.specs.declared.fact.ScriptFact.{ScriptFact}

pub progress_of-none : progress_of [] ≡ no_job
unfolding progress_of
progress_of-none = refl

pub progress_of-more : (facts : List ScriptFact) (fact : ScriptFact) → progress_of (facts ++ fact ∷ []) ≡ with_fact (progress_of facts) fact
unfolding progress_of
progress_of-more facts fact = fold-append with_fact no_job facts (fact ∷ [])

-- a line is judged by what the lines before it left
pub judged : (pit : Pit) (at : Progress) (facts : List ScriptFact) (fields : List (List ℕ)) (r : Result ScriptFact ScriptFault) → at ≡ progress_of facts → fact_in pit at fields ≡ r
    → script_line pit facts fields ≡ r
judged pit at facts fields r is same = ap (λ (p : Progress). fact_in pit p fields) (sym is) ∙ same

-- a text that has no line stands for no job
pub no_line_stands : (pit : Pit) (text : List ℕ) → cut_of text ≡ [] → StandsForJobs pit text []
unfolding progress_of
no_line_stands pit text none = ([], record { stands = subst (λ (lines : List Cut). StandsFor (script_line pit) lines []) (sym none) refl; whole = refl }, refl)

-- The first line of a script, which is judged without benches.
use Rattle.std.proofs.Common.{◌≡◌, ℕ, false, List, [], ◌∷◌, Result, Ok, Err, ap, sym, subst, ◌∙◌, refl, inl, inr}
use Rattle.std.specs.Prelude.{◌⊎◌, IsOk}
use Rattle.std.proofs.lemmas.Bool.{false≢true}
use Rattle.pit_model.specs.Pit.{Pit}
use Rattle.pit_text.specs.Cutting.{Cut, cut_of}
use Rattle.pit_text.specs.Stands.{◌>>=◌, StopsAt, FailsFirst, NamesFault}
use Rattle.pit_text.specs.Inside.Stands.{IsReadTo, IsCauseOf}
use Rattle.pit_text.proofs.CallerLemmas.{read_stops}
use Rattle.pit_script.specs.Causes.{script_cause_of}
use Rattle.pit_script.specs.Jobs.{no_job, fact_in, script_line}
use Rattle.pit_script.specs.Lines.{ranged_fact, known_bench, line_fact}
use Rattle.pit_script.specs.Scripts.{WantsMemoryAt}
use Rattle.pit_script.specs.Lines.{MayStand}
use Rattle.pit_script.specs.declared.error.ScriptCause.{ScriptCause}
use Rattle.pit_script.specs.declared.error.ScriptCause.TheVariants.{NoMemory}
use Rattle.pit_script.specs.declared.error.ScriptFault.{ScriptFault}
use Rattle.pit_script.specs.declared.fact.ScriptFact.{ScriptFact}
use Rattle.pit_script.specs.declared.fact.ScriptFact.TheVariants.{Begin, Does, Ends}
use Rattle.pit_script.proofs.Progressing.{progress_of-none, judged}

-- outside of a job no line names a bench
benchless : (pit : Pit) (fact : ScriptFact) → MayStand false 0 fact → known_bench pit fact ≡ Ok fact
benchless pit Begin may = refl
benchless pit (Does step) may = absurd (false≢true may)
benchless pit (Ends end) may = absurd (false≢true may)

pub first-wants : (pit : Pit) (fields : List (List ℕ)) (r : Result ScriptFact ScriptFault) (fact : ScriptFact) → r ≡ ranged_fact pit false 0 fields → r ≡ Ok fact → MayStand false 0 fact
    → IsCauseOf NoMemory script_cause_of (fact_in pit no_job fields) NoMemory
unfolding line_fact
first-wants pit fields r fact value is may =
    let said : fact_in pit no_job fields ≡ Ok fact = ap (λ (s : Result ScriptFact ScriptFault). s >>= known_bench pit) (sym value ∙ is) ∙ benchless pit fact may in
    inl (refl, subst (λ (s : Result ScriptFact ScriptFault). IsOk s) (sym said) refl)

pub first-fails : (pit : Pit) (fields : List (List ℕ)) (r : Result ScriptFact ScriptFault) (fault : ScriptFault) (cause : ScriptCause) → r ≡ ranged_fact pit false 0 fields → r ≡ Err fault → cause ≡ script_cause_of fault
    → IsCauseOf NoMemory script_cause_of (fact_in pit no_job fields) cause
unfolding line_fact
first-fails pit fields r fault cause value is names = inr (fault, names, ap (λ (s : Result ScriptFact ScriptFault). s >>= known_bench pit) (sym value ∙ is))

wants : (pit : Pit) (text : List ℕ) (place : ℕ) (cause : ScriptCause) → ((cause ≡ NoMemory) × StopsAt (script_line pit) (cut_of text) place) ⊎ NamesFault script_cause_of (FailsFirst (script_line pit) (cut_of text) place) cause
    → ((cause ≡ NoMemory) × WantsMemoryAt pit text place) ⊎ NamesFault script_cause_of (FailsFirst (script_line pit) (cut_of text) place) cause
wants pit text place cause (inl (is, stops)) = inl (is, inl stops)
wants pit text place cause (inr fails) = inr fails

-- what is answered of the first line is answered of the text
pub first-answered : (pit : Pit) (text : List ℕ) (all rest : List Cut) (line : Cut) (cause : ScriptCause) → all ≡ cut_of text → all ≡ line ∷ rest → IsCauseOf NoMemory script_cause_of (fact_in pit no_job line.fields) cause
    → ((cause ≡ NoMemory) × WantsMemoryAt pit text line.number) ⊎ NamesFault script_cause_of (FailsFirst (script_line pit) (cut_of text) line.number) cause
first-answered pit text all rest line cause whole next is =
    let read : IsReadTo (script_line pit) (cut_of text) all [] = record { done = []; cut = sym whole; stands = refl } in
    wants pit text line.number cause
    (read_stops NoMemory script_cause_of (script_line pit) (cut_of text) all rest line [] cause read next
    (subst (λ (s : Result ScriptFact ScriptFault). IsCauseOf NoMemory script_cause_of s cause) (sym (judged pit no_job [] line.fields (fact_in pit no_job line.fields) (sym progress_of-none) refl)) is))

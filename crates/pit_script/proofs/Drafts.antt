-- How what is kept follows the lines.
use Rattle.std.proofs.Common.{◌≡◌, ℕ, ◌+◌, ◌≤◌, Bool, true, false, is_some, Some, None, List, [], ◌∷◌, ◌++◌, length, drop, ap, sym, ◌∙◌, refl, subst, arith}
use Rattle.std.proofs.lemmas.Bool.{true≢false, false≢true}
use Rattle.std.proofs.lemmas.List.{drop-append-le, length-append}
use Rattle.pit_script.specs.Jobs.{Job, Progress, no_job, with_fact}
use Rattle.pit_script.specs.Inside.Kept.{jobs_in, last_end, AreJobEnds, open_steps, progress_in, IsKept}
use Rattle.pit_script.specs.Lines.{MayStand}
use Rattle.pit_script.specs.declared.fact.ScriptFact.{ScriptFact}
use Rattle.pit_script.specs.declared.fact.ScriptFact.TheVariants.{Begin, Does, Ends}
use Rattle.pit_script.specs.declared.step.JobEnd.{JobEnd}
use Rattle.pit_script.specs.declared.step.Step.{Step}
use Rattle.pit_script.specs.declared.step.TheConstants.{JOBS_MAX}
use Rattle.pit_script.proofs.Kept.{length-jobs_in, last_end-within, ends-more_steps, jobs_in-more_steps, last_end-more, ends-more, jobs_in-more}

-- nothing is kept
empty : IsKept [] [] false
unfolding AreJobEnds last_end
empty = record { rising = omega arith; closed = λ h. refl; few = omega arith }

pub kept-none : (steps : List Step) (ends : List (ℕ × JobEnd)) → steps ≡ [] → ends ≡ [] → IsKept steps ends false
kept-none steps ends none nothing =
    subst (λ (es : List (ℕ × JobEnd)). IsKept steps es false) (sym nothing) (subst (λ (ss : List Step). IsKept ss [] false) (sym none) empty)

no_jobs_in : progress_in [] [] false ≡ no_job
unfolding jobs_in
no_jobs_in = refl

pub progress-none : (steps : List Step) (ends : List (ℕ × JobEnd)) → steps ≡ [] → ends ≡ [] → progress_in steps ends false ≡ no_job
progress-none steps ends none nothing =
    ap (λ (ss : List Step). progress_in ss ends false) none ∙ ap (λ (es : List (ℕ × JobEnd)). progress_in [] es false) nothing ∙ no_jobs_in

-- whether a job is open
pub some-open : (is_open : Bool) (steps : List Step) → is_some (open_steps is_open steps) ≡ is_open
some-open true steps = refl
some-open false steps = refl

-- a job begins
pub kept-begins : (steps : List Step) (ends : List (ℕ × JobEnd)) (is_open : Bool) → IsKept steps ends is_open
    → MayStand (is_some (open_steps is_open (drop (last_end 0 ends) steps))) (length (jobs_in steps 0 ends)) Begin → IsKept steps ends true
kept-begins steps ends is_open kept may =
    let count = length-jobs_in steps 0 ends in
    let room : length ends + 1 ≤ JOBS_MAX = omega (arith, count, may.1) in record {
      rising = kept.rising;
      closed = λ h. absurd (true≢false h);
      few = room;
    }

-- a step is added
pub kept-does : (steps more : List Step) (ends : List (ℕ × JobEnd)) (is_open : Bool) (step : Step) → IsKept steps ends is_open → is_open ≡ true → more ≡ steps ++ step ∷ [] → IsKept more ends is_open
kept-does steps more ends is_open step kept inside is =
    let longer : length more ≡ length steps + 1 = ap (λ (ss : List Step). length ss) is ∙ length-append steps (step ∷ []) in
    let low : length steps ≤ length more = omega (arith, longer) in record {
      rising = ends-more_steps 0 (length steps) (length more) ends low kept.rising;
      closed = λ h. absurd (true≢false (sym inside ∙ h));
      few = kept.few;
    }

pub progress-does : (steps more : List Step) (ends : List (ℕ × JobEnd)) (is_open : Bool) (step : Step) → IsKept steps ends is_open → is_open ≡ true → more ≡ steps ++ step ∷ []
    → progress_in more ends is_open ≡ with_fact (progress_in steps ends is_open) (Does step)
progress-does steps more ends false step kept inside is = absurd (false≢true inside)
progress-does steps more ends true step kept inside is =
    ap (λ (ss : List Step). progress_in ss ends true) is
    ∙ ap (λ (js : List Job). record { jobs = js; current = Some (drop (last_end 0 ends) (steps ++ step ∷ [])) }) (jobs_in-more_steps steps (step ∷ []) 0 ends kept.rising)
    ∙ ap (λ (ss : List Step). record { jobs = jobs_in steps 0 ends; current = Some ss }) (drop-append-le (last_end 0 ends) steps (step ∷ []) (last_end-within 0 (length steps) ends kept.rising))

-- the job ends
pub kept-ends : (steps : List Step) (ends more : List (ℕ × JobEnd)) (is_open : Bool) (how : JobEnd) → IsKept steps ends is_open → is_open ≡ true → more ≡ ends ++ (length steps, how) ∷ [] → IsKept steps more false
kept-ends steps ends more false how kept inside is = absurd (false≢true inside)
kept-ends steps ends more true how kept inside is =
    let longer : length more ≡ length ends + 1 = ap (λ (es : List (ℕ × JobEnd)). length es) is ∙ length-append ends ((length steps, how) ∷ []) in
    let room : length more + 0 ≤ JOBS_MAX = omega (arith, longer, kept.few) in record {
      rising = subst (λ (es : List (ℕ × JobEnd)). AreJobEnds 0 (length steps) es) (sym is) (ends-more 0 (length steps) ends how kept.rising);
      closed = λ h. ap (λ (es : List (ℕ × JobEnd)). last_end 0 es) is ∙ last_end-more 0 (length steps) ends how;
      few = room;
    }

pub progress-ends : (steps : List Step) (ends more : List (ℕ × JobEnd)) (is_open : Bool) (how : JobEnd) → is_open ≡ true → more ≡ ends ++ (length steps, how) ∷ []
    → progress_in steps more false ≡ with_fact (progress_in steps ends is_open) (Ends how)
progress-ends steps ends more false how inside is = absurd (false≢true inside)
progress-ends steps ends more true how inside is =
    ap (λ (es : List (ℕ × JobEnd)). progress_in steps es false) is
    ∙ ap (λ (js : List Job). record { jobs = js; current = None }) (jobs_in-more steps 0 ends how)

-- ---- a line that may stand where what is kept was seen so

abbrev pub MayFollow : Progress → ScriptFact → Type 0
MayFollow now fact = MayStand (is_some now.current) (length now.jobs) fact

pub may-begin : (now was : Progress) (fact : ScriptFact) → now ≡ was → fact ≡ Begin → MayFollow now fact → MayFollow was Begin
may-begin now was fact seen is may = subst (λ (f : ScriptFact). MayFollow was f) is (subst (λ (p : Progress). MayFollow p fact) seen may)

pub open-does : (now : Progress) (steps : List Step) (is_open : Bool) (ends : List (ℕ × JobEnd)) (fact : ScriptFact) (step : Step) → now ≡ progress_in steps ends is_open → fact ≡ Does step → MayFollow now fact → is_open ≡ true
open-does now steps is_open ends fact step seen is may =
    let inside : MayFollow (progress_in steps ends is_open) (Does step) = subst (λ (f : ScriptFact). MayFollow (progress_in steps ends is_open) f) is (subst (λ (p : Progress). MayFollow p fact) seen may) in
    sym (some-open is_open (drop (last_end 0 ends) steps)) ∙ inside

pub open-ends : (now : Progress) (steps : List Step) (is_open : Bool) (ends : List (ℕ × JobEnd)) (fact : ScriptFact) (how : JobEnd) → now ≡ progress_in steps ends is_open → fact ≡ Ends how → MayFollow now fact → is_open ≡ true
open-ends now steps is_open ends fact how seen is may =
    let inside : MayFollow (progress_in steps ends is_open) (Ends how) = subst (λ (f : ScriptFact). MayFollow (progress_in steps ends is_open) f) is (subst (λ (p : Progress). MayFollow p fact) seen may) in
    sym (some-open is_open (drop (last_end 0 ends) steps)) ∙ inside

-- what a line adds to what was seen
pub added : (now was : Progress) (fact other : ScriptFact) → now ≡ was → fact ≡ other → with_fact was other ≡ with_fact now fact
added now was fact other seen is = ap (λ (f : ScriptFact). with_fact was f) (sym is) ∙ ap (λ (p : Progress). with_fact p fact) (sym seen)

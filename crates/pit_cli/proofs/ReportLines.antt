-- The lines of outcomes and of runs, one after the other.
use Rattle.std.proofs.Common.{◌≡◌, ℕ, ◌+◌, ◌<◌, List, [], ◌∷◌, ◌++◌, length, take, slice_index_or, refl, ap, subst, sym, ◌∙◌, arith, Option}
use Rattle.std.proofs.lemmas.List.{append-nil, append_assoc, length-take-le, take_more}
use Rattle.std.proofs.lemmas.List.Concat.{flat_map-append}
use Rattle.std.specs.Io.KnownBytes.{Appends}
use Rattle.pit_num.proofs.CallerLemmas.{appends_more, appends_nothing}
use Rattle.pit_job.specs.declared.outcome.Outcome.{Outcome}
use Rattle.pit_run.specs.Reports.{RunState}
use Rattle.pit_cli.specs.ReportText.{job_text, jobs_text, run_text, runs_text}

pub jobs_none : (planner job : ℕ) → jobs_text planner job [] ≡ []
unfolding jobs_text
jobs_none planner job = refl

-- one outcome more
jobs_more : (planner job : ℕ) (xs : List Outcome) (x : Outcome) → jobs_text planner job (xs ++ x ∷ []) ≡ jobs_text planner job xs ++ job_text planner (job + length xs) x
unfolding jobs_text
jobs_more planner job [] x = append-nil (job_text planner job x) ∙ ap (λ (n : ℕ). job_text planner n x) (omega arith)
jobs_more planner job (y ∷ xs) x =
    ap (λ (t : List ℕ). job_text planner job y ++ t) (jobs_more planner (job + 1) xs x)
    ∙ sym (append_assoc (job_text planner job y) (jobs_text planner (job + 1) xs) (job_text planner (job + 1 + length xs) x))
    ∙ ap (λ (n : ℕ). (job_text planner job y ++ jobs_text planner (job + 1) xs) ++ job_text planner n x) (omega arith)

pub runs_none : runs_text [] ≡ []
unfolding runs_text
runs_none = refl

pub runs_more : (runs : List RunState) (i : ℕ) (d : RunState) → i < length runs → runs_text (take (i + 1) runs) ≡ runs_text (take i runs) ++ run_text (slice_index_or runs i d)
unfolding runs_text
runs_more runs i d below =
    ap (λ (xs : List RunState). runs_text xs) (take_more runs i d below)
    ∙ flat_map-append run_text (take i runs) (slice_index_or runs i d ∷ [])
    ∙ ap (λ (xs : List ℕ). runs_text (take i runs) ++ xs) (append-nil (run_text (slice_index_or runs i d)))

-- one outcome more of those that are gone over
pub jobs_taken : (planner : ℕ) (outcomes : List Outcome) (i : ℕ) (d : Outcome) → i < length outcomes
    → jobs_text planner 1 (take (i + 1) outcomes) ≡ jobs_text planner 1 (take i outcomes) ++ job_text planner (i + 1) (slice_index_or outcomes i d)
jobs_taken planner outcomes i d below =
    ap (λ (xs : List Outcome). jobs_text planner 1 xs) (take_more outcomes i d below)
    ∙ jobs_more planner 1 (take i outcomes) (slice_index_or outcomes i d)
    ∙ ap (λ (n : ℕ). jobs_text planner 1 (take i outcomes) ++ job_text planner n (slice_index_or outcomes i d)) (let h : length (take i outcomes) ≡ i = length-take-le i outcomes (omega arith) in omega arith)

pub jobs_begin : (a : Option (List ℕ)) (planner : ℕ) (outcomes : List Outcome) → Appends a a (jobs_text planner 1 (take 0 outcomes))
jobs_begin a planner outcomes = subst (λ (t : List ℕ). Appends a a t) (sym (jobs_none planner 1)) (appends_nothing a)

pub jobs_go_on : (a b c : Option (List ℕ)) (planner : ℕ) (outcomes : List Outcome) (i : ℕ) (d : Outcome) → i < length outcomes
    → Appends a b (jobs_text planner 1 (take i outcomes)) → Appends b c (job_text planner (i + 1) (slice_index_or outcomes i d))
    → Appends a c (jobs_text planner 1 (take (i + 1) outcomes))
jobs_go_on a b c planner outcomes i d below before after =
    subst (λ (t : List ℕ). Appends a c t) (sym (jobs_taken planner outcomes i d below))
    (appends_more a b c (jobs_text planner 1 (take i outcomes)) (job_text planner (i + 1) (slice_index_or outcomes i d)) before after)

pub runs_begin : (a : Option (List ℕ)) (runs : List RunState) → Appends a a (runs_text (take 0 runs))
runs_begin a runs = subst (λ (t : List ℕ). Appends a a t) (sym runs_none) (appends_nothing a)

pub runs_go_on : (a b c : Option (List ℕ)) (runs : List RunState) (i : ℕ) (run : RunState) → i < length runs → run ≡ slice_index_or runs i run
    → Appends a b (runs_text (take i runs)) → Appends b c (run_text run) → Appends a c (runs_text (take (i + 1) runs))
runs_go_on a b c runs i run below is before after =
    subst (λ (t : List ℕ). Appends a c t) (sym (runs_more runs i run below))
    (appends_more a b c (runs_text (take i runs)) (run_text (slice_index_or runs i run)) before (subst (λ (r : RunState). Appends b c (run_text r)) is after))

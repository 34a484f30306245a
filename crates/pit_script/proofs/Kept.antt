-- Jobs that are kept in one list of steps.
use Rattle.std.proofs.Common.{◌≡◌, ℕ, ◌-◌, ◌≤◌, ◌<◌, zero, suc, Bool, false, cond, inl, inr, List, [], ◌∷◌, ◌++◌, length, take, drop, ap, sym, ◌∙◌, refl, arith}
use Rattle.std.specs.Prelude.{nat_eq}
use Rattle.std.proofs.lemmas.Bool.Decides.{eqb_tells}
use Rattle.std.proofs.lemmas.List.{take-append-le, drop-append-le, take_rest, length-drop}
use Rattle.pit_script.specs.Jobs.{Job, job_at}
use Rattle.pit_script.specs.Inside.Kept.{jobs_in, last_end, end_at, start_from, AreJobEnds}
use Rattle.pit_script.specs.declared.step.JobEnd.{JobEnd}
use Rattle.pit_script.specs.declared.step.Step.{Step}

pub length-jobs_in : (steps : List Step) (from : ℕ) (ends : List (ℕ × JobEnd)) → length (jobs_in steps from ends) ≡ length ends
unfolding jobs_in
length-jobs_in steps from [] = refl
length-jobs_in steps from (end ∷ ends) = let more = length-jobs_in steps end.0 ends in omega (arith, more)

ends-from : (from count : ℕ) (ends : List (ℕ × JobEnd)) → AreJobEnds from count ends → from ≤ count
unfolding AreJobEnds
ends-from from count [] are = are
ends-from from count (end ∷ ends) are = let more = ends-from end.0 count ends are.1 in omega (arith, more, are.0)

pub last_end-within : (from count : ℕ) (ends : List (ℕ × JobEnd)) → AreJobEnds from count ends → last_end from ends ≤ count
unfolding AreJobEnds last_end
last_end-within from count [] are = are
last_end-within from count (end ∷ ends) are = last_end-within end.0 count ends are.1

-- more steps
pub ends-more_steps : (from count more : ℕ) (ends : List (ℕ × JobEnd)) → count ≤ more → AreJobEnds from count ends → AreJobEnds from more ends
unfolding AreJobEnds
ends-more_steps from count more [] low are = omega (arith, are, low)
ends-more_steps from count more (end ∷ ends) low are = (are.0, ends-more_steps end.0 count more ends low are.1)

part-more : (steps more : List Step) (from to : ℕ) → from ≤ to → to ≤ length steps → take (to - from) (drop from (steps ++ more)) ≡ take (to - from) (drop from steps)
part-more steps more from to rises within =
    let front : from ≤ length steps = omega (arith, rises, within) in
    let rest = length-drop from steps in
    let part : to - from ≤ length (drop from steps) = omega (arith, rises, within, rest) in
    ap (λ (ss : List Step). take (to - from) ss) (drop-append-le from steps more front) ∙ take-append-le (to - from) (drop from steps) more part

pub jobs_in-more_steps : (steps more : List Step) (from : ℕ) (ends : List (ℕ × JobEnd)) → AreJobEnds from (length steps) ends → jobs_in (steps ++ more) from ends ≡ jobs_in steps from ends
unfolding jobs_in AreJobEnds
jobs_in-more_steps steps more from [] are = refl
jobs_in-more_steps steps more from (end ∷ ends) are =
    let within : end.0 ≤ length steps = ends-from end.0 (length steps) ends are.1 in
    ap (λ (ss : List Step). record { steps = ss; end = end.1 } ∷ jobs_in (steps ++ more) end.0 ends) (part-more steps more from end.0 are.0 within)
    ∙ ap (λ (js : List Job). record { steps = take (end.0 - from) (drop from steps); end = end.1 } ∷ js) (jobs_in-more_steps steps more end.0 ends are.1)

-- one more end, past all steps
pub last_end-more : (from count : ℕ) (ends : List (ℕ × JobEnd)) (how : JobEnd) → last_end from (ends ++ (count, how) ∷ []) ≡ count
unfolding last_end
last_end-more from count [] how = refl
last_end-more from count (end ∷ ends) how = last_end-more end.0 count ends how

pub ends-more : (from count : ℕ) (ends : List (ℕ × JobEnd)) (how : JobEnd) → AreJobEnds from count ends → AreJobEnds from count (ends ++ (count, how) ∷ [])
unfolding AreJobEnds
ends-more from count [] how are = (are, omega arith)
ends-more from count (end ∷ ends) how are = (are.0, ends-more end.0 count ends how are.1)

pub jobs_in-more : (steps : List Step) (from : ℕ) (ends : List (ℕ × JobEnd)) (how : JobEnd)
    → jobs_in steps from (ends ++ (length steps, how) ∷ []) ≡ jobs_in steps from ends ++ record { steps = drop (last_end from ends) steps; end = how } ∷ []
unfolding jobs_in last_end
jobs_in-more steps from [] how = ap (λ (ss : List Step). record { steps = ss; end = how } ∷ []) (take_rest steps from)
jobs_in-more steps from (end ∷ ends) how =
    ap (λ (js : List Job). record { steps = take (end.0 - from) (drop from steps); end = end.1 } ∷ js) (jobs_in-more steps end.0 ends how)

-- ---- one job

past-none : (i : ℕ) → nat_eq (suc i) 0 ≡ false
past-none i = elim (eqb_tells (suc i) 0) [ inl h ↦ absurd (omega (arith, h.1)) | inr h ↦ h.0 ]

one-less : (i : ℕ) → suc i - 1 ≡ i
one-less i = omega arith

after-first : (from : ℕ) (ends : List (ℕ × JobEnd)) (i : ℕ) → start_from from ends (suc i) ≡ (end_at ends i).0
after-first from ends i = ap (λ (b : Bool). cond b from (end_at ends (suc i - 1)).0) (past-none i) ∙ ap (λ (n : ℕ). (end_at ends n).0) (one-less i)

start-next : (from : ℕ) (end : ℕ × JobEnd) (ends : List (ℕ × JobEnd)) (i : ℕ) → start_from end.0 ends i ≡ (end_at (end ∷ ends) i).0
start-next from end ends zero = refl
start-next from end ends (suc i) = after-first end.0 ends i

pub job-at : (steps : List Step) (from : ℕ) (ends : List (ℕ × JobEnd)) (i : ℕ) → i < length ends
    → job_at (jobs_in steps from ends) i ≡ record { steps = take ((end_at ends i).0 - start_from from ends i) (drop (start_from from ends i) steps); end = (end_at ends i).1 }
unfolding jobs_in
job-at steps from [] i less = absurd (omega (arith, less))
job-at steps from (end ∷ ends) zero less = refl
job-at steps from (end ∷ ends) (suc i) less =
    job-at steps end.0 ends i (omega (arith, less))
    ∙ ap (λ (n : ℕ). record { steps = take ((end_at ends i).0 - n) (drop n steps); end = (end_at ends i).1 })
    (start-next from end ends i ∙ sym (after-first from (end ∷ ends) i))

-- where it begins and ends
pub job-within : (from count : ℕ) (ends : List (ℕ × JobEnd)) (i : ℕ) → AreJobEnds from count ends → i < length ends → (start_from from ends i ≤ (end_at ends i).0) × ((end_at ends i).0 ≤ count)
unfolding AreJobEnds
job-within from count [] i are less = absurd (omega (arith, less))
job-within from count (end ∷ ends) zero are less = (are.0, ends-from end.0 count ends are.1)
job-within from count (end ∷ ends) (suc i) are less =
    let more = job-within end.0 count ends i are.1 (omega (arith, less)) in
    let same = start-next from end ends i ∙ sym (after-first from (end ∷ ends) i) in
    (omega (arith, more.0, same), more.1)

pub ruleset counts = (length-jobs_in)

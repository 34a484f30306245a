-- What a try adds to a log.
use Rattle.std.proofs.Common.{◌≡◌, ℕ, ◌≤◌, true, false, List, [], ◌∷◌, ◌++◌, length, Option, refl, sym, ap, subst, ◌∙◌, arith, append-nil, inl, inr, Bool}
use Rattle.std.proofs.lemmas.List.Elements.{All-contains}
use Rattle.std.specs.Prelude.{All}
use mathlib.Core.List.{IsPrefix}
use Rattle.pit_model.specs.Pit.{Pit}
use Rattle.pit_plan.specs.Schedule.{Commit}
use Rattle.pit_tx.specs.Sets.{Sets}
use Rattle.pit_desk.specs.History.{Call, Answered, commits_of}
use Rattle.pit_desk.specs.Calls.{work_call, entry_reply}
use Rattle.pit_desk.specs.declared.entry.Act.{Act}
use Rattle.pit_desk.specs.declared.entry.Act.TheVariants as act
use Rattle.pit_desk.specs.declared.reply.Refusal.TheVariants as refusal
use Rattle.pit_desk.specs.declared.reply.EntryReply.{EntryReply}
use Rattle.pit_desk.specs.declared.reply.EntryReply.TheVariants as reply
use Rattle.pit_desk.specs.declared.reply.Reply.{Reply}
use Rattle.pit_desk.specs.declared.reply.Reply.TheVariants as answered
use Rattle.pit_script.specs.Jobs.{Job}
use Rattle.pit_script.specs.declared.step.Step.{Step}
use Rattle.pit_script.specs.declared.step.JobEnd.{JobEnd}
use Rattle.pit_script.specs.declared.step.JobEnd.TheVariants as ending
use Rattle.pit_desk.specs.declared.error.Stop.{Stop}
use Rattle.pit_desk.specs.declared.error.Stop.TheVariants as desk_stop
use Rattle.pit_share.specs.Endings.{IsAnswered, IsEnded, IsStopped}
use Rattle.pit_share.specs.Planners.{PlannerState, TransactionState, Begins, SeesOn}
use Rattle.pit_job.specs.Effect.{nothing, no_change, read_in, effect, ended, steps_after, changes_after, HasEffect}
use Rattle.pit_job.specs.declared.doing.StepStop.TheVariants as met
use Rattle.pit_job.specs.declared.doing.StepStop.{StepStop}
use Rattle.pit_job.specs.declared.outcome.JobStop.{JobStop}
use Rattle.pit_job.specs.declared.outcome.JobStop.TheVariants as job_stop
use Rattle.pit_job.specs.declared.outcome.Tried.{Tried}
use Rattle.pit_job.specs.declared.outcome.Tried.TheVariants as tried
use Rattle.pit_job.specs.Inside.Doing.{own_of, Same, NotesOnly, DoesSteps, Meets, IsFresh, come_to}
use Rattle.pit_job.specs.Outcomes.{IsRead, IsReadAmong, IsCallOf, StandsIn, Grows}
use Rattle.pit_job.specs.Inside.Outcomes.{Tries, EndsBy, IsStop, stop_of, tried_at, tried_of}
use Rattle.pit_job.proofs.Seeing.{prefix-trans, commits-fewer, sees-same, answered-moved, answered-noted}
use Rattle.pit_job.proofs.Growing.{try-from}
use Rattle.pit_job.proofs.Noting.{among-read}

-- what stopped the ending of a transaction stopped the try
try-stop : (pit : Pit) (max_entries : ℕ) (steps : List Step) (seen : List Answered) (why : JobStop) → IsStop pit max_entries [] seen why → IsStop pit max_entries steps seen why
try-stop pit max_entries steps seen job_stop.Full is = is
try-stop pit max_entries steps seen job_stop.NoMemory is = tt
try-stop pit max_entries steps seen job_stop.NoEntry is = let none = is.1.among.1 in absurd (omega arith)

-- an ending is a try's, where the call is the job's, and began after what had been seen
pub tries-of : (pit : Pit) (max_entries : ℕ) (task : Job) (n : ℕ) (how : Act) (w : Sets) (old new : PlannerState) (es : List Answered) (t : Tried) → w.job ≡ n → length (commits_of old.seen) ≤ w.start
    → w.start ≤ length (commits_of new.seen) → IsCallOf pit task (work_call w how) → Grows old es new → EndsBy pit max_entries how w new.seen es t → Tries pit max_entries task n old.seen new.seen es t
tries-of pit max_entries task n how w old new es (tried.Moved block version) same after few has grows (is, moved, noted) = record {
  start = w.start;
  after = after;
  sees = grows.seen;
  moved = moved;
  read = subst (IsRead pit task.steps) noted.2 (among-read pit (read_in w.reads) task.steps no_change noted.0.0
      (All-contains (λ (read : ℕ × Option ℕ). IsReadAmong pit (read_in w.reads) no_change task.steps read.0) w.reads noted.0 has.reads noted.1));
  made = inl (
    record { call = work_call w how; reply = reply.Refused (refusal.Moved block version) },
    is,
    record { item = record { job = same; call = has }; begun = refl; answer = refl },
  );
}
tries-of pit max_entries task n how w old new es (tried.Answered answer) same after few has grows (is, other, stands) =
    (record { call = work_call w how; reply = answer }, is, record { job = same; call = has }, refl, other, after, few, stands)
tries-of pit max_entries task n how w old new es (tried.Stopped why) same after few has grows (is, stop) = (is, try-stop pit max_entries task.steps new.seen why stop)

-- what all steps come to, over the reads that were made
steps-come : (pit : Pit) (task : Job) (n : ℕ) (old new : TransactionState) (goes : Bool) → IsFresh n old → DoesSteps pit old task.steps goes new
    → steps_after pit (read_in new.work.reads) no_change task.steps ≡ come_to goes (own_of new.work)
steps-come pit task n old new goes fresh does =
    subst (λ (own : Commit). steps_after pit (read_in new.work.reads) own task.steps ≡ come_to goes (own_of new.work)) fresh.own (does.does (read_in new.work.reads) (λ b v is. is))

-- what they have changed, and what they noted
steps-changed : (pit : Pit) (task : Job) (n : ℕ) (old new : TransactionState) (goes : Bool) → IsFresh n old → DoesSteps pit old task.steps goes new
    → own_of new.work ≡ changes_after pit (read_in new.work.reads) no_change task.steps
steps-changed pit task n old new goes fresh does =
    sym (subst (λ (own : Commit). changes_after pit (read_in new.work.reads) own task.steps ≡ own_of new.work) fresh.own (does.own (read_in new.work.reads) (λ b v is. is)))

steps-noted : (pit : Pit) (task : Job) (n : ℕ) (old new : TransactionState) (goes : Bool) → IsFresh n old → DoesSteps pit old task.steps goes new
    → All (λ (read : ℕ × Option ℕ). IsReadAmong pit (read_in new.work.reads) no_change task.steps read.0) new.work.reads
steps-noted pit task n old new goes fresh does =
    let noted =
    subst (λ (own : Commit). NotesOnly (IsReadAmong pit (read_in new.work.reads) own task.steps) old.work.reads new.work.reads) fresh.own (does.noted (read_in new.work.reads) (λ b v is. is)) in
    subst (All (λ (read : ℕ × Option ℕ). IsReadAmong pit (read_in new.work.reads) no_change task.steps read.0))
    (sym (noted.grown ∙ ap (λ (xs : List (ℕ × Option ℕ)). xs ++ noted.more) fresh.reads)) noted.each

-- so the call is the job's, where it has the job's effect
call-of : (pit : Pit) (task : Job) (n : ℕ) (old new : TransactionState) (goes : Bool) (how : Act) → IsFresh n old → DoesSteps pit old task.steps goes new → HasEffect pit task (work_call new.work how)
    → IsCallOf pit task (work_call new.work how)
call-of pit task n old new goes how fresh does has =
    record { effect = has; changes = steps-changed pit task n old new goes fresh does; reads = steps-noted pit task n old new goes fresh does }

-- a commit after all steps
commit-has : (pit : Pit) (task : Job) (n : ℕ) (old new : TransactionState) → IsFresh n old → task.end ≡ ending.Commit → DoesSteps pit old task.steps true new → HasEffect pit task (work_call new.work act.Commit)
unfolding effect
commit-has pit task n old new fresh is does = rw is (steps-come pit task n old new true fresh does)

-- a withdrawal after all steps
abort-has : (pit : Pit) (task : Job) (n : ℕ) (old new : TransactionState) → IsFresh n old → task.end ≡ ending.Abort → DoesSteps pit old task.steps true new → HasEffect pit task (work_call new.work act.Withdraw)
unfolding effect
abort-has pit task n old new fresh is does = rw is (ap (ended ending.Abort) (steps-come pit task n old new true fresh does))

-- and where a step failed
failed-has : (pit : Pit) (task : Job) (n : ℕ) (old new : TransactionState) → IsFresh n old → DoesSteps pit old task.steps false new → HasEffect pit task (work_call new.work act.Withdraw)
unfolding effect
failed-has pit task n old new fresh does = by task.end (steps-come pit task n old new false fresh does)
  where
    by : (how : JobEnd) → steps_after pit (read_in new.work.reads) no_change task.steps ≡ nothing → ended how (steps_after pit (read_in new.work.reads) no_change task.steps) ≡ nothing
    by ending.Commit is = is
    by ending.Abort is = ap (ended ending.Abort) is

-- what was answered has been seen
stands-of : (pit : Pit) (call : Call) (answer : EntryReply) (old seen : List Answered) → IsAnswered pit call answer old seen → StandsIn seen (record { call = call; reply = answer })
stands-of pit call answer old seen is = record { before = is.before; begins = is.stands }

-- a commit's answer
pub commit-ends : (pit : Pit) (max_entries : ℕ) (w : Sets) (old seen es : List Answered) (r : Reply) → IsAnswered pit (work_call w act.Commit) (entry_reply r) old seen
    → es ≡ record { call = work_call w act.Commit; reply = entry_reply r } ∷ [] → EndsBy pit max_entries act.Commit w seen es (tried_of r)
commit-ends pit max_entries w old seen es (answered.Committed number) answer is = (is, refl, stands-of pit _ _ old seen answer)
commit-ends pit max_entries w old seen es (answered.Refused (refusal.Ahead start commits)) answer is = (is, refl, stands-of pit _ _ old seen answer)
commit-ends pit max_entries w old seen es (answered.Refused (refusal.Moved block version)) answer is = (
  is,
  answered-moved pit (work_call w act.Commit) (reply.Refused (refusal.Moved block version)) old seen block version answer refl,
  answered-noted pit (work_call w act.Commit) (reply.Refused (refusal.Moved block version)) old seen block version answer refl,
)
commit-ends pit max_entries w old seen es (answered.Refused (refusal.Misread block)) answer is = (is, refl, stands-of pit _ _ old seen answer)
commit-ends pit max_entries w old seen es (answered.Refused (refusal.Precedence block before)) answer is = (is, refl, stands-of pit _ _ old seen answer)
commit-ends pit max_entries w old seen es (answered.Refused (refusal.Over resource period load limit)) answer is = (is, refl, stands-of pit _ _ old seen answer)

grows-on : (old new p : PlannerState) (es : List Answered) → SeesOn old new → Grows new es p → Grows old es p
grows-on old new p es sees grows = record {
  number = grows.number ∙ sees.number;
  items = grows.items ∙ ap (λ (xs : List Answered). xs ++ es) sees.items;
  seen = prefix-trans old.seen new.seen p.seen sees.seen grows.seen;
}

-- the transaction's start is still just behind what had been seen
start-after : (n : ℕ) (old new : TransactionState) → IsFresh n old → Same old new → new.work.start ≡ length (commits_of old.planner.seen)
start-after n old new fresh same = same.start ∙ fresh.after

-- a try that had seen less before
tries-from : (pit : Pit) (max_entries : ℕ) (task : Job) (n : ℕ) (less old new es : List Answered) (t : Tried) → IsPrefix less old → Tries pit max_entries task n old new es t → Tries pit max_entries task n less new es t
tries-from pit max_entries task n less old new es (tried.Moved block version) begins tries = try-from pit task n less old new es block version begins tries
tries-from pit max_entries task n less old new es (tried.Answered answer) begins (e, is, item, same, other, after, few, stands) =
    (e, is, item, same, other, omega (arith, after, commits-fewer less old begins), few, stands)
tries-from pit max_entries task n less old new es (tried.Stopped why) begins tries = tries

ends-tries : (pit : Pit) (max_entries : ℕ) (task : Job) (n : ℕ) (old new : TransactionState) (how : Act) (p : PlannerState) (t : Tried) → IsFresh n old → Same old new
    → IsCallOf pit task (work_call new.work how) → ((es : List Answered) × Grows new.planner es p × EndsBy pit max_entries how new.work p.seen es t)
    → (es : List Answered) × Grows old.planner es p × Tries pit max_entries task n old.planner.seen p.seen es t
ends-tries pit max_entries task n old new how p t fresh same has (es, grows, ends) =
    let grew = grows-on old.planner new.planner p es same.sees grows in
    let start = start-after n old new fresh same in
    let more = commits-fewer old.planner.seen p.seen grew.seen in
    (es, grew, tries-of pit max_entries task n how new.work old.planner p es t (same.job ∙ fresh.job) (omega (arith, start)) (omega (arith, start, more)) has grew ends)

-- the same of a job by another name
tries-same : (pit : Pit) (max_entries : ℕ) (task other : Job) (n : ℕ) (old p : PlannerState) (t : Tried) → other ≡ task → ((es : List Answered) × Grows old es p × Tries pit max_entries task n old.seen p.seen es t)
    → (es : List Answered) × Grows old es p × Tries pit max_entries other n old.seen p.seen es t
tries-same pit max_entries task other n old p t same (es, grows, tries) = (es, grows, subst (λ (j : Job). Tries pit max_entries j n old.seen p.seen es t) (sym same) tries)

-- the endings of a try whose steps came to their end
pub committed-tries : (pit : Pit) (max_entries : ℕ) (task other : Job) (n : ℕ) (old new : TransactionState) (goes : Bool) (p : PlannerState) (t : Tried) → other ≡ task → task.end ≡ ending.Commit → IsFresh n old
    → goes ≡ true → DoesSteps pit old task.steps goes new → ((es : List Answered) × Grows new.planner es p × EndsBy pit max_entries act.Commit new.work p.seen es t)
    → (es : List Answered) × Grows old.planner es p × Tries pit max_entries other n old.planner.seen p.seen es t
committed-tries pit max_entries task other n old new goes p t named how fresh is does ends =
    let all = subst (λ (b : Bool). DoesSteps pit old task.steps b new) is does in
    tries-same pit max_entries task other n old.planner p t named (ends-tries pit max_entries task n old new act.Commit p t fresh all.same (call-of pit task n old new true act.Commit fresh all (commit-has pit task n old new fresh how all)) ends)

pub aborted-tries : (pit : Pit) (max_entries : ℕ) (task other : Job) (n : ℕ) (old new : TransactionState) (goes : Bool) (p : PlannerState) (t : Tried) → other ≡ task → task.end ≡ ending.Abort → IsFresh n old
    → goes ≡ true → DoesSteps pit old task.steps goes new → ((es : List Answered) × Grows new.planner es p × EndsBy pit max_entries act.Withdraw new.work p.seen es t)
    → (es : List Answered) × Grows old.planner es p × Tries pit max_entries other n old.planner.seen p.seen es t
aborted-tries pit max_entries task other n old new goes p t named how fresh is does ends =
    let all = subst (λ (b : Bool). DoesSteps pit old task.steps b new) is does in
    tries-same pit max_entries task other n old.planner p t named (ends-tries pit max_entries task n old new act.Withdraw p t fresh all.same (call-of pit task n old new true act.Withdraw fresh all (abort-has pit task n old new fresh how all)) ends)

-- and where a step failed
pub failed-tries : (pit : Pit) (max_entries : ℕ) (task other : Job) (n : ℕ) (old new : TransactionState) (goes : Bool) (p : PlannerState) (t : Tried) → other ≡ task → IsFresh n old
    → goes ≡ false → DoesSteps pit old task.steps goes new → ((es : List Answered) × Grows new.planner es p × EndsBy pit max_entries act.Withdraw new.work p.seen es t)
    → (es : List Answered) × Grows old.planner es p × Tries pit max_entries other n old.planner.seen p.seen es t
failed-tries pit max_entries task other n old new goes p t named fresh is does ends =
    let some = subst (λ (b : Bool). DoesSteps pit old task.steps b new) is does in
    tries-same pit max_entries task other n old.planner p t named (ends-tries pit max_entries task n old new act.Withdraw p t fresh some.same (call-of pit task n old new false act.Withdraw fresh some (failed-has pit task n old new fresh some)) ends)

pub grows-none : (old new : PlannerState) → SeesOn old new → Grows old [] new
grows-none old new sees = record { number = sees.number; items = sees.items ∙ sym (append-nil old.items); seen = sees.seen }

-- a try whose steps met a block that moved
moved-tries : (pit : Pit) (max_entries : ℕ) (task : Job) (n : ℕ) (old : TransactionState) (p : PlannerState) (block version : ℕ) → IsFresh n old → SeesOn old.planner p
    → Meets (IsRead pit task.steps) old.work.start p.seen (met.Moved block version)
    → (es : List Answered) × Grows old.planner es p × Tries pit max_entries task n old.planner.seen p.seen es (tried.Moved block version)
moved-tries pit max_entries task n old p block version fresh sees meets = (
  [],
  grows-none old.planner p sees,
  record { start = old.work.start; after = (let after = fresh.after in omega (arith, after)); sees = sees.seen; moved = meets.1; read = meets.0; made = inr refl },
)

pub ended-grows : (pit : Pit) (old new : PlannerState) (call : Call) (reply : EntryReply) → IsEnded pit old call reply new → Grows old (record { call = call; reply = reply } ∷ []) new
ended-grows pit old new call reply ended = record { number = ended.number; items = ended.items; seen = ended.seen }

-- a try that stops adds nothing
pub stopped-tries : (pit : Pit) (max_entries : ℕ) (task : Job) (n : ℕ) (old p : PlannerState) (why : JobStop) → SeesOn old p → IsStop pit max_entries task.steps p.seen why
    → (es : List Answered) × Grows old es p × Tries pit max_entries task n old.seen p.seen es (tried.Stopped why)
stopped-tries pit max_entries task n old p why sees stop = ([], grows-none old p sees, (refl, stop))

-- what stopped the steps of a try
met-tries : (pit : Pit) (max_entries : ℕ) (task : Job) (n : ℕ) (old : TransactionState) (p : PlannerState) (s : StepStop) → IsFresh n old → SeesOn old.planner p
    → Meets (IsRead pit task.steps) old.work.start p.seen s → (es : List Answered) × Grows old.planner es p × Tries pit max_entries task n old.planner.seen p.seen es (tried_at s)
met-tries pit max_entries task n old p (met.Moved block version) fresh sees meets = moved-tries pit max_entries task n old p block version fresh sees meets
met-tries pit max_entries task n old p met.NoMemory fresh sees meets = stopped-tries pit max_entries task n old.planner p job_stop.NoMemory sees tt
met-tries pit max_entries task n old p met.NoEntry fresh sees meets = stopped-tries pit max_entries task n old.planner p job_stop.NoEntry sees meets

pub abandoned-tries : (pit : Pit) (max_entries : ℕ) (task other : Job) (n : ℕ) (old mid : TransactionState) (p : PlannerState) (s : StepStop) (t : Tried) → other ≡ task → IsFresh n old
    → SeesOn old.planner mid.planner → Meets (IsRead pit task.steps) old.work.start mid.planner.seen s → p ≡ mid.planner → t ≡ tried_at s
    → (es : List Answered) × Grows old.planner es p × Tries pit max_entries other n old.planner.seen p.seen es t
abandoned-tries pit max_entries task other n old mid p s t named fresh sees meets same is =
    let here = subst (SeesOn old.planner) (sym same) sees in
    let met_here = subst (λ (q : PlannerState). Meets (IsRead pit task.steps) old.work.start q.seen s) (sym same) meets in
    tries-same pit max_entries task other n old.planner p t named
    (subst (λ (x : Tried). (es : List Answered) × Grows old.planner es p × Tries pit max_entries task n old.planner.seen p.seen es x) (sym is)
    (met-tries pit max_entries task n old p s fresh here met_here))

stopped-sees : (max_entries : ℕ) (old later : TransactionState) (s : Stop) → IsStopped max_entries old s later → SeesOn old.planner later.planner
stopped-sees max_entries old later desk_stop.Full stopped = stopped.1
stopped-sees max_entries old later desk_stop.NoMemory stopped = sees-same old.planner later.planner (ap (λ (t : TransactionState). t.planner) stopped)

stopped-is : (pit : Pit) (max_entries : ℕ) (old later : TransactionState) (s : Stop) → IsStopped max_entries old s later → IsStop pit max_entries [] later.planner.seen (stop_of s)
stopped-is pit max_entries old later desk_stop.Full stopped = stopped.2
stopped-is pit max_entries old later desk_stop.NoMemory stopped = tt

-- an ending that got no answer
pub stopped-ends : (pit : Pit) (max_entries : ℕ) (how : Act) (old later : TransactionState) (p : PlannerState) (s : Stop) (why : JobStop) → IsStopped max_entries old s later → p ≡ later.planner → why ≡ stop_of s
    → (es : List Answered) × Grows old.planner es p × EndsBy pit max_entries how old.work p.seen es (tried.Stopped why)
stopped-ends pit max_entries how old later p s why stopped same is =
    let sees = subst (SeesOn old.planner) (sym same) (stopped-sees max_entries old later s stopped) in
    let here = subst (λ (q : PlannerState). IsStop pit max_entries [] q.seen (stop_of s)) (sym same) (stopped-is pit max_entries old later s stopped) in
    ([], grows-none old.planner p sees, (refl, subst (IsStop pit max_entries [] p.seen) (sym is) here))

-- a withdrawal that was answered
pub withdrawn-ends : (pit : Pit) (max_entries : ℕ) (w : Sets) (old p : PlannerState) → IsEnded pit old (work_call w act.Withdraw) reply.Withdrawn p
    → (es : List Answered) × Grows old es p × EndsBy pit max_entries act.Withdraw w p.seen es (tried.Answered reply.Withdrawn)
withdrawn-ends pit max_entries w old p ended =
    (record { call = work_call w act.Withdraw; reply = reply.Withdrawn } ∷ [], ended-grows pit old p (work_call w act.Withdraw) reply.Withdrawn ended, (refl, refl, stands-of pit (work_call w act.Withdraw) reply.Withdrawn old.seen p.seen ended.answer))

-- and a commit
pub answered-ends : (pit : Pit) (max_entries : ℕ) (w : Sets) (old p : PlannerState) (r : Reply) (t : Tried) → IsEnded pit old (work_call w act.Commit) (entry_reply r) p → t ≡ tried_of r
    → (es : List Answered) × Grows old es p × EndsBy pit max_entries act.Commit w p.seen es t
answered-ends pit max_entries w old p r t ended is =
    let es : List Answered = record { call = work_call w act.Commit; reply = entry_reply r } ∷ [] in (
      es,
      ended-grows pit old p (work_call w act.Commit) (entry_reply r) ended,
      subst (λ (x : Tried). EndsBy pit max_entries act.Commit w p.seen es x) (sym is) (commit-ends pit max_entries w old.seen p.seen es r ended.answer refl),
    )

pub begun-tries : (pit : Pit) (max_entries : ℕ) (task : Job) (n : ℕ) (old new p : PlannerState) (t : Tried) → SeesOn old new
    → ((es : List Answered) × Grows new es p × Tries pit max_entries task n new.seen p.seen es t) → (es : List Answered) × Grows old es p × Tries pit max_entries task n old.seen p.seen es t
begun-tries pit max_entries task n old new p t sees (es, grows, tries) =
    (es, grows-on old new p es sees grows, tries-from pit max_entries task n old.seen new.seen p.seen es t sees.seen tries)

pub fresh-of : (pit : Pit) (old : PlannerState) (n : ℕ) (t : TransactionState) → Begins pit old n t → IsFresh n t
fresh-of pit old n t begins = record {
  job = ap (λ (w : Sets). w.job) begins.work;
  after = ap (λ (w : Sets). w.start) begins.work;
  own = ap (λ (w : Sets). own_of w) begins.work;
  reads = ap (λ (w : Sets). w.reads) begins.work;
}

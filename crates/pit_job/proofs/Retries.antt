-- Tries of a job, and jobs of a script.
use Rattle.std.proofs.Math.Seq.{drop-cons}
use Rattle.std.proofs.lemmas.List.{drop_all}
use Rattle.std.proofs.Common.{◌≡◌, ℕ, ◌+◌, ◌<◌, ◌≤◌, List, [], ◌∷◌, ◌++◌, length, drop, add-one, refl, sym, ap, subst, ◌∙◌, arith, append-nil, append_assoc, inl, inr}
use Rattle.std.specs.Prelude.{Result, Ok, Err}
use mathlib.Core.List.{IsPrefix}
use Rattle.pit_model.specs.Pit.{Pit}
use Rattle.pit_desk.specs.History.{Answered}
use Rattle.pit_desk.specs.declared.reply.EntryReply.{EntryReply}
use Rattle.pit_desk.specs.declared.reply.EntryReply.TheVariants as reply
use Rattle.pit_desk.specs.declared.reply.Refusal.TheVariants as refusal
use Rattle.pit_job.specs.declared.outcome.JobStop.{JobStop}
use Rattle.pit_job.specs.declared.outcome.JobStop.TheVariants as stop
use Rattle.pit_share.specs.Planners.{PlannerState}
use Rattle.pit_script.specs.Jobs.{Job, empty_job, job_at}
use Rattle.pit_script.specs.declared.step.Step.{Step}
use Rattle.pit_job.specs.declared.outcome.Tried.{Tried}
use Rattle.pit_job.specs.declared.outcome.Tried.TheVariants as tried
use Rattle.pit_job.specs.declared.outcome.Outcome.{Outcome}
use Rattle.pit_job.specs.declared.outcome.Outcome.TheVariants as outcome
use Rattle.pit_job.specs.declared.outcome.RunEnd.{RunEnd}
use Rattle.pit_job.specs.declared.outcome.RunEnd.TheVariants as end
use Rattle.pit_job.specs.Outcomes.{IsMovedTry, Repeats, Grows, is_moved_reply}
use Rattle.pit_job.specs.Inside.Outcomes.{Tries, IsStop, outcome_of}
use Rattle.pit_job.specs.Runs.{Ran, LeftOff, RanFrom, EndedBefore, reply_of, tries_of}
use Rattle.pit_job.specs.Inside.Runs.{RanJob, RanUpTo, end_of}
use Rattle.pit_job.proofs.Seeing.{prefix-refl, prefix-trans}
use Rattle.pit_job.proofs.Growing.{repeats-on}

pub grows-none : (a : PlannerState) → Grows a [] a
grows-none a = record { number = refl; items = sym (append-nil a.items); seen = prefix-refl a.seen }

pub grows-more : (a b c : PlannerState) (es fs : List Answered) → Grows a es b → Grows b fs c → Grows a (es ++ fs) c
grows-more a b c es fs f g = record {
  number = g.number ∙ f.number;
  items = g.items ∙ ap (λ (xs : List Answered). xs ++ fs) f.items ∙ append_assoc a.items es fs;
  seen = prefix-trans a.seen b.seen c.seen f.seen g.seen;
}

pub repeats-none : (pit : Pit) (task : Job) (n : ℕ) (seen : List Answered) → Repeats pit task n 0 seen seen []
repeats-none pit task n seen = (refl, prefix-refl seen)

-- one more try that ended by Moved
pub repeats-more : (pit : Pit) (task : Job) (n k : ℕ) (old mid new es fs : List Answered) (block version : ℕ) → Repeats pit task n k old mid es
    → IsMovedTry pit task n mid new fs block version → Repeats pit task n (k + 1) old new (es ++ fs)
repeats-more pit task n k old mid new es fs block version repeats moved =
    subst (λ (m : ℕ). Repeats pit task n m old new (es ++ fs)) (sym (add-one k)) (mid, es, fs, block, version, refl, repeats, moved)

reply-of-outcome : (r : EntryReply) (tries : ℕ) → reply_of (outcome_of r tries) ≡ r
reply-of-outcome (reply.Committed number) tries = refl
reply-of-outcome (reply.Refused why) tries = refl
reply-of-outcome reply.Withdrawn tries = refl

tries-of-outcome : (r : EntryReply) (tries : ℕ) → tries_of (outcome_of r tries) ≡ tries
tries-of-outcome (reply.Committed number) tries = refl
tries-of-outcome (reply.Refused why) tries = refl
tries-of-outcome reply.Withdrawn tries = refl

-- an answer settles the job
pub settles : (pit : Pit) (max_entries : ℕ) (task : Job) (retries n k : ℕ) (old mid new es fs : List Answered) (r : EntryReply) → k ≤ retries → Repeats pit task n k old mid es → IsPrefix mid new
    → Tries pit max_entries task n mid new fs (tried.Answered r) → Ran pit task retries n old new (es ++ fs) (outcome_of r (k + 1))
settles pit max_entries task retries n k old mid new es fs r few repeats sees (e, is, item, same, other, after, before_more, stands) = inl (record {
  before = k;
  mid = mid;
  repeated = es;
  last = e;
  cut = ap (λ (xs : List Answered). es ++ xs) is;
  repeats = repeats;
  sees = sees;
  item = item;
  after = after;
  before_more = before_more;
  stands = stands;
  answer = same ∙ sym (reply-of-outcome r (k + 1));
  other = ap is_moved_reply same ∙ other;
  tries = tries-of-outcome r (k + 1);
  few = few;
})

-- after the last try it is given up, with that try's pair
pub gives-up : (pit : Pit) (task : Job) (retries n k : ℕ) (old mid new es fs : List Answered) (block version : ℕ) → k ≡ retries → Repeats pit task n k old mid es
    → IsMovedTry pit task n mid new fs block version → Ran pit task retries n old new (es ++ fs) (outcome.Refused (refusal.Moved block version) (retries + 1))
gives-up pit task retries n k old mid new es fs block version all repeats moved = inr (record {
  mid = mid;
  repeated = es;
  last = fs;
  block = block;
  version = version;
  cut = refl;
  repeats = subst (λ (m : ℕ). Repeats pit task n m old mid es) all repeats;
  moved = moved;
  answer = refl;
})

pub stops : (pit : Pit) (task : Job) (retries n k : ℕ) (old mid new es fs : List Answered) → k ≤ retries → fs ≡ [] → IsPrefix mid new → Repeats pit task n k old mid es
    → LeftOff pit task retries n old new (es ++ fs)
stops pit task retries n k old mid new es fs few none sees repeats = record {
  before = k;
  repeats = subst (Repeats pit task n k old new) (sym (ap (λ (xs : List Answered). es ++ xs) none ∙ append-nil es)) (repeats-on pit task n k old mid new es sees repeats);
  few = few;
}

-- a log that has grown by tries that ended by Moved grows by one more try
pub try-moved : (pit : Pit) (max_entries : ℕ) (task : Job) (n k : ℕ) (a b c : PlannerState) (t : Tried) (block version : ℕ) → ((es : List Answered) × Grows a es b × Repeats pit task n k a.seen b.seen es)
    → ((fs : List Answered) × Grows b fs c × Tries pit max_entries task n b.seen c.seen fs t) → t ≡ tried.Moved block version
    → (es : List Answered) × Grows a es c × Repeats pit task n (k + 1) a.seen c.seen es
try-moved pit max_entries task n k a b c t block version (es, grew, repeats) (fs, grows, tries) is = (
  es ++ fs,
  grows-more a b c es fs grew grows,
  repeats-more pit task n k a.seen b.seen c.seen es fs block version repeats (subst (Tries pit max_entries task n b.seen c.seen fs) is tries),
)

pub try-answered : (pit : Pit) (max_entries : ℕ) (task : Job) (retries n k : ℕ) (a b c : PlannerState) (t : Tried) (r : EntryReply) (o : Outcome)
    → ((es : List Answered) × Grows a es b × Repeats pit task n k a.seen b.seen es) → ((fs : List Answered) × Grows b fs c × Tries pit max_entries task n b.seen c.seen fs t)
    → t ≡ tried.Answered r → o ≡ outcome_of r (k + 1) → k ≤ retries → (es : List Answered) × Grows a es c × Ran pit task retries n a.seen c.seen es o
try-answered pit max_entries task retries n k a b c t r o (es, grew, repeats) (fs, grows, tries) is result few = (
  es ++ fs,
  grows-more a b c es fs grew grows,
  subst (Ran pit task retries n a.seen c.seen (es ++ fs)) (sym result)
      (settles pit max_entries task retries n k a.seen b.seen c.seen es fs r few repeats grows.seen (subst (Tries pit max_entries task n b.seen c.seen fs) is tries)),
)

pub try-stopped : (pit : Pit) (max_entries : ℕ) (task : Job) (retries n k : ℕ) (a b c : PlannerState) (t : Tried) (s : JobStop)
    → ((es : List Answered) × Grows a es b × Repeats pit task n k a.seen b.seen es) → ((fs : List Answered) × Grows b fs c × Tries pit max_entries task n b.seen c.seen fs t)
    → t ≡ tried.Stopped s → k ≤ retries → (es : List Answered) × Grows a es c × RanJob pit max_entries task retries n a.seen c.seen es (Err s)
try-stopped pit max_entries task retries n k a b c t s (es, grew, repeats) (fs, grows, tries) is few =
    let stopped = subst (Tries pit max_entries task n b.seen c.seen fs) is tries in
    (es ++ fs, grows-more a b c es fs grew grows, (stops pit task retries n k a.seen b.seen c.seen es fs few stopped.0 grows.seen repeats, stopped.1))

pub try-last : (pit : Pit) (max_entries : ℕ) (task : Job) (retries n k : ℕ) (a b c : PlannerState) (t : Tried) (block version : ℕ)
    → ((es : List Answered) × Grows a es b × Repeats pit task n k a.seen b.seen es) → ((fs : List Answered) × Grows b fs c × Tries pit max_entries task n b.seen c.seen fs t)
    → t ≡ tried.Moved block version → k ≡ retries
    → (es : List Answered) × Grows a es c × Ran pit task retries n a.seen c.seen es (outcome.Refused (refusal.Moved block version) (retries + 1))
try-last pit max_entries task retries n k a b c t block version (es, grew, repeats) (fs, grows, tries) is all = (
  es ++ fs,
  grows-more a b c es fs grew grows,
  gives-up pit task retries n k a.seen b.seen c.seen es fs block version all repeats (subst (Tries pit max_entries task n b.seen c.seen fs) is tries),
)

-- ---- scripts

drop-here : (xs : List Job) (i : ℕ) (task : Job) → i < length xs → job_at xs i ≡ task → drop i xs ≡ task ∷ drop (i + 1) xs
drop-here xs i task h is = rw (add-one, drop-cons xs i empty_job, is)

pub up_to-none : (pit : Pit) (max_entries retries : ℕ) (seen : List Answered) (jobs : List Job) → RanUpTo pit max_entries retries seen seen jobs 0 1 [] []
up_to-none pit max_entries retries seen jobs new later more ended ran = ran

-- one job more
pub up_to-next : (pit : Pit) (max_entries retries : ℕ) (old mid now : List Answered) (jobs : List Job) (i n : ℕ) (task : Job) (es mine : List Answered) (os : List Outcome) (o : Outcome)
    → i < length jobs → job_at jobs i ≡ task → RanUpTo pit max_entries retries old mid jobs i n es os → Ran pit task retries n mid now mine o
    → RanUpTo pit max_entries retries old now jobs (i + 1) (n + 1) (es ++ mine) (os ++ o ∷ [])
up_to-next pit max_entries retries old mid now jobs i n task es mine os o less at up_to ran new later more ended rest =
    let here : RanFrom pit max_entries retries mid new n (drop i jobs) (mine ++ later) (o ∷ more) ended =
    subst (λ (xs : List Job). RanFrom pit max_entries retries mid new n xs (mine ++ later) (o ∷ more) ended) (sym (drop-here jobs i task less at)) (now, mine, later, refl, ran, rest) in
    let all : RanFrom pit max_entries retries old new 1 jobs (es ++ (mine ++ later)) (os ++ o ∷ more) ended = up_to new (mine ++ later) (o ∷ more) ended here in
    let a : RanFrom pit max_entries retries old new 1 jobs ((es ++ mine) ++ later) (os ++ o ∷ more) ended =
    subst (λ (xs : List Answered). RanFrom pit max_entries retries old new 1 jobs xs (os ++ o ∷ more) ended) (sym (append_assoc es mine later)) all in
    subst (λ (xs : List Outcome). RanFrom pit max_entries retries old new 1 jobs ((es ++ mine) ++ later) xs ended) (sym (append_assoc os (o ∷ []) more)) a

-- the run stops at a job
pub up_to-stop : (pit : Pit) (max_entries retries : ℕ) (old mid new : List Answered) (jobs : List Job) (i n : ℕ) (task : Job) (es mine : List Answered) (os : List Outcome) (ended : RunEnd)
    → i < length jobs → job_at jobs i ≡ task → RanUpTo pit max_entries retries old mid jobs i n es os → EndedBefore pit max_entries task.steps new n ended → LeftOff pit task retries n mid new mine
    → RanFrom pit max_entries retries old new 1 jobs (es ++ mine) os ended
up_to-stop pit max_entries retries old mid new jobs i n task es mine os ended less at up_to stop left =
    let here : RanFrom pit max_entries retries mid new n (drop i jobs) mine [] ended =
    subst (λ (xs : List Job). RanFrom pit max_entries retries mid new n xs mine [] ended) (sym (drop-here jobs i task less at)) (stop, left) in
    subst (λ (xs : List Outcome). RanFrom pit max_entries retries old new 1 jobs (es ++ mine) xs ended) (append-nil os) (up_to new mine [] ended here)

-- all jobs have their outcomes
pub up_to-whole : (pit : Pit) (max_entries retries : ℕ) (old new : List Answered) (jobs : List Job) (i n : ℕ) (es : List Answered) (os : List Outcome) → length jobs ≤ i
    → RanUpTo pit max_entries retries old new jobs i n es os → RanFrom pit max_entries retries old new 1 jobs es os end.Whole
up_to-whole pit max_entries retries old new jobs i n es os past up_to =
    let here : RanFrom pit max_entries retries new new n (drop i jobs) [] [] end.Whole =
    subst (λ (xs : List Job). RanFrom pit max_entries retries new new n xs [] [] end.Whole) (sym (drop_all i jobs past)) (refl, refl, prefix-refl new) in
    let all : RanFrom pit max_entries retries old new 1 jobs (es ++ []) (os ++ []) end.Whole = up_to new [] [] end.Whole here in
    let a = subst (λ (xs : List Outcome). RanFrom pit max_entries retries old new 1 jobs (es ++ []) xs end.Whole) (append-nil os) all in
    subst (λ (xs : List Answered). RanFrom pit max_entries retries old new 1 jobs xs os end.Whole) (append-nil es) a

end_of-before : (pit : Pit) (max_entries : ℕ) (steps : List Step) (seen : List Answered) (s : JobStop) (n : ℕ) → IsStop pit max_entries steps seen s → EndedBefore pit max_entries steps seen n (end_of s n)
end_of-before pit max_entries steps seen stop.Full n is = (refl, is)
end_of-before pit max_entries steps seen stop.NoMemory n is = refl
end_of-before pit max_entries steps seen stop.NoEntry n is = (refl, is)

-- a job has its outcome
pub job-done : (pit : Pit) (max_entries retries : ℕ) (jobs : List Job) (i n : ℕ) (task : Job) (a b c : PlannerState) (os outs : List Outcome) (o : Outcome) (answer : Result Outcome JobStop)
    → i < length jobs → job_at jobs i ≡ task → ((es : List Answered) × Grows a es b × RanUpTo pit max_entries retries a.seen b.seen jobs i n es os)
    → ((fs : List Answered) × Grows b fs c × RanJob pit max_entries task retries n b.seen c.seen fs answer) → answer ≡ Ok o → outs ≡ os ++ o ∷ []
    → (es : List Answered) × Grows a es c × RanUpTo pit max_entries retries a.seen c.seen jobs (i + 1) (n + 1) es outs
job-done pit max_entries retries jobs i n task a b c os outs o answer less at (es, grew, up_to) (fs, grows, ran) is pushed = (
  es ++ fs,
  grows-more a b c es fs grew grows,
  subst (RanUpTo pit max_entries retries a.seen c.seen jobs (i + 1) (n + 1) (es ++ fs)) (sym pushed)
      (up_to-next pit max_entries retries a.seen b.seen c.seen jobs i n task es fs os o less at up_to (subst (RanJob pit max_entries task retries n b.seen c.seen fs) is ran)),
)

-- a job stops the run
pub job-stops : (pit : Pit) (max_entries retries : ℕ) (jobs : List Job) (i n : ℕ) (task : Job) (a b c : PlannerState) (os outs : List Outcome) (s : JobStop) (answer : Result Outcome JobStop) (ended : RunEnd)
    → i < length jobs → job_at jobs i ≡ task → ((es : List Answered) × Grows a es b × RanUpTo pit max_entries retries a.seen b.seen jobs i n es os)
    → ((fs : List Answered) × Grows b fs c × RanJob pit max_entries task retries n b.seen c.seen fs answer) → answer ≡ Err s → ended ≡ end_of s n → outs ≡ os
    → (es : List Answered) × Grows a es c × RanFrom pit max_entries retries a.seen c.seen 1 jobs es outs ended
job-stops pit max_entries retries jobs i n task a b c os outs s answer ended less at (es, grew, up_to) (fs, grows, ran) is result same =
    let stopped = subst (RanJob pit max_entries task retries n b.seen c.seen fs) is ran in
    let before = subst (EndedBefore pit max_entries task.steps c.seen n) (sym result) (end_of-before pit max_entries task.steps c.seen s n stopped.1) in (
      es ++ fs,
      grows-more a b c es fs grew grows,
      subst (λ (xs : List Outcome). RanFrom pit max_entries retries a.seen c.seen 1 jobs (es ++ fs) xs ended) (sym same)
          (up_to-stop pit max_entries retries a.seen b.seen c.seen jobs i n task es fs os ended less at up_to before stopped.0),
    )

-- there is no room for its outcome
pub job-unasked : (pit : Pit) (max_entries retries : ℕ) (jobs : List Job) (i n : ℕ) (task : Job) (a b : PlannerState) (os outs : List Outcome)
    → i < length jobs → job_at jobs i ≡ task → ((es : List Answered) × Grows a es b × RanUpTo pit max_entries retries a.seen b.seen jobs i n es os) → outs ≡ os
    → (es : List Answered) × Grows a es b × RanFrom pit max_entries retries a.seen b.seen 1 jobs es outs (end.NoMemory n)
job-unasked pit max_entries retries jobs i n task a b os outs less at (es, grew, up_to) same =
    let left : LeftOff pit task retries n b.seen b.seen [] = record { before = 0; repeats = repeats-none pit task n b.seen; few = omega arith } in (
      es,
      grew,
      subst (λ (xs : List Outcome). RanFrom pit max_entries retries a.seen b.seen 1 jobs es xs (end.NoMemory n)) (sym same)
          (subst (λ (xs : List Answered). RanFrom pit max_entries retries a.seen b.seen 1 jobs xs os (end.NoMemory n)) (append-nil es)
          (up_to-stop pit max_entries retries a.seen b.seen b.seen jobs i n task es [] os (end.NoMemory n) less at up_to refl left)),
    )

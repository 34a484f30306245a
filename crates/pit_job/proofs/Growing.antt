-- What is so of tries and runs, also where less had been seen before, or more is seen then.
use Rattle.std.proofs.Common.{ℕ, zero, suc, ◌+◌, List, [], ◌∷◌, ◌++◌, length, ap, arith, length-append, inl, inr}
use mathlib.Core.List.{IsPrefix}
use Rattle.pit_model.specs.Pit.{Pit}
use Rattle.pit_desk.specs.History.{Answered}
use Rattle.pit_script.specs.Jobs.{Job}
use Rattle.pit_script.specs.declared.step.Step.{Step}
use Rattle.pit_job.specs.declared.outcome.Outcome.{Outcome}
use Rattle.pit_job.specs.declared.outcome.RunEnd.{RunEnd}
use Rattle.pit_job.specs.Outcomes.{IsMovedTry, Repeats}
use Rattle.pit_job.specs.declared.outcome.RunEnd.TheVariants as end
use Rattle.pit_job.specs.Runs.{Ran, LeftOff, EndedBefore, RanFrom}
use Rattle.pit_job.proofs.Seeing.{prefix-trans, commits-fewer, moved-on}

-- ---- less before

pub try-from : (pit : Pit) (task : Job) (n : ℕ) (less old new es : List Answered) (block version : ℕ) → IsPrefix less old → IsMovedTry pit task n old new es block version
    → IsMovedTry pit task n less new es block version
try-from pit task n less old new es block version begins tried = record {
  start = tried.start;
  after = let after = tried.after in omega (arith, commits-fewer less old begins);
  sees = prefix-trans less old new begins tried.sees;
  moved = tried.moved;
  read = tried.read;
  made = tried.made;
}

pub repeats-from : (pit : Pit) (task : Job) (n k : ℕ) (less old new es : List Answered) → IsPrefix less old → Repeats pit task n k old new es → Repeats pit task n k less new es
repeats-from pit task n zero less old new es begins (none, sees) = (none, prefix-trans less old new begins sees)
repeats-from pit task n (suc k) less old new es begins (mid, earlier, last, block, version, cut, repeats, moved) =
    (mid, earlier, last, block, version, cut, repeats-from pit task n k less old mid earlier begins repeats, moved)

left-from : (pit : Pit) (task : Job) (retries n : ℕ) (less old new es : List Answered) → IsPrefix less old → LeftOff pit task retries n old new es → LeftOff pit task retries n less new es
left-from pit task retries n less old new es begins left =
    record { before = left.before; repeats = repeats-from pit task n left.before less old new es begins left.repeats; few = left.few }

pub ran-from : (pit : Pit) (task : Job) (retries n : ℕ) (less old new es : List Answered) (o : Outcome) → IsPrefix less old → Ran pit task retries n old new es o
    → Ran pit task retries n less new es o
ran-from pit task retries n less old new es o begins (inl s) = inl (record {
  before = s.before;
  mid = s.mid;
  repeated = s.repeated;
  last = s.last;
  cut = s.cut;
  repeats = repeats-from pit task n s.before less old s.mid s.repeated begins s.repeats;
  sees = s.sees;
  item = s.item;
  after = s.after;
  before_more = s.before_more;
  stands = s.stands;
  answer = s.answer;
  other = s.other;
  tries = s.tries;
  few = s.few;
})
ran-from pit task retries n less old new es o begins (inr g) = inr (record {
  mid = g.mid;
  repeated = g.repeated;
  last = g.last;
  block = g.block;
  version = g.version;
  cut = g.cut;
  repeats = repeats-from pit task n retries less old g.mid g.repeated begins g.repeats;
  moved = g.moved;
  answer = g.answer;
})

pub all-from : (pit : Pit) (max_entries retries n : ℕ) (less old new : List Answered) (jobs : List Job) (es : List Answered) (os : List Outcome) (ended : RunEnd) → IsPrefix less old
    → RanFrom pit max_entries retries old new n jobs es os ended → RanFrom pit max_entries retries less new n jobs es os ended
all-from pit max_entries retries n less old new [] es [] ended begins (none, whole, sees) = (none, whole, prefix-trans less old new begins sees)
all-from pit max_entries retries n less old new [] es (o ∷ os) ended begins ran = absurd ran
all-from pit max_entries retries n less old new (task ∷ rest) es [] ended begins (stop, left) = (stop, left-from pit task retries n less old new es begins left)
all-from pit max_entries retries n less old new (task ∷ rest) es (o ∷ os) ended begins (mid, mine, later, cut, ran, more) =
    (mid, mine, later, cut, ran-from pit task retries n less old mid mine o begins ran, more)

-- ---- more then

pub try-on : (pit : Pit) (task : Job) (n : ℕ) (old new more es : List Answered) (block version : ℕ) → IsPrefix new more → IsMovedTry pit task n old new es block version
    → IsMovedTry pit task n old more es block version
try-on pit task n old new more es block version on tried = record {
  start = tried.start;
  after = tried.after;
  sees = prefix-trans old new more tried.sees on;
  moved = moved-on new more tried.start block version on tried.moved;
  read = tried.read;
  made = tried.made;
}

pub repeats-on : (pit : Pit) (task : Job) (n k : ℕ) (old new more es : List Answered) → IsPrefix new more → Repeats pit task n k old new es → Repeats pit task n k old more es
repeats-on pit task n zero old new more es on (none, sees) = (none, prefix-trans old new more sees on)
repeats-on pit task n (suc k) old new more es on (mid, earlier, last, block, version, cut, repeats, moved) =
    (mid, earlier, last, block, version, cut, repeats, try-on pit task n mid new more last block version on moved)

left-on : (pit : Pit) (task : Job) (retries n : ℕ) (old new more es : List Answered) → IsPrefix new more → LeftOff pit task retries n old new es → LeftOff pit task retries n old more es
left-on pit task retries n old new more es on left =
    record { before = left.before; repeats = repeats-on pit task n left.before old new more es on left.repeats; few = left.few }

pub ran-on : (pit : Pit) (task : Job) (retries n : ℕ) (old new more es : List Answered) (o : Outcome) → IsPrefix new more → Ran pit task retries n old new es o
    → Ran pit task retries n old more es o
ran-on pit task retries n old new more es o on (inl s) = inl (record {
  before = s.before;
  mid = s.mid;
  repeated = s.repeated;
  last = s.last;
  cut = s.cut;
  repeats = s.repeats;
  sees = prefix-trans s.mid new more s.sees on;
  item = s.item;
  after = s.after;
  before_more = let few = s.before_more in omega (arith, few, commits-fewer new more on);
  stands = record { before = s.stands.before; begins = prefix-trans (s.stands.before ++ s.last ∷ []) new more s.stands.begins on };
  answer = s.answer;
  other = s.other;
  tries = s.tries;
  few = s.few;
})
ran-on pit task retries n old new more es o on (inr g) = inr (record {
  mid = g.mid;
  repeated = g.repeated;
  last = g.last;
  block = g.block;
  version = g.version;
  cut = g.cut;
  repeats = g.repeats;
  moved = try-on pit task n g.mid new more g.last g.block g.version on g.moved;
  answer = g.answer;
})

before-on : (pit : Pit) (max_entries n : ℕ) (steps : List Step) (seen more : List Answered) (ended : RunEnd) → IsPrefix seen more → EndedBefore pit max_entries steps seen n ended → EndedBefore pit max_entries steps more n ended
before-on pit max_entries n steps seen more end.Whole on stop = absurd stop
before-on pit max_entries n steps seen more (end.Full job) on (is, full) = (is, omega (arith, full, ap length on.1, length-append seen on.0))
before-on pit max_entries n steps seen more (end.NoMemory job) on stop = stop
before-on pit max_entries n steps seen more (end.NoEntry job) on stop = stop
before-on pit max_entries n steps seen more end.NoThread on stop = absurd stop

pub all-on : (pit : Pit) (max_entries retries n : ℕ) (old new more : List Answered) (jobs : List Job) (es : List Answered) (os : List Outcome) (ended : RunEnd) → IsPrefix new more
    → RanFrom pit max_entries retries old new n jobs es os ended → RanFrom pit max_entries retries old more n jobs es os ended
all-on pit max_entries retries n old new more [] es [] ended on (none, whole, sees) = (none, whole, prefix-trans old new more sees on)
all-on pit max_entries retries n old new more [] es (o ∷ os) ended on ran = absurd ran
all-on pit max_entries retries n old new more (task ∷ rest) es [] ended on (stop, left) = (before-on pit max_entries n task.steps new more ended on stop, left-on pit task retries n old new more es on left)
all-on pit max_entries retries n old new more (task ∷ rest) es (o ∷ os) ended on (mid, mine, later, cut, ran, ahead) =
    (mid, mine, later, cut, ran, all-on pit max_entries retries (n + 1) mid new more rest later os ended on ahead)

-- ---- all that was seen before is seen then

pub repeats-sees : (pit : Pit) (task : Job) (n k : ℕ) (old new es : List Answered) → Repeats pit task n k old new es → IsPrefix old new
repeats-sees pit task n zero old new es (none, sees) = sees
repeats-sees pit task n (suc k) old new es (mid, earlier, last, block, version, cut, repeats, moved) =
    prefix-trans old mid new (repeats-sees pit task n k old mid earlier repeats) moved.sees

pub ran-sees : (pit : Pit) (task : Job) (retries n : ℕ) (old new es : List Answered) (o : Outcome) → Ran pit task retries n old new es o → IsPrefix old new
ran-sees pit task retries n old new es o (inl s) = prefix-trans old s.mid new (repeats-sees pit task n s.before old s.mid s.repeated s.repeats) s.sees
ran-sees pit task retries n old new es o (inr g) = prefix-trans old g.mid new (repeats-sees pit task n retries old g.mid g.repeated g.repeats) g.moved.sees

pub all-sees : (pit : Pit) (max_entries retries n : ℕ) (old new : List Answered) (jobs : List Job) (es : List Answered) (os : List Outcome) (ended : RunEnd)
    → RanFrom pit max_entries retries old new n jobs es os ended → IsPrefix old new
all-sees pit max_entries retries n old new [] es [] ended (none, whole, sees) = sees
all-sees pit max_entries retries n old new [] es (o ∷ os) ended ran = absurd ran
all-sees pit max_entries retries n old new (task ∷ rest) es [] ended (stop, left) = repeats-sees pit task n left.before old new es left.repeats
all-sees pit max_entries retries n old new (task ∷ rest) es (o ∷ os) ended (mid, mine, later, cut, ran, more) =
    prefix-trans old mid new (ran-sees pit task retries n old mid mine o ran) (all-sees pit max_entries retries (n + 1) mid new rest later os ended more)

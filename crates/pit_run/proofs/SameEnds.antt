-- The same scripts in turn end alike.
use Rattle.std.proofs.lemmas.List.{append-nil, take_all}
use Rattle.std.proofs.lemmas.Option.{slice_get_within, slice_get-get_or}
use Rattle.std.proofs.lemmas.Bool.{true≢false}
use Rattle.std.proofs.Common.{◌≡◌, ℕ, zero, suc, ◌+◌, ◌<◌, ◌≤◌, Bool, false, List, [], ◌∷◌, ◌++◌, length, get_or, take, drop, refl, sym, ap, subst, ◌∙◌, arith, append_assoc, length-append}
use Rattle.std.specs.Prelude.{All, Option, Some, slice_get, ℤ}
use mathlib.Core.List.{IsPrefix}
use Rattle.pit_model.specs.Pit.{Pit}
use Rattle.pit_plan.specs.Schedule.{Commit, held_period, last_number}
use Rattle.pit_desk.specs.History.{Call, Answered, commit_of, commits_by, commits_of}
use Rattle.pit_desk.specs.OneThread.{IsOfOneThread}
use Rattle.pit_desk.specs.Least.{NonePasses}
use Rattle.pit_desk.specs.Noted.{AreHeld, AreRight}
use Rattle.pit_desk.specs.Replies.{IsReply, AreReadsRight, is_moved, is_misread}
use Rattle.pit_desk.specs.declared.entry.Act.{Act}
use Rattle.pit_desk.specs.declared.entry.Act.TheVariants as act
use Rattle.pit_desk.specs.declared.reply.EntryReply.{EntryReply}
use Rattle.pit_desk.specs.declared.reply.EntryReply.TheVariants as reply
use Rattle.pit_desk.specs.declared.reply.Refusal.TheVariants as refusal
use Rattle.pit_desk.proofs.CallerLemmas.{none-misread}
use Rattle.pit_desk.proofs.Legal.{commits_of-append, commits_of-push}
use Rattle.pit_desk.proofs.OneReply.{one-reply}
use Rattle.pit_script.specs.Jobs.{Job}
use Rattle.pit_share.specs.Logs.{entries_of}
use Rattle.pit_share.specs.Snapshots.{AreSnapshots}
use Rattle.pit_job.specs.Effect.{Agrees, effect, read_in, whole, IsEffectOf}
use Rattle.pit_job.specs.Outcomes.{IsItem, is_moved_reply}
use Rattle.pit_job.specs.Runs.{Ran, LeftOff, RanFrom, EndedBefore, reply_of, tries_of}
use Rattle.pit_job.specs.declared.outcome.Outcome.{Outcome}
use Rattle.pit_job.specs.declared.outcome.Outcome.TheVariants as outcome
use Rattle.pit_job.specs.declared.outcome.RunEnd.{RunEnd}
use Rattle.pit_job.specs.declared.outcome.RunEnd.TheVariants as end
use Rattle.pit_job.proofs.Agreeing.{effect-agrees, schedule-agrees}
use Rattle.pit_job.proofs.Seeing.{prefix-refl, prefix-trans, past-start}
use Rattle.pit_job.proofs.Growing.{all-sees}
use Rattle.pit_run.specs.Reports.{RunState}
use Rattle.pit_run.specs.Turns.{entries_by_planner, after_turns}
use Rattle.pit_run.specs.Laws.{TookTurns, IsServed}
use Rattle.pit_run.proofs.ByPlanner.{all-at}
use Rattle.pit_run.proofs.OwnTurn.{BeganSince, all-since, moved-few, take-behind, at-behind, front-behind, no-repeats, job-once, turn-stands}

-- ---- what a job comes to behind some commits

-- a call that noted nothing, and is as the desk stands
abbrev plain : List Commit → Act → Commit → Call
plain commits how own = record { planner = 0; job = 0; start = length commits; reads = []; writes = own.writes; revises = own.revises; act = how }

none-passes : (test : ℕ × Option ℕ → Bool) → NonePasses test []
none-passes test = λ x is. omega (arith, is.among.1)

plain-right : (commits : List Commit) (how : Act) (own : Commit) → AreReadsRight commits (plain commits how own)
plain-right commits how own =
    let now : length commits ≤ length commits = omega arith in
    record { seen = now; unmoved = none-passes (is_moved commits (length commits)); right = none-passes (is_misread commits) }

-- where no read is wrong, the reply to a call is due to one that noted nothing
plain-reply : (pit : Pit) (commits : List Commit) (call : Call) (answer : EntryReply) → call.start ≡ length commits → NonePasses (is_misread commits) call.reads → is_moved_reply answer ≡ false
    → IsReply pit commits call answer → IsReply pit commits (plain commits call.act (commit_of call)) answer
plain-reply pit commits call (reply.Committed number) start right other due = (due.0, plain-right commits call.act (commit_of call), due.2, due.3)
plain-reply pit commits call (reply.Refused (refusal.Ahead from count)) start right other due = let past = due.1.2 in absurd (omega (arith, start, past))
plain-reply pit commits call (reply.Refused (refusal.Moved block version)) start right other due = absurd (true≢false other)
plain-reply pit commits call (reply.Refused (refusal.Misread block)) start right other due = absurd (right block due.1.2.passes)
plain-reply pit commits call (reply.Refused (refusal.Precedence block before)) start right other due = (due.0, (plain-right commits call.act (commit_of call), due.1.1))
plain-reply pit commits call (reply.Refused (refusal.Over resource period load limit)) start right other due = (due.0, (plain-right commits call.act (commit_of call), due.1.1))
plain-reply pit commits call reply.Withdrawn start right other due = due

-- what was noted of all the commits isn't found to be wrong
never-misread : (before : List Answered) (call : Call) → call.start ≡ length (commits_of before) → AreHeld (commits_of before) call.reads → NonePasses (is_misread (commits_of before)) call.reads
never-misread before call start held =
    let commits = commits_of before in
    let all : take call.start commits ≡ commits = take_all call.start commits (omega (arith, start)) in
    let right : AreRight commits call.start call.reads = record { held_then = λ within. subst (λ (cs : List Commit). AreHeld cs call.reads) (sym all) held } in
    none-misread commits call.start call.reads (omega (arith, start)) right
    (λ x is.
    let past = past-start commits call.start is.pair.0 is.passes in
    let most = moved-few before call.start is.pair.0 (last_number commits is.pair.0) (record { prefix = before; begins = prefix-refl before; last = refl; past = past }) in
    omega (arith, past, most, start))

-- it has the job's effect on the schedule, and the reply that is due to that
record Comes (pit : Pit) (commits : List Commit) (task : Job) (e : Answered) : Type 0 where
  pub effect : IsEffectOf e.call.act (commit_of e.call) (effect pit task (whole (held_period commits)))
  pub due : IsReply pit commits (plain commits e.call.act (commit_of e.call)) e.reply

held-effect : (pit : Pit) (commits : List Commit) (task : Job) (n : ℕ) (e : Answered) → IsItem pit task n e → AreHeld commits e.call.reads
    → IsEffectOf e.call.act (commit_of e.call) (effect pit task (whole (held_period commits)))
held-effect pit commits task n e item held = by e.call.act item.call.effect
  where
    agrees : Agrees (read_in e.call.reads) (whole (held_period commits))
    agrees = schedule-agrees e.call.reads (held_period commits) held

    by : (a : Act) → IsEffectOf a (commit_of e.call) (effect pit task (read_in e.call.reads)) → IsEffectOf a (commit_of e.call) (effect pit task (whole (held_period commits)))
    by act.Commit has = effect-agrees pit task (read_in e.call.reads) (whole (held_period commits)) agrees (λ unread. absurd (cc)) ∙ has
    by act.Withdraw has = effect-agrees pit task (read_in e.call.reads) (whole (held_period commits)) agrees (λ unread. absurd (cc)) ∙ has

record AreAlike (e f : Answered) : Type 0 where
  pub reply : e.reply ≡ f.reply
  pub commits : commits_by e ≡ commits_by f

abbrev made : EntryReply → Commit → List Commit
made answer own = elim answer [ reply.Committed number ↦ own ∷ [] | reply.Refused why ↦ [] | reply.Withdrawn ↦ [] ]

withdrawn-is : (pit : Pit) (commits : List Commit) (call : Call) (answer : EntryReply) → call.act ≡ act.Withdraw → IsReply pit commits call answer → answer ≡ reply.Withdrawn
withdrawn-is pit commits call (reply.Committed number) is due = let how = due.0 in absurd (cc (is, how))
withdrawn-is pit commits call (reply.Refused why) is due = let how = due.0 in absurd (cc (is, how))
withdrawn-is pit commits call reply.Withdrawn is due = refl

-- two such entries have the same reply and commit
alike : (pit : Pit) (commits : List Commit) (task : Job) (e f : Answered) → Comes pit commits task e → Comes pit commits task f → AreAlike e f
alike pit commits task e f a b = by e.call.act f.call.act refl refl a.effect b.effect
  where
    by : (x y : Act) → e.call.act ≡ x → f.call.act ≡ y → IsEffectOf x (commit_of e.call) (effect pit task (whole (held_period commits)))
        → IsEffectOf y (commit_of f.call) (effect pit task (whole (held_period commits))) → AreAlike e f
    by act.Commit act.Commit is also h g =
        let same : commit_of e.call ≡ commit_of f.call = cc (h, g) in
        let first = subst (λ (how : Act). IsReply pit commits (plain commits how (commit_of e.call)) e.reply) is a.due in
        let one = subst (λ (own : Commit). IsReply pit commits (plain commits act.Commit own) e.reply) same first in
        let two = subst (λ (how : Act). IsReply pit commits (plain commits how (commit_of f.call)) f.reply) also b.due in
        let answer = one-reply pit commits (plain commits act.Commit (commit_of f.call)) e.reply f.reply one two in
        record { reply = answer; commits = ap (λ (r : EntryReply). made r (commit_of e.call)) answer ∙ ap (λ (own : Commit). made f.reply own) same }
    by act.Commit act.Withdraw is also h g = absurd (cc (h, g))
    by act.Withdraw act.Commit is also h g = absurd (cc (h, g))
    by act.Withdraw act.Withdraw is also h g =
        let one = withdrawn-is pit commits (plain commits e.call.act (commit_of e.call)) e.reply is a.due in
        let two = withdrawn-is pit commits (plain commits f.call.act (commit_of f.call)) f.reply also b.due in
        record {
          reply = one ∙ sym two;
          commits = ap (λ (r : EntryReply). made r (commit_of e.call)) one ∙ sym (ap (λ (r : EntryReply). made r (commit_of f.call)) two);
        }

outcome-same : (o p : Outcome) → reply_of o ≡ reply_of p → tries_of o ≡ tries_of p → o ≡ p
outcome-same (outcome.Committed n t) (outcome.Committed m u) same tries = cc (same, tries)
outcome-same (outcome.Committed n t) (outcome.Refused why u) same tries = absurd (cc same)
outcome-same (outcome.Committed n t) (outcome.Withdrawn u) same tries = absurd (cc same)
outcome-same (outcome.Refused why t) (outcome.Committed m u) same tries = absurd (cc same)
outcome-same (outcome.Refused why t) (outcome.Refused how u) same tries = cc (same, tries)
outcome-same (outcome.Refused why t) (outcome.Withdrawn u) same tries = absurd (cc same)
outcome-same (outcome.Withdrawn t) (outcome.Committed m u) same tries = absurd (cc same)
outcome-same (outcome.Withdrawn t) (outcome.Refused how u) same tries = absurd (cc same)
outcome-same (outcome.Withdrawn t) (outcome.Withdrawn u) same tries = ap outcome.Withdrawn tries

-- ---- one turn

-- what stands once a turn has ended begins such a history
record Turn (pit : Pit) (opened max_entries : ℕ) (stood : List Answered) : Type 0 where
  pub value : ℤ
  pub history : List Answered
  pub later : List Answered
  pub one : IsOfOneThread pit history value
  pub cut : history ≡ stood ++ later
  pub few : length history ≤ max_entries
  pub noted : AreSnapshots opened history

-- a job is done by the next entry
record Goes (pit : Pit) (stood before : List Answered) (task : Job) (mid rest : List Answered) (o : Outcome) : Type 0 where
  pub e : Answered
  pub next : stood ≡ (before ++ e ∷ []) ++ rest
  pub comes : Comes pit (commits_of before) task e
  pub answer : e.reply ≡ reply_of o
  pub tries : tries_of o ≡ 1
  pub seen : length (commits_of (before ++ e ∷ [])) ≤ length (commits_of mid)

module _ (pit : Pit) (opened max_entries : ℕ) (stood : List Answered) (turn : Turn pit opened max_entries stood) where
  held-behind : (before : List Answered) (e : Answered) (es : List Answered) → stood ≡ before ++ (e ∷ es) → opened ≤ length before → e.call.start ≡ length (commits_of before)
      → AreHeld (commits_of before) e.call.reads
  held-behind before e es at past start =
      let k = length before + 0 in
      let front = front-behind pit turn.value turn.history stood turn.later turn.one turn.cut before e es at in
      let now : length (commits_of (take k turn.history)) ≡ length (commits_of before) = ap (λ (xs : List Answered). length (commits_of xs)) front in
      let held = turn.noted.each k e (omega (arith, past)) (at-behind pit turn.value turn.history stood turn.later turn.one turn.cut before e es at) (omega (arith, start, now)) in
      let more = (e ∷ es) ++ turn.later in
      let all : commits_of turn.history ≡ commits_of before ++ commits_of more =
      ap commits_of (turn.cut ∙ (ap (λ (xs : List Answered). xs ++ turn.later) at ∙ append_assoc before (e ∷ es) turn.later)) ∙ commits_of-append before more in
      let count : e.call.start ≡ length (commits_of before) + 0 = omega (arith, start) in
      let same : take e.call.start (commits_of turn.history) ≡ commits_of before =
      ap (λ (m : ℕ). take m (commits_of turn.history)) count
      ∙ (ap (take (length (commits_of before) + 0)) all ∙ (take-behind (commits_of before) (commits_of more) 0 ∙ append-nil (commits_of before))) in
      subst (λ (cs : List Commit). AreHeld cs e.call.reads) same held

  goes : (task : Job) (retries n : ℕ) (old mid es before rest : List Answered) (o : Outcome) → stood ≡ before ++ (es ++ rest) → length (commits_of before) ≤ length (commits_of old)
      → opened ≤ length before → Ran pit task retries n old mid es o → BeganSince mid rest → IsPrefix mid stood → Goes pit stood before task mid rest o
  goes task retries n old mid es before rest o at few past ran since on =
      let done = job-once pit turn.value turn.history stood turn.later turn.one turn.cut task retries n old mid es before rest o at few ran since on in
      let here : stood ≡ before ++ (done.e ∷ rest) = at ∙ ap (λ (xs : List Answered). before ++ (xs ++ rest)) done.alone in
      let held = held-behind before done.e rest here past done.start in
      record {
        e = done.e;
        next = here ∙ sym (append_assoc before (done.e ∷ []) rest);
        comes = record {
          effect = held-effect pit (commits_of before) task n done.e done.item held;
          due = plain-reply pit (commits_of before) done.e.call done.e.reply done.start (never-misread before done.e.call done.start held) done.other done.due;
        };
        answer = done.answer;
        tries = done.tries;
        seen = subst (λ (xs : List Answered). length (commits_of (before ++ xs)) ≤ length (commits_of mid)) done.alone done.seen;
      }

  -- no more stands than there may be
  within : length stood ≤ max_entries
  within =
      let few = turn.few in
      let cut = turn.cut in
      omega (arith, few, ap length cut, length-append stood turn.later)

  -- a run that stopped, with all that it asked for, stopped since the history is full
  stopped : (task : Job) (retries n : ℕ) (old new es before : List Answered) (ended : RunEnd) → stood ≡ before ++ es → length (commits_of before) ≤ length (commits_of old) → IsPrefix new stood
      → EndedBefore pit max_entries task.steps new n ended × LeftOff pit task retries n old new es → IsServed ended → (ended ≡ end.Full n) × (stood ≡ before) × (max_entries ≤ length stood)
  stopped task retries n old new es before ended at few on (stop, left) served =
      let all : stood ≡ before ++ (es ++ []) = at ∙ ap (λ (xs : List Answered). before ++ xs) (sym (append-nil es)) in
      let since : BeganSince new [] = λ k e below. absurd (omega (arith, below)) in
      let none = no-repeats pit turn.value turn.history stood turn.later turn.one turn.cut task n left.before old new es before [] all few left.repeats since on in
      let full = by ended stop served in
      (full.0, at ∙ (ap (λ (xs : List Answered). before ++ xs) none.1 ∙ append-nil before), omega (arith, full.1, ap length on.1, length-append new on.0))
    where
      by : (finish : RunEnd) → EndedBefore pit max_entries task.steps new n finish → IsServed finish → (finish ≡ end.Full n) × (max_entries ≤ length new)
      by end.Whole stops serves = absurd stops
      by (end.Full job) (is, full) serves = (ap end.Full is, full)
      by (end.NoMemory job) stops serves = absurd serves
      by (end.NoEntry job) stops serves = absurd serves
      by end.NoThread stops serves = absurd serves

-- ---- two turns

-- they have the same outcomes and end, and as many entries and the same commits stand then
record EndAlike (stood stands : List Answered) (os ps : List Outcome) (ended finish : RunEnd) : Type 0 where
  pub jobs : os ≡ ps
  pub ends : ended ≡ finish
  pub count : length stood ≡ length stands
  pub commits : commits_of stood ≡ commits_of stands

module _ (pit : Pit) (opened max_entries retries : ℕ) (stood stands : List Answered) (turn : Turn pit opened max_entries stood) (again : Turn pit opened max_entries stands) where
  -- one went on, and the other stopped
  never-both : (before other : List Answered) (task : Job) (mid rest : List Answered) (o : Outcome) → length before ≡ length other → length stood ≡ length before → max_entries ≤ length stood
      → Goes pit stands other task mid rest o → ⊥
  never-both before other task mid rest o same now full goes =
      let next = goes.next in
      let one : length (goes.e ∷ []) ≡ 1 = refl in
      omega (arith, same, now, full, within pit opened max_entries stands again, ap length next, length-append (other ++ goes.e ∷ []) rest, length-append other (goes.e ∷ []), one)

  same-jobs : (n : ℕ) (jobs : List Job) (old new es before : List Answered) (os : List Outcome) (ended : RunEnd) (gone now fs other : List Answered) (ps : List Outcome) (finish : RunEnd)
      → stood ≡ before ++ es → stands ≡ other ++ fs → IsPrefix new stood → IsPrefix now stands → length (commits_of before) ≤ length (commits_of old)
      → length (commits_of other) ≤ length (commits_of gone) → opened ≤ length before → length before ≡ length other → commits_of before ≡ commits_of other
      → RanFrom pit max_entries retries old new n jobs es os ended → RanFrom pit max_entries retries gone now n jobs fs ps finish → IsServed ended → IsServed finish
      → EndAlike stood stands os ps ended finish
  same-jobs n [] old new es before [] ended gone now fs other [] finish at there on upon few fewer past count same (none, whole, sees) (also, too, saw) served serves =
      let first : stood ≡ before = at ∙ (ap (λ (xs : List Answered). before ++ xs) none ∙ append-nil before) in
      let second : stands ≡ other = there ∙ (ap (λ (xs : List Answered). other ++ xs) also ∙ append-nil other) in
      record {
        jobs = refl;
        ends = whole ∙ sym too;
        count = ap length first ∙ (count ∙ sym (ap length second));
        commits = ap commits_of first ∙ (same ∙ sym (ap commits_of second));
      }
  same-jobs n [] old new es before (o ∷ os) ended gone now fs other ps finish at there on upon few fewer past count same ran again_ran served serves = absurd ran
  same-jobs n [] old new es before [] ended gone now fs other (p ∷ ps) finish at there on upon few fewer past count same ran again_ran served serves = absurd again_ran
  same-jobs n (task ∷ rest) old new es before [] ended gone now fs other [] finish at there on upon few fewer past count same ran again_ran served serves =
      let first = stopped pit opened max_entries stood turn task retries n old new es before ended at few on ran served in
      let second = stopped pit opened max_entries stands again task retries n gone now fs other finish there fewer upon again_ran serves in
      record {
        jobs = refl;
        ends = first.0 ∙ sym second.0;
        count = ap length first.1 ∙ (count ∙ sym (ap length second.1));
        commits = ap commits_of first.1 ∙ (same ∙ sym (ap commits_of second.1));
      }
  same-jobs n (task ∷ rest) old new es before [] ended gone now fs other (p ∷ ps) finish at there on upon few fewer past count same ran (mid, mine, more, parts, went, ahead) served serves =
      let first = stopped pit opened max_entries stood turn task retries n old new es before ended at few on ran served in
      let seen = prefix-trans mid now stands (all-sees pit max_entries retries (n + 1) mid now rest more ps finish ahead) upon in
      let second =
      goes pit opened max_entries stands again task retries n gone mid mine other more p (there ∙ ap (λ (xs : List Answered). other ++ xs) parts) fewer (omega (arith, past, count)) went
      (all-since pit max_entries retries (n + 1) mid now rest more ps finish ahead) seen in
      absurd (never-both before other task mid more p count (ap length first.1) first.2 second)
  same-jobs n (task ∷ rest) old new es before (o ∷ os) ended gone now fs other [] finish at there on upon few fewer past count same (mid, mine, more, parts, went, ahead) again_ran served serves =
      let second = stopped pit opened max_entries stands again task retries n gone now fs other finish there fewer upon again_ran serves in
      let seen = prefix-trans mid new stood (all-sees pit max_entries retries (n + 1) mid new rest more os ended ahead) on in
      let first =
      goes pit opened max_entries stood turn task retries n old mid mine before more o (at ∙ ap (λ (xs : List Answered). before ++ xs) parts) few past went
      (all-since pit max_entries retries (n + 1) mid new rest more os ended ahead) seen in
      let next = first.next in
      let full = second.2 in
      let one : length (first.e ∷ []) ≡ 1 = refl in
      absurd
      (omega (arith, count, ap length second.1, full, within pit opened max_entries stood turn, ap length next, length-append (before ++ first.e ∷ []) more, length-append before (first.e ∷ []), one))
  same-jobs n (task ∷ rest) old new es before (o ∷ os) ended gone now fs other (p ∷ ps) finish at there on upon few fewer past count same (mid, mine, more, parts, went, ahead) (middle, its, further, pieces, goes_on, onward) served serves =
      let seen = prefix-trans mid new stood (all-sees pit max_entries retries (n + 1) mid new rest more os ended ahead) on in
      let saw = prefix-trans middle now stands (all-sees pit max_entries retries (n + 1) middle now rest further ps finish onward) upon in
      let first =
      goes pit opened max_entries stood turn task retries n old mid mine before more o (at ∙ ap (λ (xs : List Answered). before ++ xs) parts) few past went
      (all-since pit max_entries retries (n + 1) mid new rest more os ended ahead) seen in
      let second =
      goes pit opened max_entries stands again task retries n gone middle its other further p (there ∙ ap (λ (xs : List Answered). other ++ xs) pieces) fewer (omega (arith, past, count)) goes_on
      (all-since pit max_entries retries (n + 1) middle now rest further ps finish onward) saw in
      let both = alike pit (commits_of before) task first.e second.e first.comes (subst (λ (cs : List Commit). Comes pit cs task second.e) (sym same) second.comes) in
      let job = outcome-same o p (sym first.answer ∙ (both.reply ∙ second.answer)) (first.tries ∙ sym second.tries) in
      let one : length (first.e ∷ []) ≡ 1 = refl in
      let two : length (second.e ∷ []) ≡ 1 = refl in
      let counted : length (before ++ first.e ∷ []) ≡ length (other ++ second.e ∷ []) = omega (arith, count, length-append before (first.e ∷ []), length-append other (second.e ∷ []), one, two) in
      let grown : commits_of (before ++ first.e ∷ []) ≡ commits_of (other ++ second.e ∷ []) =
      commits_of-push before first.e
      ∙ (ap (λ (cs : List Commit). cs ++ commits_by first.e) same ∙ (ap (λ (cs : List Commit). commits_of other ++ cs) both.commits ∙ sym (commits_of-push other second.e))) in
      let later =
      same-jobs (n + 1) rest mid new more (before ++ first.e ∷ []) os ended middle now further (other ++ second.e ∷ []) ps finish first.next second.next on upon first.seen second.seen
      (omega (arith, past, length-append before (first.e ∷ []))) counted grown ahead onward served serves in
      record {
        jobs = ap (λ (x : Outcome). x ∷ os) job ∙ ap (λ (xs : List Outcome). p ∷ xs) later.jobs;
        ends = later.ends;
        count = later.count;
        commits = later.commits;
      }

-- ---- all turns

run-same : (r s : RunState) → r.planner ≡ s.planner → r.jobs ≡ s.jobs → r.ended ≡ s.ended → r ≡ s
run-same r s number jobs ends =
    ap (λ (n : ℕ). record r { planner = n }) number
    ∙ (ap (λ (os : List Outcome). record { planner = s.planner; jobs = os; ended = r.ended }) jobs
    ∙ ap (λ (e : RunEnd). record { planner = s.planner; jobs = s.jobs; ended = e }) ends)

same-list : {X : Type 0} (xs ys : List X) → length xs ≡ length ys → ((k : ℕ) (x y : X) → slice_get xs k ≡ Some x → slice_get ys k ≡ Some y → x ≡ y) → xs ≡ ys
same-list [] [] many each = refl
same-list [] (y ∷ ys) many each = absurd (omega (arith, many))
same-list (x ∷ xs) [] many each = absurd (omega (arith, many))
same-list (x ∷ xs) (y ∷ ys) many each =
    ap (λ z. z ∷ xs) (each 0 x y refl refl) ∙ ap (λ zs. y ∷ zs) (same-list xs ys (omega (arith, many)) (λ k a b at there. each (suc k) a b at there))

after-next : (p : ℕ) (opening history : List Answered) → after_turns p opening history ++ entries_of (1 + p) (drop (length opening) history) ≡ after_turns (suc p) opening history
after-next p opening history =
    let past = drop (length opening) history in
    let one : 1 + p ≡ suc p = omega arith in
    append_assoc opening (entries_by_planner p past) (entries_of (1 + p) past) ∙ ap (λ (q : ℕ). opening ++ (entries_by_planner p past ++ entries_of q past)) one

module _ (pit : Pit) (opening : List Answered) (max_entries retries : ℕ) (scripts : List (List Job)) where
  turn-of : (history : List Answered) (runs : List RunState) (value : ℤ) (took : TookTurns pit opening max_entries retries scripts history runs value) (p : ℕ) → p < length scripts
      → Turn pit (length opening) max_entries (after_turns p opening history ++ entries_of (1 + p) (drop (length opening) history))
  turn-of history runs value took p less =
      let stands = turn-stands (length scripts) p opening history took.in_turn less in
      record { value = value; history = history; later = stands.0; one = took.one_thread; cut = stands.1; few = took.few; noted = took.snapshots }

  module _ (history other : List Answered) (runs others : List RunState) (value worth : ℤ) (a : TookTurns pit opening max_entries retries scripts history runs value)
      (b : TookTurns pit opening max_entries retries scripts other others worth) (served : All (λ run. IsServed run.ended) runs) (serves : All (λ run. IsServed run.ended) others) where
    record SameTurn (p : ℕ) : Type 0 where
      pub run : RunState
      pub at : slice_get runs p ≡ Some run
      pub there : slice_get others p ≡ Some run
      pub count : length (after_turns (suc p) opening history) ≡ length (after_turns (suc p) opening other)
      pub commits : commits_of (after_turns (suc p) opening history) ≡ commits_of (after_turns (suc p) opening other)

    each-turn : (p : ℕ) → p < length scripts → length (after_turns p opening history) ≡ length (after_turns p opening other)
        → commits_of (after_turns p opening history) ≡ commits_of (after_turns p opening other) → SameTurn p
    each-turn p less count same =
        let script = get_or scripts p [] in
        let found = slice_get-get_or scripts p [] less in
        let first = a.had_turns.each p script found in
        let second = b.had_turns.each p script found in
        let before = after_turns p opening history in
        let stood = before ++ entries_of (1 + p) (drop (length opening) history) in
        let previous = after_turns p opening other in
        let stands = previous ++ entries_of (1 + p) (drop (length opening) other) in
        let past : length opening ≤ length before = omega (arith, length-append opening (entries_by_planner p (drop (length opening) history))) in
        let ends =
        same-jobs pit (length opening) max_entries retries stood stands (turn-of history runs value a p less) (turn-of other others worth b p less) 1 script before stood
        (entries_of (1 + p) (drop (length opening) history)) before first.0.jobs first.0.ended previous stands (entries_of (1 + p) (drop (length opening) other)) previous second.0.jobs second.0.ended refl
        refl (prefix-refl stood) (prefix-refl stands) (omega arith) (omega arith) past count same first.2.ran second.2.ran
        (all-at (λ (run : RunState). IsServed run.ended) runs p first.0 served first.1) (all-at (λ (run : RunState). IsServed run.ended) others p second.0 serves second.1) in
        let run = run-same first.0 second.0 (first.2.of_run ∙ sym second.2.of_run) ends.jobs ends.ends in
        record {
          run = first.0;
          at = first.1;
          there = second.1 ∙ ap Some (sym run);
          count = ap length (sym (after-next p opening history)) ∙ (ends.count ∙ ap length (after-next p opening other));
          commits = ap commits_of (sym (after-next p opening history)) ∙ (ends.commits ∙ ap commits_of (after-next p opening other));
        }

    turns-same : (p : ℕ) → p ≤ length scripts
        → (length (after_turns p opening history) ≡ length (after_turns p opening other)) × (commits_of (after_turns p opening history) ≡ commits_of (after_turns p opening other))
    turns-same zero few = (refl, refl)
    turns-same (suc p) few =
        let before = turns-same p (omega (arith, few)) in
        let turn = each-turn p (omega (arith, few)) before.0 before.1 in
        (turn.count, turn.commits)

    pub commits-same : commits_of history ≡ commits_of other
    commits-same = ap commits_of a.in_turn.turns ∙ ((turns-same (length scripts) (omega arith)).1 ∙ sym (ap commits_of b.in_turn.turns))

    pub runs-same : runs ≡ others
    runs-same =
        same-list runs others (a.had_turns.many ∙ sym b.had_turns.many)
        (λ k x y at there.
        let less : k < length scripts = omega (arith, slice_get_within runs k x at, a.had_turns.many) in
        let before = turns-same k (omega (arith, less)) in
        let turn = each-turn k less before.0 before.1 in
        let here = turn.at in
        let again = turn.there in
        cc (at, there, here, again))

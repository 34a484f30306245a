-- A closed history after a run.
use Rattle.std.proofs.lemmas.List.Elements.{All-nil, All-cons, All-head, All-tail}
use Rattle.std.proofs.lemmas.Option.{slice_get_within, slice_get-get_or, get_or_from_slice_get}
use Rattle.std.proofs.lemmas.Bool.Decides.{nat_tests}
use Rattle.std.proofs.Common.{◌≡◌, ℕ, zero, suc, ◌+◌, ◌<◌, ◌==◌, Bool, true, false, List, [], ◌∷◌, length, get_or, drop, add-zero, zero-add, refl, sym, ap, subst, ◌∙◌, arith, inl, inr}
use Rattle.std.specs.Prelude.{All, Some, slice_get, if◌then◌else◌, ◌⊎◌}
use Rattle.pit_model.specs.Pit.{Pit}
use Rattle.pit_plan.specs.Schedule.{Commit, earned_in, held_period, value_of}
use Rattle.pit_plan.specs.Standing.{IsPlanOf}
use Rattle.pit_plan.proofs.CallerLemmas.{total-same}
use Rattle.pit_desk.specs.History.{Answered, commits_of}
use Rattle.pit_desk.specs.State.{State, IsDeskKept}
use Rattle.pit_desk.proofs.OneThread.{one-thread}
use Rattle.pit_desk.specs.OneThread.{IsOfOneThread}
use Rattle.pit_script.specs.Jobs.{Job}
use Rattle.pit_share.specs.Logs.{entries_of, IsPlanner}
use Rattle.pit_job.proofs.CallerLemmas.{committed-effect}
use Rattle.pit_desk.specs.declared.reply.Refusal.TheVariants as refusal
use Rattle.pit_job.specs.declared.outcome.Outcome.{Outcome}
use Rattle.pit_job.specs.declared.outcome.Outcome.TheVariants as outcome
use Rattle.pit_job.specs.declared.outcome.RunEnd.TheVariants as end
use Rattle.pit_job.specs.Runs.{RanFrom}
use Rattle.pit_job.specs.JobByJob.{HasOwnEffect, IsWriter}
use Rattle.pit_job.proofs.CallerLemmas.{own-effects, outcome-writer, ends-full}
use Rattle.pit_run.specs.Reports.{RunState, RanScript, NotStarted, AllDid, IsReport}
use Rattle.pit_run.specs.Laws.{IsOneByOne}

-- what is so of a planner's entries
all-mine : (P : Answered → Type 0) (k : ℕ) (es : List Answered) → All P (entries_of k es) → All (λ e. e.call.planner ≡ k → P e) es
all-mine P k [] all = All-nil (λ e. e.call.planner ≡ k → P e)
all-mine P k (e ∷ es) all = by (e.call.planner == k) refl (all-mine P k es) all
  where
    by : (b : Bool) → (e.call.planner == k) ≡ b → (All P (entries_of k es) → All (λ e. e.call.planner ≡ k → P e) es) → All P (if b then e ∷ entries_of k es else entries_of k es) → All (λ e. e.call.planner ≡ k → P e) (e ∷ es)
    by true is later all = All-cons (λ e. e.call.planner ≡ k → P e) e es (λ same. All-head P e (entries_of k es) all) (later (All-tail P e (entries_of k es) all))
    by false is later all = All-cons (λ e. e.call.planner ≡ k → P e) e es (λ same. absurd (grind (arith, nat_tests))) (later all)

past-at : (xs : List Answered) (m i : ℕ) → slice_get (drop m xs) i ≡ slice_get xs (m + i)
past-at xs zero i = ap (slice_get xs) (sym (zero-add i))
past-at [] (suc m) i = refl
past-at (x ∷ xs) (suc m) i = past-at xs m i ∙ ap (slice_get (x ∷ xs)) (suc-add m i)
  where
    suc-add : (a b : ℕ) → suc (a + b) ≡ suc a + b
    suc-add a b = omega arith

did-at : (pit : Pit) (max_entries retries : ℕ) (opening history : List Answered) (k : ℕ) (ss : List (List Job)) (rs : List RunState) → AllDid pit max_entries retries opening history k ss rs
    → (p : ℕ) (s : List Job) → slice_get ss p ≡ Some s
    → (r : RunState) × (slice_get rs p ≡ Some r) × RanScript pit max_entries retries opening history s (k + p) (entries_of (k + p) (drop (length opening) history)) r
did-at pit max_entries retries opening history k [] rs all p s at = absurd (cc at)
did-at pit max_entries retries opening history k (x ∷ ss) [] all p s at = absurd all
did-at pit max_entries retries opening history k (x ∷ ss) (r ∷ rs) (first, rest) zero s at =
    let a : x ≡ s = cc at in
    (r, refl, rw (add-zero, ← a) first)
did-at pit max_entries retries opening history k (x ∷ ss) (r ∷ rs) (first, rest) (suc p) s at =
    let number : (k + 1) + p ≡ k + suc p = omega arith in
    let d = did-at pit max_entries retries opening history (k + 1) ss rs rest p s at in
    (d.0, d.1, subst (λ (n : ℕ). RanScript pit max_entries retries opening history s n (entries_of n (drop (length opening) history)) d.0) number d.2)

pub each-planner : (pit : Pit) (opening : List Answered) (max_entries retries : ℕ) (scripts : List (List Job)) (desk : State) (runs : List RunState) → IsReport pit opening max_entries retries scripts desk runs
    → (p : ℕ) (script : List Job) → slice_get scripts p ≡ Some script
    → (run : RunState) × (slice_get runs p ≡ Some run)
    × RanScript pit max_entries retries opening desk.history script (1 + p) (entries_of (1 + p) (drop (length opening) desk.history)) run
each-planner pit opening max_entries retries scripts desk runs report p script at = did-at pit max_entries retries opening desk.history 1 scripts runs report.did p script at

script-effects : (pit : Pit) (max_entries retries k : ℕ) (old new : List Answered) (s : List Job) (es : List Answered) (r : RunState) → RanScript pit max_entries retries old new s k es r → All (λ e. HasOwnEffect pit 1 s e) es
script-effects pit max_entries retries k old new s es r ran = by ran.ran
  where
    by : (RanFrom pit max_entries retries old new 1 s es r.jobs r.ended ⊎ NotStarted es r) → All (λ e. HasOwnEffect pit 1 s e) es
    by (inl h) = own-effects pit max_entries retries 1 old new s es r.jobs r.ended h
    by (inr n) = subst (All (λ e. HasOwnEffect pit 1 s e)) (sym n.none) (All-nil (λ e. HasOwnEffect pit 1 s e))

-- a history that a desk keeps is one of one thread
kept-one-thread : (pit : Pit) (desk : State) → IsDeskKept desk → desk.plan.pit ≡ pit → IsOfOneThread pit desk.history (value_of pit (held_period (commits_of desk.history)))
kept-one-thread pit desk kept same =
    let commits : List Commit = commits_of desk.history in
    let stands : IsPlanOf desk.plan commits = kept.follows.stands in
    subst (λ (p : Pit). IsOfOneThread p desk.history (value_of p (held_period commits))) same
    (one-thread desk.plan desk.history (value_of desk.plan.pit (held_period commits)) kept.follows
    (λ others too. total-same (λ b. earned_in desk.plan.pit b (held_period commits b)) (λ b. earned_in desk.plan.pit b (held_period others b)) desk.plan.pit.blocks
    (λ b below. ap (earned_in desk.plan.pit b) (sym (stands.period b below) ∙ too.period b below))))

pub of-one-thread : (pit : Pit) (opening : List Answered) (max_entries retries : ℕ) (scripts : List (List Job)) (desk : State) (runs : List RunState) → IsReport pit opening max_entries retries scripts desk runs
    → IsOfOneThread pit desk.history (value_of pit (held_period (commits_of desk.history)))
of-one-thread pit opening max_entries retries scripts desk runs report = kept-one-thread pit desk report.closed.kept report.closed.goes_on.same_pit

-- one of so many planners has a script
its-script : (scripts : List (List Job)) (planner : ℕ) → IsPlanner (length scripts) planner → (p : ℕ) × (s : List Job) × (planner ≡ 1 + p) × (slice_get scripts p ≡ Some s)
its-script scripts zero one = absurd (omega (arith, one.0))
its-script scripts (suc p) one = (p, get_or scripts p [], omega arith, slice_get-get_or scripts p [] (omega (arith, one.1)))

-- an entry past the opening that was committed made its job's changes to the schedule before it
pub one-by-one : (pit : Pit) (opening : List Answered) (max_entries retries : ℕ) (scripts : List (List Job)) (desk : State) (runs : List RunState) → IsReport pit opening max_entries retries scripts desk runs
    → IsOneByOne pit (length opening) scripts desk.history
one-by-one pit opening max_entries retries scripts desk runs report = record {
  each = λ i number e at is.
      let past = drop (length opening) desk.history in
      let got : slice_get past i ≡ Some e = past-at desk.history (length opening) i ∙ at in
      let below = slice_get_within past i e got in
      let read = get_or_from_slice_get past i e e got in
      let one = subst (λ (x : Answered). IsPlanner (length scripts) x.call.planner) read (report.closed.goes_on.ours i e below) in
      let its = its-script scripts e.call.planner one in
      let p = its.0 in
      let script = its.1 in
      let d = did-at pit max_entries retries opening desk.history 1 scripts runs report.did p script its.3 in
      let own = all-mine (λ e. HasOwnEffect pit 1 script e) (1 + p) past (script-effects pit max_entries retries (1 + p) opening desk.history script (entries_of (1 + p) past) d.0 d.2) in
      let has = subst (λ (x : Answered). x.call.planner ≡ 1 + p → HasOwnEffect pit 1 script x) read (own i e below) its.2 in
      record {
        place = p;
        script = script;
        planner = its.2;
        at = its.3;
        wrote = record {
          place = has.place;
          task = has.task;
          number = has.number;
          at = has.at;
          wrote = committed-effect pit desk.history (value_of pit (held_period (commits_of desk.history))) (of-one-thread pit opening max_entries retries scripts desk runs report)
              (length opening + i) number e has.task at is has.call.effect;
        };
      };
}

-- ---- what a run tells of the history

did-run : (pit : Pit) (max_entries retries : ℕ) (opening history : List Answered) (k : ℕ) (ss : List (List Job)) (rs : List RunState) → AllDid pit max_entries retries opening history k ss rs
    → (p : ℕ) (r : RunState) → slice_get rs p ≡ Some r → (s : List Job) × (es : List Answered) × (RanFrom pit max_entries retries opening history 1 s es r.jobs r.ended ⊎ NotStarted es r)
did-run pit max_entries retries opening history k [] [] all p r at = absurd (cc at)
did-run pit max_entries retries opening history k [] (x ∷ rs) all p r at = absurd all
did-run pit max_entries retries opening history k (s ∷ ss) [] all p r at = absurd all
did-run pit max_entries retries opening history k (s ∷ ss) (x ∷ rs) (first, rest) zero r at =
    let a : x ≡ r = cc at in
    let es = entries_of k (drop (length opening) history) in
    (s, es, subst (λ (y : RunState). RanFrom pit max_entries retries opening history 1 s es y.jobs y.ended ⊎ NotStarted es y) a first.ran)
did-run pit max_entries retries opening history k (s ∷ ss) (x ∷ rs) (first, rest) (suc p) r at = did-run pit max_entries retries opening history (k + 1) ss rs rest p r at

-- the pair of an outcome Moved is a commit's past the opening
pub moved-writes : (pit : Pit) (opening : List Answered) (max_entries retries : ℕ) (scripts : List (List Job)) (desk : State) (runs : List RunState) → IsReport pit opening max_entries retries scripts desk runs
    → (p j block version tries : ℕ) (run : RunState) → slice_get runs p ≡ Some run → slice_get run.jobs j ≡ Some (outcome.Refused (refusal.Moved block version) tries)
    → (length (commits_of opening) < version) × IsWriter desk.history version block
moved-writes pit opening max_entries retries scripts desk runs report p j block version tries run at is =
    let found = did-run pit max_entries retries opening desk.history 1 scripts runs report.did p run at in
    elim found.2 [
      | inl ran ↦ outcome-writer pit max_entries retries 1 opening desk.history found.0 found.1 run.jobs run.ended ran j block version tries is
      | inr without ↦ let none = without.jobs in absurd (cc (is, ap (λ (os : List Outcome). slice_get os j) none))
    ]

-- an end since the history is full is told of a full one
pub full-is : (pit : Pit) (opening : List Answered) (max_entries retries : ℕ) (scripts : List (List Job)) (desk : State) (runs : List RunState) → IsReport pit opening max_entries retries scripts desk runs
    → (p job : ℕ) (run : RunState) → slice_get runs p ≡ Some run → run.ended ≡ end.Full job → length desk.history ≡ max_entries
full-is pit opening max_entries retries scripts desk runs report p job run at is =
    let found = did-run pit max_entries retries opening desk.history 1 scripts runs report.did p run at in
    elim found.2 [
      | inl ran ↦
          let full = ends-full pit max_entries retries 1 opening desk.history found.0 found.1 run.jobs run.ended ran job is in
          omega (arith, full, report.closed.kept.few, report.closed.goes_on.limit)
      | inr without ↦ let never = without.ended in absurd (cc (is, never))
    ]

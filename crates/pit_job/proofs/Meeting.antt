-- What steps meet that stop.
use Rattle.std.proofs.lemmas.List.Elements.{Contains-get_or}
use Rattle.std.proofs.Common.{◌≡◌, ℕ, nat_eq, ◌<◌, List, length, get_or, Bool, Option, Some, None, refl, sym, ap, subst, ◌∙◌}
use Rattle.std.proofs.lemmas.Bool.{false≢true}
use Rattle.std.specs.Prelude.{Result, Ok, Err, IfErr, OnErr, IsErr, IsErrAnd}
use Rattle.pit_model.specs.Pit.{Pit}
use Rattle.pit_plan.specs.Schedule.{Commit, last_number}
use Rattle.pit_keyed.specs.Keyed.{at_key}
use Rattle.pit_tx.specs.Sets.{Sets, known_of}
use Rattle.pit_desk.specs.History.{Answered, commits_of}
use Rattle.pit_share.specs.Planners.{TransactionState, SeesOn}
use Rattle.pit_share.specs.Reads.{IsLookedUp}
use Rattle.pit_share.specs.declared.error.ReadStop.{ReadStop}
use Rattle.pit_share.specs.declared.error.ReadStop.TheVariants as read_stop
use Rattle.pit_script.specs.declared.step.Step.{Step}
use Rattle.pit_script.specs.declared.step.Step.TheVariants as step
use Rattle.pit_job.specs.Effect.{Agrees, Known, read_in}
use Rattle.pit_job.specs.Outcomes.{IsMovedBlock, HasNoWrite, IsReadOver, IsRead}
use Rattle.pit_job.specs.Inside.Doing.{own_of, StopsAt, StepStopsAt, LooksUp, Meets}
use Rattle.pit_job.specs.declared.doing.StepStop.{StepStop}
use Rattle.pit_job.specs.declared.doing.StepStop.TheVariants as stop
use Rattle.pit_job.proofs.Noting.{notes-map, notes-none, notes-trans, over-read}
use Rattle.pit_job.proofs.Seeing.{prefix-refl, sees-same}
use Rattle.pit_job.proofs.Stepping.{Agrees-refl, same-trans, unwritten}

-- a stop at such a block is one at such another
pub meets-map : (P Q : ℕ → Type 0) (start other : ℕ) (seen : List Answered) (s : StepStop) → ((b : ℕ) → P b → Q b) → other ≡ start → Meets P other seen s → Meets Q start seen s
meets-map P Q start other seen (stop.Moved block version) f same meets = (f block meets.0, subst (λ (n : ℕ). IsMovedBlock seen n block version) same meets.1)
meets-map P Q start other seen stop.NoMemory f same meets = tt
meets-map P Q start other seen stop.NoEntry f same meets = (meets.0, f meets.0 meets.1)

-- ---- what stopped a step

-- nothing was done in the sets
pub left-stops : (IsOne : ℕ → Type 0) (old new : TransactionState) (why : StepStop) → SeesOn old.planner new.planner → new.work ≡ old.work
    → Meets (λ c. IsOne c × HasNoWrite (own_of old.work) c) old.work.start new.planner.seen why → StopsAt IsOne old why new
left-stops IsOne old new why sees same meets = record {
  same = record {
    sees = sees;
    job = ap (λ (w : Sets). w.job) same;
    start = ap (λ (w : Sets). w.start) same;
    reads = subst (λ (w : Sets). Agrees (read_in old.work.reads) (read_in w.reads)) (sym same) (Agrees-refl (read_in old.work.reads));
  };
  own = ap (λ (w : Sets). own_of w) same;
  noted = notes-none (λ c. IsOne c × HasNoWrite (own_of old.work) c) old.work.reads new.work.reads (ap (λ (w : Sets). w.reads) same);
  meets = meets;
}

-- memory ran out, and nothing was done
stays-stop : (IsOne : ℕ → Type 0) (old new : TransactionState) (why : StepStop) → why ≡ stop.NoMemory → new ≡ old → StopsAt IsOne old why new
stays-stop IsOne old new why memory same =
    subst (λ (w : StepStop). StopsAt IsOne old w new) (sym memory)
    (left-stops IsOne old new stop.NoMemory (sees-same old.planner new.planner (ap (λ (t : TransactionState). t.planner) same)) (ap (λ (t : TransactionState). t.work) same) tt)

pub stays-stops : {X : Type 0} (IsOne : TransactionState → ℕ → Type 0) (old new : TransactionState) (r : Result X StepStop) → IfErr r (λ why. why ≡ stop.NoMemory) → OnErr r (new ≡ old)
    → IfErr r (λ why. StopsAt (IsOne new) old why new)
stays-stops IsOne old new (Ok x) memory same = tt
stays-stops IsOne old new (Err why) memory same = stays-stop (IsOne new) old new why memory same

-- of these blocks, it was of those
pub stopped-map : (P Q : ℕ → Type 0) (old new : TransactionState) (why : StepStop) → ((c : ℕ) → P c → HasNoWrite (own_of old.work) c → Q c) → StopsAt P old why new → StopsAt Q old why new
stopped-map P Q old new why f is = record {
  same = is.same;
  own = is.own;
  noted = notes-map (λ c. P c × HasNoWrite (own_of old.work) c) (λ c. Q c × HasNoWrite (own_of old.work) c) (λ c at. (f c at.0 at.1, at.1)) old.work.reads new.work.reads is.noted;
  meets = meets-map (λ c. P c × HasNoWrite (own_of old.work) c) (λ c. Q c × HasNoWrite (own_of old.work) c) old.work.start old.work.start new.planner.seen why (λ c at. (f c at.0 at.1, at.1)) refl is.meets;
}

-- first it went on, reading such blocks, and then it was stopped at one of them
pub stopped-more : (P : ℕ → Type 0) (old mid new : TransactionState) (why : StepStop) → StopsAt P old stop.NoMemory mid → StopsAt P mid why new → StopsAt P old why new
stopped-more P old mid new why first rest =
    let f : (c : ℕ) → P c × HasNoWrite (own_of mid.work) c → P c × HasNoWrite (own_of old.work) c = λ c at. (at.0, subst (λ (own : Commit). HasNoWrite own c) first.own at.1) in
    record {
      same = same-trans old mid new first.same rest.same;
      own = rest.own ∙ first.own;
      noted = notes-trans (λ c. P c × HasNoWrite (own_of old.work) c) old.work.reads mid.work.reads new.work.reads first.noted
          (notes-map (λ c. P c × HasNoWrite (own_of mid.work) c) (λ c. P c × HasNoWrite (own_of old.work) c) f mid.work.reads new.work.reads rest.noted);
      meets = meets-map (λ c. P c × HasNoWrite (own_of mid.work) c) (λ c. P c × HasNoWrite (own_of old.work) c) old.work.start mid.work.start new.planner.seen why f first.same.start rest.meets;
    }

-- it went on, and memory ran out behind a block that was looked up
pub looked-stops : (old new : TransactionState) (b : ℕ) (period : Option ℕ) → LooksUp old b period new → StopsAt (λ c. c ≡ b) old stop.NoMemory new
looked-stops old new b period is = record { same = is.same; own = is.own; noted = is.noted; meets = tt }

-- a block that a step looks up, it reads over what is known, where it isn't among the own writes
pub look-over : (old new : TransactionState) (b : ℕ) (why : StepStop) → StopsAt (λ c. c ≡ b) old why new → StopsAt (λ c. (c ≡ b) × HasNoWrite (own_of old.work) c) old why new
look-over old new b why is = stopped-map (λ c. c ≡ b) (λ c. (c ≡ b) × HasNoWrite (own_of old.work) c) old new why (λ c same absent. (same, absent)) is

-- a shift that was stopped behind its look
pub shift-stops : {X : Type 0} (pit : Pit) (old mid new : TransactionState) (b by : ℕ) (is_back : Bool) (period : Option ℕ) (r : Result X StepStop) → LooksUp old b period mid
    → IfErr r (λ why. why ≡ stop.NoMemory) → OnErr r (new ≡ mid) → IfErr r (λ why. StepStopsAt pit old (step.Shift b is_back by) why new)
shift-stops pit old mid new b by is_back period (Ok x) looks memory same = tt
shift-stops pit old mid new b by is_back period (Err why) looks memory same =
    look-over old new b why (stopped-more (λ c. c ≡ b) old mid new why (looked-stops old mid b period looks) (stays-stop (λ c. c ≡ b) mid new why memory same))

-- ---- what stopped a look

-- what a read that was refused tells, of a block that wasn't known
pub look-tells : (pit : Pit) (old new : TransactionState) (b : ℕ) (r : Result (Option ℕ) ReadStop) (s : ReadStop) → b < pit.blocks → r ≡ Err s
    → ((p : Option ℕ) → b < pit.blocks → known_of old.work b ≡ Some p → (r ≡ Ok p) × (new ≡ old)) → (b < pit.blocks → known_of old.work b ≡ None → IsLookedUp old b r new)
    → IsLookedUp old b (Err s) new × HasNoWrite (own_of old.work) b
look-tells pit old new b r s less is known unknown = by (known_of old.work b) refl
  where
    by : (o : Option (Option ℕ)) → known_of old.work b ≡ o → IsLookedUp old b (Err s) new × HasNoWrite (own_of old.work) b
    by (Some p) e = let first = (known p less e).0 in absurd (cc (first, is))
    by None e = (
      subst (λ (q : Result (Option ℕ) ReadStop). IsLookedUp old b q new) is (unknown less e),
      unwritten (at_key nat_eq old.work.writes b) (at_key nat_eq old.work.reads b) e,
    )

looked-left : (old new : TransactionState) (b : ℕ) (s : ReadStop) → IsLookedUp old b (Err s) new → new.work ≡ old.work
looked-left old new b read_stop.NoBlock is = absurd is
looked-left old new b read_stop.NoEntry is = ap (λ (t : TransactionState). t.work) is
looked-left old new b (read_stop.Moved block version) is = is.3
looked-left old new b read_stop.NoMemory is = is.1

-- what the look tells of it
abbrev pub look-stop : ReadStop → StepStop
look-stop read_stop.NoBlock = stop.NoMemory
look-stop read_stop.NoEntry = stop.NoEntry
look-stop (read_stop.Moved block version) = stop.Moved block version
look-stop read_stop.NoMemory = stop.NoMemory

look-meets : (old new : TransactionState) (b : ℕ) (s : ReadStop) → IsLookedUp old b (Err s) new → HasNoWrite (own_of old.work) b
    → Meets (λ c. (c ≡ b) × HasNoWrite (own_of old.work) c) old.work.start new.planner.seen (look-stop s)
look-meets old new b read_stop.NoBlock is absent = absurd is
look-meets old new b read_stop.NoEntry is absent = (b, (refl, absent))
look-meets old new b (read_stop.Moved block version) is absent = (
  (is.0, subst (HasNoWrite (own_of old.work)) (sym is.0) absent),
  record {
    prefix = new.planner.seen;
    begins = prefix-refl new.planner.seen;
    last = is.1 ∙ ap (last_number (commits_of new.planner.seen)) (sym is.0);
    past = is.2;
  },
)
look-meets old new b read_stop.NoMemory is absent = tt

pub look-stops : (pit : Pit) (old new : TransactionState) (b : ℕ) (r : Result (Option ℕ) ReadStop) (s : ReadStop) → b < pit.blocks → r ≡ Err s → SeesOn old.planner new.planner
    → ((p : Option ℕ) → b < pit.blocks → known_of old.work b ≡ Some p → (r ≡ Ok p) × (new ≡ old)) → (b < pit.blocks → known_of old.work b ≡ None → IsLookedUp old b r new)
    → StopsAt (λ c. c ≡ b) old (look-stop s) new
look-stops pit old new b r s less is sees known unknown =
    let told = look-tells pit old new b r s less is known unknown in
    left-stops (λ c. c ≡ b) old new (look-stop s) sees (looked-left old new b s told.0) (look-meets old new b s told.0 told.1)

-- a stop that is handed on
pub stop-handed : {X : Type 0} (result : Result X StepStop) (s : StepStop) (Is : StepStop → Type 0) → IsErr result → IsErrAnd result (λ (e : StepStop). e ≡ s) → Is s → IfErr result Is
stop-handed (Ok x) s Is err same is = absurd (false≢true err)
stop-handed (Err e) s Is err same is = subst Is (sym same) is

-- one of the steps met it
pub steps-meet : (pit : Pit) (known : Known) (own : Commit) (xs : List Step) (i : ℕ) (d : Step) (start other : ℕ) (seen : List Answered) (s : StepStop) → i < length xs → other ≡ start
    → Meets (λ c. IsReadOver pit known own (get_or xs i d) c × HasNoWrite own c) other seen s → Meets (IsRead pit xs) start seen s
steps-meet pit known own xs i d start other seen s less same meets =
    meets-map (λ c. IsReadOver pit known own (get_or xs i d) c × HasNoWrite own c) (IsRead pit xs) start other seen s
    (λ c is. record { reader = get_or xs i d; among = Contains-get_or xs i d less; reads = over-read pit known own (get_or xs i d) c is.0 }) same meets

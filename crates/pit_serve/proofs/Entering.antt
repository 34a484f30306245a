-- Which turns make an entry, and of what.
use Rattle.std.proofs.Common.{◌≡◌, ◌⊎◌, ℕ, true, nat_eq, List, [], ◌∷◌, ◌++◌, Some, None, refl, ap, sym, ◌∙◌, subst, append-nil, append_assoc, inl, inr}
use Rattle.std.specs.Prelude.{Option, Ok}
use Rattle.pit_model.specs.Pit.{Pit}
use Rattle.pit_keyed.specs.Keyed.{with_write}
use Rattle.pit_tx.specs.Sets.{Sets, empty_sets, known_of}
use Rattle.pit_desk.specs.History.{Answered}
use Rattle.pit_desk.specs.Calls.{work_call}
use Rattle.pit_desk.specs.declared.entry.Act.TheVariants.{Commit as commit_act}
use Rattle.pit_script.specs.declared.error.ScriptFault.TheVariants.{Order, JobCount}
use Rattle.pit_share.specs.Planners.{PlannerState, TransactionState}
use Rattle.pit_share.specs.Reads.{IsLookedUp}
use Rattle.pit_serve.specs.Asked.{asked_of}
use Rattle.pit_serve.specs.Entries.{noted_by, written_by, sets_by, sets_after, entry_of, entries_of, session_entries_of}
use Rattle.pit_serve.specs.Phases.{PhaseState, is_open}
use Rattle.pit_serve.specs.Phases.PhaseState.{Idle, Open}
use Rattle.pit_serve.specs.Serving.{BeginsBy, Reads, Writes, StopsAt, EndsBy, Commits, Values, FromIdle, FromOpen, StaysOpen}
use Rattle.pit_serve.specs.Sessions.{Turn, Standing, Meets, AreTurns, Closes, IsSession}
use Rattle.pit_serve.specs.declared.answer.Answer.{Answer}
use Rattle.pit_serve.specs.declared.answer.Answer.TheVariants as told
use Rattle.pit_serve.specs.declared.asked.Asked.{Asked}
use Rattle.pit_serve.specs.declared.asked.Asked.TheVariants as asked
use Rattle.pit_serve.specs.declared.fault.RequestFault.TheVariants as fault
use Rattle.pit_serve.specs.declared.request.Request.{Request}
use Rattle.pit_serve.specs.declared.request.Request.TheVariants as ask
use Rattle.pit_serve.specs.declared.session_end.SessionEnd.{SessionEnd}

abbrev planner_in : PhaseState → PlannerState
planner_in (Idle planner) = planner
planner_in (Open transaction) = transaction.planner

-- a transaction has these sets
abbrev Has : PhaseState → Sets → Type 0
Has (Idle planner) sets = Unit {0}
Has (Open transaction) sets = transaction.work ≡ sets

-- a phase follows another by an answer: the planner is the same, its items are those of before and what the answer makes, and its sets are these
record Follows (pit : Pit) (old : PhaseState) (sets : Sets) (asks : Asked) (answer : Answer) (new : PhaseState) : Type 0 where
  number : (planner_in new).number ≡ (planner_in old).number
  items : (planner_in new).items ≡ (planner_in old).items ++ entry_of sets answer
  has : Has new (sets_by pit (planner_in old).number sets asks answer)

-- ---- where no entry is made

as-before : (old new : PlannerState) → new ≡ old → (new.number ≡ old.number) × (new.items ≡ old.items)
as-before old new same = (ap (λ (p : PlannerState). p.number) same, ap (λ (p : PlannerState). p.items) same)

none : (pit : Pit) (old : PhaseState) (sets : Sets) (asks : Asked) (answer : Answer) (new : PhaseState) → entry_of sets answer ≡ [] → (planner_in new).number ≡ (planner_in old).number → (planner_in new).items ≡ (planner_in old).items
    → Has new (sets_by pit (planner_in old).number sets asks answer) → Follows pit old sets asks answer new
none pit old sets asks answer new unended number items has = record {
  number = number;
  items = items ∙ sym (append-nil (planner_in old).items) ∙ ap (λ (l : List Answered). (planner_in old).items ++ l) (sym unended);
  has = has;
}

-- nothing but the answer comes of it
still : (pit : Pit) (old : PhaseState) (sets : Sets) (asks : Asked) (answer : Answer) (new : PhaseState) → entry_of sets answer ≡ [] → sets_by pit (planner_in old).number sets asks answer ≡ sets → Has old sets → new ≡ old
    → Follows pit old sets asks answer new
still pit old sets asks answer new unended unchanged has same =
    none pit old sets asks answer new unended (ap (λ (p : PhaseState). (planner_in p).number) same) (ap (λ (p : PhaseState). (planner_in p).items) same)
    (subst (λ (s : Sets). Has new s) (sym unchanged) (subst (λ (p : PhaseState). Has p sets) (sym same) has))

refused : (pit : Pit) (old : PhaseState) (sets : Sets) (asks : Asked) (due answer : Answer) (new : PhaseState) → entry_of sets due ≡ [] → sets_by pit (planner_in old).number sets asks due ≡ sets → Has old sets → answer ≡ due → new ≡ old
    → Follows pit old sets asks answer new
refused pit old sets asks due answer new unended unchanged has is same =
    subst (λ (a : Answer). Follows pit old sets asks a new) (sym is) (still pit old sets asks due new unended unchanged has same)

begins : (pit : Pit) (old : PlannerState) (sets : Sets) (asks : Asked) (begun : ℕ) (answer : Answer) (new : PhaseState) → BeginsBy pit old begun answer new → Follows pit (Idle old) sets asks answer new
begins pit old sets asks begun (told.Begun job start) (Open new) h =
    none pit (Idle old) sets asks (told.Begun job start) (Open new) refl h.3.planner.number h.3.planner.items
    (h.3.work ∙ ap (λ (n : ℕ). empty_sets pit old.number job n) (sym (h.2 ∙ ap (λ (s : Sets). s.start) h.3.work)))
begins pit old sets asks begun (told.Wrong (fault.Line JobCount)) (Idle new) h =
    let same = as-before old new h.1 in none pit (Idle old) sets asks (told.Wrong (fault.Line JobCount)) (Idle new) refl same.0 same.1 tt
begins pit old sets asks begun (told.Wrong fault.Journal) (Idle new) h =
    let same = as-before old new h.1 in none pit (Idle old) sets asks (told.Wrong fault.Journal) (Idle new) refl same.0 same.1 tt
begins pit old sets asks begun (told.Wrong fault.NoMemory) (Idle new) h = none pit (Idle old) sets asks (told.Wrong fault.NoMemory) (Idle new) refl h.1.number h.1.items tt
begins pit old sets asks begun answer new h = absurd h

values : (pit : Pit) (old : PhaseState) (sets : Sets) (asks : Asked) (answer : Answer) (new : PhaseState) → Has old sets → Values pit (planner_in old).seen answer → new ≡ old → Follows pit old sets asks answer new
values pit old sets asks (told.Value commits value) new has h same = still pit old sets asks (told.Value commits value) new refl refl has same
values pit old sets asks answer new has h same = absurd h

idle : (pit : Pit) (old : PlannerState) (sets : Sets) (asks : Asked) (begun : ℕ) (request : Request) (answer : Answer) (new : PhaseState) → FromIdle pit old begun request answer new → Follows pit (Idle old) sets asks answer new
idle pit old sets asks begun ask.Begin answer new h = begins pit old sets asks begun answer new h
idle pit old sets asks begun ask.Value answer new h = values pit (Idle old) sets asks answer new tt h.0 h.1
idle pit old sets asks begun request answer new h = refused pit (Idle old) sets asks (told.Wrong (fault.Line Order)) answer new refl refl tt h.0 h.1

-- ---- inside a transaction

-- a block was known and nothing changed, or it wasn't and is noted
noted : (pit : Pit) (old : TransactionState) (sets : Sets) (block b : ℕ) (period : Option ℕ) (new : TransactionState) → block ≡ b → old.work ≡ sets
    → (((known_of old.work b ≡ Some period) × (new ≡ old)) ⊎ ((known_of old.work b ≡ None) × IsLookedUp old b (Ok period) new)) → new.work ≡ noted_by (known_of sets block) sets block period
noted pit old sets block b period new is has (inl (known, same)) =
    ap (λ (t : TransactionState). t.work) same ∙ has
    ∙ ap (λ (o : Option (Option ℕ)). noted_by o sets block period) (sym (ap (λ (n : ℕ). known_of sets n) is ∙ ap (λ (s : Sets). known_of s b) (sym has) ∙ known))
noted pit old sets block b period new is has (inr (unknown, met)) =
    met.work ∙ ap (λ (s : Sets). record s { reads = s.reads ++ (b, period) ∷ [] }) has ∙ ap (λ (n : ℕ). record sets { reads = sets.reads ++ (n, period) ∷ [] }) (sym is)
    ∙ ap (λ (o : Option (Option ℕ)). noted_by o sets block period) (sym (ap (λ (n : ℕ). known_of sets n) is ∙ ap (λ (s : Sets). known_of s b) (sym has) ∙ unknown))

reads : (pit : Pit) (old : TransactionState) (sets : Sets) (asks : Asked) (block : ℕ) (answer : Answer) (new : TransactionState) → old.work ≡ sets → Reads old block answer new → Follows pit (Open old) sets asks answer (Open new)
reads pit old sets asks block (told.Held b period) new has h =
    none pit (Open old) sets asks (told.Held b period) (Open new) refl h.1.number h.1.items (noted pit old sets b block period new h.0 has h.2)
reads pit old sets asks block (told.Moved b version) new has h = none pit (Open old) sets asks (told.Moved b version) (Open new) refl h.0.number h.0.items (h.2.3 ∙ has)
reads pit old sets asks block told.Busy new has h = still pit (Open old) sets asks told.Busy (Open new) refl refl has (ap Open h.1)
reads pit old sets asks block (told.Wrong fault.NoMemory) new has h = none pit (Open old) sets asks (told.Wrong fault.NoMemory) (Open new) refl h.0.number h.0.items (h.2.1 ∙ has)
reads pit old sets asks block answer new has h = absurd h

writes : (pit : Pit) (old : TransactionState) (sets : Sets) (asks : Asked) (block : ℕ) (period : Option ℕ) (answer : Answer) (new : TransactionState) → old.work ≡ sets
    → written_by asks sets ≡ record sets { writes = with_write nat_eq sets.writes block period } → Writes old block period answer new → Follows pit (Open old) sets asks answer (Open new)
writes pit old sets asks block period told.Done new has written h =
    let same = as-before old.planner new.planner h.0 in
    none pit (Open old) sets asks told.Done (Open new) refl same.0 same.1 (h.1 ∙ ap (λ (s : Sets). record s { writes = with_write nat_eq s.writes block period }) has ∙ sym written)
writes pit old sets asks block period (told.Wrong fault.NoMemory) new has written h = still pit (Open old) sets asks (told.Wrong fault.NoMemory) (Open new) refl refl has (ap Open h.0)
writes pit old sets asks block period answer new has written h = absurd h

stops : (pit : Pit) (max : ℕ) (old : TransactionState) (sets : Sets) (asks : Asked) (answer : Answer) (new : TransactionState) → old.work ≡ sets → StopsAt max old answer new → Follows pit (Open old) sets asks answer (Open new)
stops pit max old sets asks told.Full new has (inl h) = none pit (Open old) sets asks told.Full (Open new) refl h.1.number h.1.items (h.0 ∙ has)
stops pit max old sets asks told.Full new has (inr same) = still pit (Open old) sets asks told.Full (Open new) refl refl has (ap Open same)
stops pit max old sets asks (told.Wrong fault.NoMemory) new has h = still pit (Open old) sets asks (told.Wrong fault.NoMemory) (Open new) refl refl has (ap Open h)
stops pit max old sets asks answer new has h = absurd h

ends : (pit : Pit) (old : TransactionState) (sets : Sets) (asks : Asked) (answer : Answer) (new : PlannerState) → old.work ≡ sets → EndsBy pit old answer new → Follows pit (Open old) sets asks answer (Idle new)
ends pit old sets asks (told.Ended reply is_saved) new has h = record {
  number = h.number;
  items = h.items ∙ ap (λ (s : Sets). old.planner.items ++ record { call = work_call s commit_act; reply = reply } ∷ []) has;
  has = tt;
}
ends pit old sets asks answer new has h = absurd h

commits : (pit : Pit) (max : ℕ) (old : TransactionState) (sets : Sets) (asks : Asked) (answer : Answer) (new : PhaseState) → old.work ≡ sets → Commits pit max old answer new → Follows pit (Open old) sets asks answer new
commits pit max old sets asks answer (Idle new) has h = ends pit old sets asks answer new has h
commits pit max old sets asks answer (Open new) has h = stops pit max old sets asks answer new has h

stays-read : (pit : Pit) (old : TransactionState) (sets : Sets) (asks : Asked) (block : ℕ) (answer : Answer) (new : PhaseState) → old.work ≡ sets → StaysOpen (Reads old block answer) new → Follows pit (Open old) sets asks answer new
stays-read pit old sets asks block answer (Idle new) has h = absurd h
stays-read pit old sets asks block answer (Open new) has h = reads pit old sets asks block answer new has h

stays-written : (pit : Pit) (old : TransactionState) (sets : Sets) (asks : Asked) (block : ℕ) (period : Option ℕ) (answer : Answer) (new : PhaseState) → old.work ≡ sets
    → written_by asks sets ≡ record sets { writes = with_write nat_eq sets.writes block period } → StaysOpen (Writes old block period answer) new → Follows pit (Open old) sets asks answer new
stays-written pit old sets asks block period answer (Idle new) has written h = absurd h
stays-written pit old sets asks block period answer (Open new) has written h = writes pit old sets asks block period answer new has written h

given-up : (pit : Pit) (old : TransactionState) (sets : Sets) (asks : Asked) (answer : Answer) (new : PhaseState) → answer ≡ told.Abandoned → new ≡ Idle old.planner → Follows pit (Open old) sets asks answer new
given-up pit old sets asks answer new is same =
    subst (λ (a : Answer). Follows pit (Open old) sets asks a new) (sym is)
    (subst (λ (p : PhaseState). Follows pit (Open old) sets asks told.Abandoned p) (sym same)
    (none pit (Open old) sets asks told.Abandoned (Idle old.planner) refl refl refl tt))

within : (pit : Pit) (max : ℕ) (old : TransactionState) (sets : Sets) (request : Request) (answer : Answer) (new : PhaseState) → old.work ≡ sets → FromOpen pit max old request answer new
    → Follows pit (Open old) sets (asked.Request request) answer new
within pit max old sets ask.Begin answer new has h = refused pit (Open old) sets (asked.Request ask.Begin) (told.Wrong (fault.Line Order)) answer new refl refl has h.0 h.1
within pit max old sets (ask.Read block) answer new has h = stays-read pit old sets (asked.Request (ask.Read block)) block answer new has h
within pit max old sets (ask.Put block period) answer new has h = stays-written pit old sets (asked.Request (ask.Put block period)) block (Some period) answer new has refl h
within pit max old sets (ask.Clear block) answer new has h = stays-written pit old sets (asked.Request (ask.Clear block)) block None answer new has refl h
within pit max old sets ask.Commit answer new has h = commits pit max old sets (asked.Request ask.Commit) answer new has h
within pit max old sets ask.Abandon answer new has h = given-up pit old sets (asked.Request ask.Abandon) answer new h.0 h.1
within pit max old sets ask.Value answer new has h = values pit (Open old) sets (asked.Request ask.Value) answer new has h.0 h.1

-- ---- a turn

meets-open : (pit : Pit) (max : ℕ) (old : TransactionState) (begun : ℕ) (sets : Sets) (asks : Asked) (answer : Answer) (new : PhaseState) → old.work ≡ sets → Meets pit max (record { phase = Open old; begun = begun }) asks answer new
    → Follows pit (Open old) sets asks answer new
meets-open pit max old begun sets (asked.Request request) answer new has h = within pit max old sets request answer new has h
meets-open pit max old begun sets (asked.Wrong wrong) answer new has h = refused pit (Open old) sets (asked.Wrong wrong) (told.Wrong wrong) answer new refl refl has h.0 h.1
meets-open pit max old begun sets asked.Nothing answer new has h = absurd h
meets-open pit max old begun sets asked.End answer new has h = absurd h

-- between two transactions it makes no difference what is asked for
meets-idle : (pit : Pit) (max : ℕ) (old : PlannerState) (begun : ℕ) (sets : Sets) (asks others : Asked) (answer : Answer) (new : PhaseState) → Meets pit max (record { phase = Idle old; begun = begun }) asks answer new
    → Follows pit (Idle old) sets others answer new
meets-idle pit max old begun sets (asked.Request request) others answer new h = idle pit old sets others begun request answer new h
meets-idle pit max old begun sets (asked.Wrong wrong) others answer new h = refused pit (Idle old) sets others (told.Wrong wrong) answer new refl refl tt h.0 h.1
meets-idle pit max old begun sets asked.Nothing others answer new h = absurd h
meets-idle pit max old begun sets asked.End others answer new h = absurd h

follows : (pit : Pit) (max : ℕ) (phase : PhaseState) (begun : ℕ) (sets : Sets) (turn : Turn) (new : PhaseState) → Has phase sets
    → Meets pit max (record { phase = phase; begun = begun }) (asked_of pit (is_open phase) turn.line) turn.answer new → Follows pit phase sets (asked_of pit true turn.line) turn.answer new
follows pit max (Idle old) begun sets turn new has h = meets-idle pit max old begun sets (asked_of pit (is_open (Idle old)) turn.line) (asked_of pit true turn.line) turn.answer new h
follows pit max (Open old) begun sets turn new has h = meets-open pit max old begun sets (asked_of pit true turn.line) turn.answer new has h

-- ---- turns

entered : (pit : Pit) (max : ℕ) (number : ℕ) (old : Standing) (sets : Sets) (turns : List Turn) (new : Standing) → (planner_in old.phase).number ≡ number → Has old.phase sets → AreTurns pit max old turns new
    → ((planner_in new.phase).number ≡ number) × ((planner_in new.phase).items ≡ (planner_in old.phase).items ++ entries_of pit number sets turns)
unfolding entries_of
entered pit max number old sets [] new is has same = (
  ap (λ (s : Standing). (planner_in s.phase).number) same ∙ is,
  ap (λ (s : Standing). (planner_in s.phase).items) same ∙ sym (append-nil (planner_in old.phase).items),
)
entered pit max number old sets (turn ∷ turns) new is has (mid, first, rest) =
    let one = follows pit max old.phase old.begun sets turn mid.phase has first.meets in
    let after = sets_after pit number sets turn in
    let kept : Has mid.phase after = subst (λ (n : ℕ). Has mid.phase (sets_after pit n sets turn)) is one.has in
    let more = entered pit max number mid after turns new (one.number ∙ is) kept rest in (
      more.0,
      more.1
          ∙ ap (λ (items : List Answered). items ++ entries_of pit number after turns) one.items
          ∙ append_assoc (planner_in old.phase).items (entry_of sets turn.answer) (entries_of pit number after turns),
    )

closed : (last : PhaseState) (log : PlannerState) → Closes last log → log ≡ planner_in last
closed (Idle planner) log is = is
closed (Open transaction) log is = is

-- what a session leaves of its planner
left : (pit : Pit) (max : ℕ) (planner : PlannerState) (input before after : Option (List ℕ)) (end : SessionEnd) (replies : ℕ) (log : PlannerState)
    → (session : IsSession pit max planner input before after end replies log)
    → ((planner_in session.last.phase).number ≡ planner.number)
    × ((planner_in session.last.phase).items ≡ planner.items ++ session_entries_of pit planner.number (session.turns.told ++ session.turns.cut))
left pit max planner input before after end replies log session =
    entered pit max planner.number (record { phase = Idle planner; begun = 0 }) (empty_sets pit planner.number 0 0) (session.turns.told ++ session.turns.cut) session.last refl tt session.turns.turns

pub session_number : (pit : Pit) (max : ℕ) (planner : PlannerState) (input before after : Option (List ℕ)) (end : SessionEnd) (replies : ℕ) (log : PlannerState)
    → IsSession pit max planner input before after end replies log → log.number ≡ planner.number
session_number pit max planner input before after end replies log session =
    ap (λ (p : PlannerState). p.number) (closed session.last.phase log session.closes) ∙ (left pit max planner input before after end replies log session).0

pub session_entered : (pit : Pit) (max : ℕ) (planner : PlannerState) (input before after : Option (List ℕ)) (end : SessionEnd) (replies : ℕ) (log : PlannerState)
    → (session : IsSession pit max planner input before after end replies log) → log.items ≡ planner.items ++ session_entries_of pit planner.number (session.turns.told ++ session.turns.cut)
session_entered pit max planner input before after end replies log session =
    ap (λ (p : PlannerState). p.items) (closed session.last.phase log session.closes) ∙ (left pit max planner input before after end replies log session).1

-- How turns are put together.
use Rattle.std.proofs.lemmas.List.{take-append-drop, take-append-le, take_all, drop-append-le, drop_all, append-nil}
use Rattle.std.proofs.lemmas.List.Elements.{All-nil, All-cons, All-append, All-push, All-contains, Contains-get_or, Contains-append_left, Contains-append_right, Contains-append_cases, Contains-push_cases}
use Rattle.std.proofs.lemmas.Option.{slice_get-get_or, slice_get_within}
use Rattle.std.proofs.lemmas.Bool.Decides.{leb_tells, nat_tests}
use Rattle.std.proofs.Math.Seq.{take-suc}
use Rattle.std.proofs.Common.{◌≡◌, ℕ, zero, suc, ◌+◌, ◌<◌, ◌≤◌, ◌==◌, Bool, true, false, List, [], ◌∷◌, ◌++◌, length, get_or, take, drop, refl, sym, ap, subst, ◌∙◌, arith, inl, inr, append_assoc, length-append, length-take, add-zero, add-one}
use Rattle.std.specs.Prelude.{All, Contains, Some, slice_get, ◌≢◌, ◌||◌, ◌⊎◌}
use mathlib.Core.List.{IsPrefix}
use Rattle.pit_model.specs.Pit.{Pit}
use Rattle.pit_desk.specs.History.{Answered, commits_of}
use Rattle.pit_desk.specs.State.{State, IsDeskKept}
use Rattle.pit_desk.specs.Noted.{AreHeld}
use Rattle.pit_desk.proofs.Legal.{commits_of-append}
use Rattle.pit_script.specs.Jobs.{Job}
use Rattle.pit_share.specs.Planners.{PlannerState, planner_of}
use Rattle.pit_share.specs.Logs.{entries_of, entries_in, has_log, IsPlanner, HasEachLog}
use Rattle.pit_share.specs.Opening.{IsPlannerCount, AreSeats}
use Rattle.pit_share.specs.GoingOn.{GoesOn}
use Rattle.pit_share.specs.Snapshots.{AreSnapshots}
use Rattle.pit_share.specs.Closing.{IsClosed, IsCloseError}
use Rattle.pit_share.specs.declared.error.CloseError.{CloseError}
use Rattle.pit_share.proofs.Noted.{snapshots-none}
use Rattle.pit_job.specs.Runs.{RanFrom}
use Rattle.pit_job.specs.declared.outcome.Outcome.{Outcome}
use Rattle.pit_job.specs.declared.outcome.RunEnd.{RunEnd}
use Rattle.pit_job.specs.declared.outcome.RunEnd.TheVariants as end
use Rattle.pit_job.proofs.CallerLemmas.{all-from, all-on}
use Rattle.pit_run.specs.Reports.{RunState, RanScript, AllDid, IsReport}
use Rattle.pit_run.specs.Turns.{entries_by_planner, after_turns, DidBehind, HadTurns, TookTurn, DidInTurn, IsTurnUnclosed, IsInTurnError}
use Rattle.pit_run.proofs.Threading.{script-on}
use Rattle.pit_run.proofs.ByPlanner.{IsOf, IsUpTo, entries_of-own, none-of, by_planner-up_to, entries_of-earlier, by_planner-earlier, entries_of-last, by_planner-next, get-front, get-back, get-more, get-last}
use Rattle.pit_run.specs.Inside.Turns.{IsTurn, IsUnclosedTurn, IsTurnError}
use Rattle.pit_run.specs.declared.report.InTurnError.{InTurnError}
use Rattle.pit_run.specs.declared.report.InTurnError.TheVariants as error

-- ---- one planner more

ran-not-without : (pit : Pit) (max_entries retries n : ℕ) (old new : List Answered) (script : List Job) (es : List Answered) (jobs : List Outcome) (ended : RunEnd) → RanFrom pit max_entries retries old new n script es jobs ended → ended ≢ end.NoThread
ran-not-without pit max_entries retries n old new [] es [] ended ran without = absurd (cc (ran.1, without))
ran-not-without pit max_entries retries n old new [] es (o ∷ os) ended ran without = absurd ran
ran-not-without pit max_entries retries n old new (task ∷ rest) es [] end.NoThread ran without = absurd ran.0
ran-not-without pit max_entries retries n old new (task ∷ rest) es [] end.Whole ran without = absurd ran.0
ran-not-without pit max_entries retries n old new (task ∷ rest) es [] (end.Full job) ran without = absurd (cc without)
ran-not-without pit max_entries retries n old new (task ∷ rest) es [] (end.NoMemory job) ran without = absurd (cc without)
ran-not-without pit max_entries retries n old new (task ∷ rest) es [] (end.NoEntry job) ran without = absurd (cc without)
ran-not-without pit max_entries retries n old new (task ∷ rest) es (o ∷ os) ended ran without = ran-not-without pit max_entries retries (n + 1) ran.0 new rest ran.2 os ended ran.5 without

-- entries of a later planner leave what the earlier ones did
did-earlier : (pit : Pit) (max_entries retries : ℕ) (opening history more own : List Answered) (n k : ℕ) (scripts : List (List Job)) (runs : List RunState)
    → n + length scripts ≤ suc k → All (IsOf (suc k)) own → drop (length opening) more ≡ drop (length opening) history ++ own → IsPrefix history more
    → AllDid pit max_entries retries opening history n scripts runs → AllDid pit max_entries retries opening more n scripts runs
did-earlier pit max_entries retries opening history more own n k [] [] early all is on did = tt
did-earlier pit max_entries retries opening history more own n k [] (run ∷ runs) early all is on did = absurd did
did-earlier pit max_entries retries opening history more own n k (script ∷ scripts) [] early all is on did = absurd did
did-earlier pit max_entries retries opening history more own n k (script ∷ scripts) (run ∷ runs) early all is on (first, rest) =
    let past = drop (length opening) history in
    let same = ap (entries_of n) is ∙ entries_of-earlier n k past own (omega (arith, early)) all in
    let here = script-on pit max_entries retries n opening history more script (entries_of n past) run on first in (
      subst (λ (es : List Answered). RanScript pit max_entries retries opening more script n es run) (sym same) here,
      did-earlier pit max_entries retries opening history more own (n + 1) k scripts runs (omega (arith, early)) all is on rest,
    )

did-more : (pit : Pit) (max_entries retries : ℕ) (opening history : List Answered) (n : ℕ) (scripts : List (List Job)) (runs : List RunState) (script : List Job) (run : RunState)
    → AllDid pit max_entries retries opening history n scripts runs
    → RanScript pit max_entries retries opening history script (n + length scripts) (entries_of (n + length scripts) (drop (length opening) history)) run
    → AllDid pit max_entries retries opening history n (scripts ++ script ∷ []) (runs ++ run ∷ [])
did-more pit max_entries retries opening history n [] [] script run did last =
    (subst (λ (m : ℕ). RanScript pit max_entries retries opening history script m (entries_of m (drop (length opening) history)) run) (add-zero n) last, tt)
did-more pit max_entries retries opening history n [] (x ∷ runs) script run did last = absurd did
did-more pit max_entries retries opening history n (x ∷ scripts) [] script run did last = absurd did
did-more pit max_entries retries opening history n (x ∷ scripts) (y ∷ runs) script run (first, rest) last =
    let same : n + length (x ∷ scripts) ≡ (n + 1) + length scripts = omega arith in
    let there = subst (λ (m : ℕ). RanScript pit max_entries retries opening history script m (entries_of m (drop (length opening) history)) run) same last in
    (first, did-more pit max_entries retries opening history (n + 1) scripts runs script run rest there)

-- ---- a history that goes on from one that goes on

front-is : {X : Type 0} (xs ys : List X) → take (length xs) (xs ++ ys) ≡ xs
front-is xs ys = take-append-le (length xs) xs ys (omega arith) ∙ take_all (length xs) xs (omega arith)

rest-is : {X : Type 0} (xs ys : List X) → drop (length xs) (xs ++ ys) ≡ ys
rest-is xs ys = drop-append-le (length xs) xs ys (omega arith) ∙ ap (λ zs. zs ++ ys) (drop_all (length xs) xs (omega arith))

commits-of-front : (k : ℕ) (history : List Answered) → length (commits_of (take k history)) ≤ length (commits_of history)
commits-of-front zero history = omega arith
commits-of-front (suc k) [] = omega arith
commits-of-front (suc k) (e ∷ es) = simp length-append (omega (arith, commits-of-front k es))

snapshots-on : (opened : ℕ) (history own : List Answered) → AreSnapshots opened history → AreSnapshots (length history) (history ++ own) → AreSnapshots opened (history ++ own)
snapshots-on opened history own first second = record {
  each = λ k e past at seen.
      elim (leb_tells (length history) k) [
        | inl late ↦ second.each k e late.1 at seen
        | inr early ↦
            let less : k < length history = omega (arith, early.1) in
            let front : take k (history ++ own) ≡ take k history = take-append-le k history own (omega (arith, less)) in
            let few : e.call.start ≤ length (commits_of (take k history)) = subst (λ (es : List Answered). e.call.start ≤ length (commits_of es)) front seen in
            let within : e.call.start ≤ length (commits_of history) = omega (arith, few, commits-of-front k history) in
            let same = ap (take e.call.start) (commits_of-append history own) ∙ take-append-le e.call.start (commits_of history) (commits_of own) within in
            subst (λ l. AreHeld l e.call.reads) (sym same) (first.each k e past (get-front history own k e less at) few)
      ];
}

pub goes-on-none : (planners : ℕ) (desk : State) → GoesOn desk.plan.pit desk.history desk.max_entries planners desk
goes-on-none planners desk = record {
  same_pit = refl;
  limit = refl;
  begins = take_all (length desk.history) desk.history (omega arith);
  ours = subst (All (λ e. IsPlanner planners e.call.planner)) (sym (drop_all (length desk.history) desk.history (omega arith))) (All-nil (λ e. IsPlanner planners e.call.planner));
  snapshots = snapshots-none desk.history;
}

begins-prefix : (opening history : List Answered) → take (length opening) history ≡ opening → IsPrefix opening history
begins-prefix opening history begins =
    let past = drop (length opening) history in (past, sym (ap (λ (es : List Answered). es ++ past) begins) ∙ take-append-drop (length opening) history)

-- what is past the opening is what was past it, and what is past that
past-on : (opening history more : List Answered) → take (length opening) history ≡ opening → take (length history) more ≡ history
    → (more ≡ opening ++ (drop (length opening) history ++ drop (length history) more)) × (more ≡ history ++ drop (length history) more)
past-on opening history more first second =
    let past = drop (length opening) history in
    let own = drop (length history) more in
    let here : history ≡ opening ++ past = sym (take-append-drop (length opening) history) ∙ ap (λ (es : List Answered). es ++ past) first in
    let there : more ≡ history ++ own = sym (take-append-drop (length history) more) ∙ ap (λ (es : List Answered). es ++ own) second in
    (there ∙ (ap (λ (es : List Answered). es ++ own) here ∙ append_assoc opening past own), there)

goes-on-on : (pit : Pit) (opening : List Answered) (max_entries planners : ℕ) (desk next : State) → GoesOn pit opening max_entries planners desk → GoesOn pit desk.history max_entries planners next
    → GoesOn pit opening max_entries planners next × (drop (length opening) next.history ≡ drop (length opening) desk.history ++ drop (length desk.history) next.history)
goes-on-on pit opening max_entries planners desk next first second =
    let past = drop (length opening) desk.history in
    let own = drop (length desk.history) next.history in
    let parts = past-on opening desk.history next.history first.begins second.begins in
    let rest : drop (length opening) next.history ≡ past ++ own = ap (drop (length opening)) parts.0 ∙ rest-is opening (past ++ own) in (
      record {
        same_pit = second.same_pit;
        limit = second.limit;
        begins = ap (take (length opening)) parts.0 ∙ front-is opening (past ++ own);
        ours = subst (All (λ e. IsPlanner planners e.call.planner)) (sym rest) (All-append (λ e. IsPlanner planners e.call.planner) past own first.ours second.ours);
        snapshots =
            subst (AreSnapshots (length opening)) (sym parts.1) (snapshots-on (length opening) desk.history own first.snapshots (subst (AreSnapshots (length desk.history)) parts.1 second.snapshots));
      },
      rest,
    )

-- ---- a turn

has-log : (q : ℕ) (logs : List PlannerState) → has_log q logs ≡ true → (log : PlannerState) × Contains logs log × (log.number ≡ q)
has-log q [] has = absurd (cc has)
has-log q (x ∷ logs) has = by (x.number == q) refl has (has-log q logs)
  where
    by : (b : Bool) → (x.number == q) ≡ b → (b || has_log q logs) ≡ true → (has_log q logs ≡ true → (log : PlannerState) × Contains logs log × (log.number ≡ q))
        → (log : PlannerState) × Contains (x ∷ logs) log × (log.number ≡ q)
    by true is rest more = (x, (0, omega arith, refl), grind (arith, nat_tests, is))
    by false is rest more =
        let found = more rest in
        let at = found.1 in
        (found.0, (suc at.0, omega (arith, at.1), at.2), found.2)

-- only the planner whose turn it was has entries
turn-own : (pit : Pit) (opening : List Answered) (max_entries planners retries planner : ℕ) (script : List Job) (desk : State) (run : RunState) (logs : List PlannerState)
    → IsClosed pit opening max_entries planners logs desk → TookTurn pit max_entries retries opening script planner logs run → All (IsOf planner) (drop (length opening) desk.history)
turn-own pit opening max_entries planners retries planner script desk run logs closed took i e less =
    let past = drop (length opening) desk.history in
    let q = (get_or past i e).call.planner in
    let one : IsPlanner planners q = closed.goes_on.ours i e less in
    by (q == planner) refl one
  where
    past : List Answered
    past = drop (length opening) desk.history

    q : ℕ
    q = (get_or past i e).call.planner

    by : (b : Bool) → (q == planner) ≡ b → IsPlanner planners q → q ≡ planner
    by true is one = grind (arith, nat_tests, is)
    by false is one =
        let found = has-log q logs (closed.whole.each q one) in
        let log = found.0 in
        let other : log.number ≢ planner = λ same. absurd (grind (arith, nat_tests, is, found.2, same)) in
        let empty : log.items ≡ [] = All-contains (λ l. l.number ≢ planner → l.items ≡ []) logs log took.others found.1 other in
        let none : entries_of q past ≡ [] = (closed.logged.each q one).each log found.1 found.2 ∙ empty in
        absurd (none-of q past none i e less refl)

-- and those are its script's
turn-ran : (pit : Pit) (opening : List Answered) (max_entries planners retries planner : ℕ) (script : List Job) (desk : State) (run : RunState) (turn : IsTurn pit opening max_entries planners retries planner script desk run)
    → IsPlanner planners planner → RanFrom pit max_entries retries opening turn.took.log.seen 1 script (drop (length opening) desk.history) run.jobs run.ended
turn-ran pit opening max_entries planners retries planner script desk run turn one =
    let past = drop (length opening) desk.history in
    let took = turn.took in
    let own = turn-own pit opening max_entries planners retries planner script desk run turn.logs turn.closed took in
    let logged : entries_of planner past ≡ took.log.items = (turn.closed.logged.each planner one).each took.log took.among took.did.of_log in
    subst (λ (es : List Answered). RanFrom pit max_entries retries opening took.log.seen 1 script es run.jobs run.ended) (sym logged ∙ entries_of-own planner past own) took.did.ran

-- ---- behind all that stood

-- entries of a later planner leave the turns of the earlier ones
had-earlier : (pit : Pit) (max_entries retries : ℕ) (opening history more own : List Answered) (k place : ℕ) (script : List Job) (run : RunState)
    → suc place ≤ k → drop (length opening) more ≡ drop (length opening) history ++ own → All (IsOf (suc k)) own
    → DidBehind pit max_entries retries (after_turns place opening history) script (1 + place) (entries_of (1 + place) (drop (length opening) history)) run
    → DidBehind pit max_entries retries (after_turns place opening more) script (1 + place) (entries_of (1 + place) (drop (length opening) more)) run
had-earlier pit max_entries retries opening history more own k place script run early is all did =
    let past = drop (length opening) history in
    let before : after_turns place opening more ≡ after_turns place opening history =
    ap (λ (es : List Answered). opening ++ es) (ap (entries_by_planner place) is ∙ by_planner-earlier place k past own (omega (arith, early)) all) in
    let mine : entries_of (1 + place) (drop (length opening) more) ≡ entries_of (1 + place) past = ap (entries_of (1 + place)) is ∙ entries_of-earlier (1 + place) k past own (omega (arith, early)) all in
    subst (λ (b : List Answered). DidBehind pit max_entries retries b script (1 + place) (entries_of (1 + place) (drop (length opening) more)) run) (sym before)
    (subst (λ (es : List Answered). DidBehind pit max_entries retries (after_turns place opening history) script (1 + place) es run) (sym mine) did)

-- one planner more, behind all of them
had-last : (pit : Pit) (max_entries retries : ℕ) (opening history more own : List Answered) (k place : ℕ) (script : List Job) (run : RunState)
    → place ≡ k → history ≡ after_turns k opening history → drop (length opening) more ≡ drop (length opening) history ++ own → All (IsOf (suc k)) own
    → run.planner ≡ suc k → RanFrom pit max_entries retries history (history ++ own) 1 script own run.jobs run.ended
    → DidBehind pit max_entries retries (after_turns place opening more) script (1 + place) (entries_of (1 + place) (drop (length opening) more)) run
had-last pit max_entries retries opening history more own k place script run here stood is all number ran =
    let past = drop (length opening) history in
    let turns : past ≡ entries_by_planner k past = ap (drop (length opening)) stood ∙ rest-is opening (entries_by_planner k past) in
    let few : All (IsUpTo k) past = subst (All (IsUpTo k)) (sym turns) (by_planner-up_to k past) in
    let planner : suc k ≡ 1 + place = omega (arith, here) in
    let before : after_turns place opening more ≡ history =
    ap (λ (n : ℕ). after_turns n opening more) here ∙ (ap (λ (es : List Answered). opening ++ es) (ap (entries_by_planner k) is ∙ by_planner-earlier k k past own (omega arith) all) ∙ sym stood) in
    let mine : entries_of (1 + place) (drop (length opening) more) ≡ own =
    ap (λ (n : ℕ). entries_of n (drop (length opening) more)) (sym planner) ∙ (ap (entries_of (suc k)) is ∙ entries_of-last k past own few all) in
    let did : DidBehind pit max_entries retries history script (1 + place) own run = record { of_run = number ∙ planner; ran = ran } in
    subst (λ (b : List Answered). DidBehind pit max_entries retries b script (1 + place) (entries_of (1 + place) (drop (length opening) more)) run) (sym before)
    (subst (λ (es : List Answered). DidBehind pit max_entries retries history script (1 + place) es run) (sym mine) did)

had-next : (pit : Pit) (max_entries retries : ℕ) (opening history more own : List Answered) (done : List (List Job)) (runs : List RunState) (script : List Job) (run : RunState)
    → HadTurns pit max_entries retries opening history done runs → history ≡ after_turns (length done) opening history → drop (length opening) more ≡ drop (length opening) history ++ own
    → All (IsOf (suc (length done))) own → run.planner ≡ suc (length done) → RanFrom pit max_entries retries history (history ++ own) 1 script own run.jobs run.ended
    → HadTurns pit max_entries retries opening more (done ++ script ∷ []) (runs ++ run ∷ [])
had-next pit max_entries retries opening history more own done runs script run had stood is all number ran = record {
  many = omega (arith, had.many, length-append runs (run ∷ []), length-append done (script ∷ []));
  each = λ place s at.
      elim (leb_tells (length done) place) [
        | inl late ↦
            let back = get-back done (script ∷ []) place s late.1 at in
            let within : back.0 < 1 = slice_get_within (script ∷ []) back.0 s back.2 in
            let none : back.0 ≡ 0 = omega (arith, within) in
            let here : place ≡ length done = omega (arith, back.1, none) in
            let same : script ≡ s = let first = subst (λ (m : ℕ). slice_get (script ∷ []) m ≡ Some s) none back.2 in cc first in
            let there : slice_get (runs ++ run ∷ []) place ≡ Some run =
            subst (λ (n : ℕ). slice_get (runs ++ run ∷ []) n ≡ Some run) (had.many ∙ sym here) (get-last runs run) in
            let did = had-last pit max_entries retries opening history more own (length done) place script run here stood is all number ran in
            let own_es = entries_of (1 + place) (drop (length opening) more) in
            (run, there, subst (λ (t : List Job). DidBehind pit max_entries retries (after_turns place opening more) t (1 + place) own_es run) same did)
        | inr early ↦
            let less : place < length done = omega (arith, early.1) in
            let before = had.each place s (get-front done (script ∷ []) place s less at) in (
              before.0,
              get-more runs (run ∷ []) place before.0 before.1,
              had-earlier pit max_entries retries opening history more own (length done) place s before.0 (omega (arith, less)) is all before.2,
            )
      ];
}

-- ---- turn after turn

pub in-turn-none : (retries planners : ℕ) (desk : State) → IsDeskKept desk → DidInTurn desk.plan.pit desk.history desk.max_entries retries planners [] desk []
in-turn-none retries planners desk kept = record {
  kept = kept;
  goes_on = goes-on-none planners desk;
  did = tt;
  started = All-nil (λ run. run.ended ≢ end.NoThread);
  in_turn = record { turns = sym (append-nil desk.history) };
  had_turns = record { many = refl; each = λ place script at. absurd (cc at) };
}

pub in-turn-next : (pit : Pit) (opening : List Answered) (max_entries retries planners : ℕ) (done : List (List Job)) (desk : State) (runs : List RunState) (script : List Job) (next : State) (run : RunState)
    → DidInTurn pit opening max_entries retries planners done desk runs → length done < planners → IsTurn pit desk.history max_entries planners retries (suc (length done)) script next run
    → DidInTurn pit opening max_entries retries planners (done ++ script ∷ []) next (runs ++ run ∷ [])
in-turn-next pit opening max_entries retries planners done desk runs script next run so_far less turn =
    let k = length done in
    let past = drop (length opening) desk.history in
    let own = drop (length desk.history) next.history in
    let all : All (IsOf (suc k)) own = turn-own pit desk.history max_entries planners retries (suc k) script next run turn.logs turn.closed turn.took in
    let seen = turn.took.log.seen in
    let ran : RanFrom pit max_entries retries desk.history seen 1 script own run.jobs run.ended = turn-ran pit desk.history max_entries planners retries (suc k) script next run turn (omega arith, omega (arith, less)) in
    let on = goes-on-on pit opening max_entries planners desk next so_far.goes_on turn.closed.goes_on in
    let parts = past-on opening desk.history next.history so_far.goes_on.begins turn.closed.goes_on.begins in
    let turns : past ≡ entries_by_planner k past = ap (drop (length opening)) so_far.in_turn.turns ∙ rest-is opening (entries_by_planner k past) in
    let few : All (IsUpTo k) past = subst (All (IsUpTo k)) (sym turns) (by_planner-up_to k past) in
    let mine : own ≡ entries_of (suc k) (past ++ own) = sym (entries_of-last k past own few all) in
    let number : suc k ≡ 1 + k = omega arith in
    let begins = begins-prefix desk.history next.history turn.closed.goes_on.begins in
    let shown = All-contains (λ log. IsPrefix log.seen next.history) turn.logs turn.took.log turn.closed.seen turn.took.among in
    let begun = all-from pit max_entries retries 1 opening desk.history seen script own run.jobs run.ended (begins-prefix opening desk.history so_far.goes_on.begins) ran in
    let whole = all-on pit max_entries retries 1 opening seen next.history script own run.jobs run.ended shown begun in
    let there = mine ∙ ap (entries_of (suc k)) (sym on.1) in
    let last : RanScript pit max_entries retries opening next.history script (suc k) (entries_of (suc k) (drop (length opening) next.history)) run =
    record { number = turn.took.did.of_run; ran = inl (subst (λ (es : List Answered). RanFrom pit max_entries retries opening next.history 1 script es run.jobs run.ended) there whole) } in
    let before = did-earlier pit max_entries retries opening desk.history next.history own 1 k done runs (omega arith) all on.1 begins so_far.did in
    let all_own : RanFrom pit max_entries retries desk.history (desk.history ++ own) 1 script own run.jobs run.ended =
    subst (λ (es : List Answered). RanFrom pit max_entries retries desk.history es 1 script own run.jobs run.ended) parts.1
    (all-on pit max_entries retries 1 desk.history seen next.history script own run.jobs run.ended shown ran) in
    let had = had-next pit max_entries retries opening desk.history next.history own done runs script run so_far.had_turns so_far.in_turn.turns on.1 all turn.took.did.of_run all_own in
    let more = did-more pit max_entries retries opening next.history 1 done runs script run before
    (subst (λ (n : ℕ). RanScript pit max_entries retries opening next.history script n (entries_of n (drop (length opening) next.history)) run) number last) in
    let many : suc k ≡ length (done ++ script ∷ []) = omega (arith, length-append done (script ∷ [])) in
    let by_planner : past ++ own ≡ entries_by_planner (suc k) (past ++ own) = by_planner-next k past own turns all in
    let in_order : drop (length opening) next.history ≡ entries_by_planner (length (done ++ script ∷ [])) (drop (length opening) next.history) =
    subst (λ (n : ℕ). drop (length opening) next.history ≡ entries_by_planner n (drop (length opening) next.history)) many
    (subst (λ (es : List Answered). es ≡ entries_by_planner (suc k) es) (sym on.1) by_planner) in
    record {
      kept = turn.closed.kept;
      goes_on = on.0;
      did = more;
      started = All-push (λ run. run.ended ≢ end.NoThread) runs run so_far.started (ran-not-without pit max_entries retries 1 desk.history seen script own run.jobs run.ended ran);
      in_turn = record { turns = parts.0 ∙ ap (λ (es : List Answered). opening ++ es) (sym on.1 ∙ in_order) };
      had_turns = had;
    }

-- a desk that goes on has the opening one's pit and limit
pub in-turn-at : (pit : Pit) (opening : List Answered) (max_entries retries planners n k : ℕ) (scripts : List (List Job)) (desk : State) (runs more : List RunState) (next : State) (run : RunState)
    → DidInTurn pit opening max_entries retries planners (take k scripts) desk runs → k < length scripts → length scripts ≡ planners → n ≡ k + 1 → more ≡ runs ++ run ∷ []
    → IsTurn desk.plan.pit desk.history desk.max_entries planners retries (k + 1) (get_or scripts k []) next run
    → DidInTurn pit opening max_entries retries planners (take n scripts) next more
in-turn-at pit opening max_entries retries planners n k scripts desk runs more next run so_far less many is added turn =
    let script = get_or scripts k [] in
    let done : length (take k scripts) ≡ k = omega (arith, length-take k scripts, less) in
    let number : k + 1 ≡ suc (length (take k scripts)) = omega (arith, done) in
    let here = subst (λ (p : Pit). IsTurn p desk.history desk.max_entries planners retries (k + 1) script next run) so_far.goes_on.same_pit turn in
    let there = subst (λ (m : ℕ). IsTurn pit desk.history m planners retries (k + 1) script next run) so_far.goes_on.limit here in
    let took = subst (λ (p : ℕ). IsTurn pit desk.history max_entries planners retries p script next run) number there in
    let all = in-turn-next pit opening max_entries retries planners (take k scripts) desk runs script next run so_far (omega (arith, done, less, many)) took in
    let front : take n scripts ≡ take k scripts ++ script ∷ [] = ap (λ (m : ℕ). take m scripts) (is ∙ add-one k) ∙ take-suc scripts k [] less in
    rw (front, added) all

pub in-turn-unclosed : (pit : Pit) (opening : List Answered) (max_entries retries planners k : ℕ) (scripts : List (List Job)) (desk : State) (runs : List RunState) (cause : CloseError)
    → DidInTurn pit opening max_entries retries planners (take k scripts) desk runs → k < length scripts → length scripts ≡ planners
    → IsUnclosedTurn desk.plan.pit desk.history desk.max_entries planners retries (k + 1) (get_or scripts k []) cause
    → IsTurnUnclosed pit opening max_entries retries scripts (k + 1) cause
in-turn-unclosed pit opening max_entries retries planners k scripts desk runs cause so_far less many unclosed =
    let script = get_or scripts k [] in
    let here = subst (λ (p : Pit). IsUnclosedTurn p desk.history desk.max_entries planners retries (k + 1) script cause) so_far.goes_on.same_pit unclosed in
    let there = subst (λ (m : ℕ). IsUnclosedTurn pit desk.history m planners retries (k + 1) script cause) so_far.goes_on.limit here in
    record {
      place = k;
      script = script;
      number = omega arith;
      at = slice_get-get_or scripts k [] less;
      left = desk;
      before = runs;
      did_before = subst (λ (p : ℕ). DidInTurn pit opening max_entries retries p (take k scripts) desk runs) (sym many) so_far;
      logs = there.logs;
      run = there.run;
      took = there.took;
      whole = subst (λ (p : ℕ). HasEachLog p there.logs) (sym many) there.whole;
      refused = subst (λ (p : ℕ). IsCloseError pit desk.history max_entries p there.logs cause) (sym many) there.refused;
    }

pub in-turn-error : (pit : Pit) (opening : List Answered) (max_entries retries planners k : ℕ) (scripts : List (List Job)) (desk : State) (runs : List RunState) (why : InTurnError)
    → DidInTurn pit opening max_entries retries planners (take k scripts) desk runs → k < length scripts → length scripts ≡ planners → IsPlannerCount planners
    → IsTurnError desk.plan.pit desk.history desk.max_entries planners retries (k + 1) (get_or scripts k []) why → IsInTurnError pit opening max_entries retries scripts why
in-turn-error pit opening max_entries retries planners k scripts desk runs error.PlannerCount so_far less many count err = absurd (err count)
in-turn-error pit opening max_entries retries planners k scripts desk runs error.NoPlace so_far less many count err = subst IsPlannerCount (sym many) count
in-turn-error pit opening max_entries retries planners k scripts desk runs error.NoMemory so_far less many count err = subst IsPlannerCount (sym many) count
in-turn-error pit opening max_entries retries planners k scripts desk runs (error.NotClosed who cause) so_far less many count err =
    let unclosed = in-turn-unclosed pit opening max_entries retries planners k scripts desk runs cause so_far less many err.1 in
    (subst IsPlannerCount (sym many) count, subst (λ (p : ℕ). IsTurnUnclosed pit opening max_entries retries scripts p cause) (sym err.0) unclosed)

-- ---- the logs that are handed in

has_log-front : (q : ℕ) (front back : List PlannerState) → has_log q front ≡ true → has_log q (front ++ back) ≡ true
has_log-front q [] back has = absurd (cc has)
has_log-front q (x ∷ front) back has = by (x.number == q) has (has_log-front q front back)
  where
    by : (b : Bool) → (b || has_log q front) ≡ true → (has_log q front ≡ true → has_log q (front ++ back) ≡ true) → (b || has_log q (front ++ back)) ≡ true
    by true has more = refl
    by false has more = more has

has_log-last : (q : ℕ) (front : List PlannerState) (log : PlannerState) → log.number ≡ q → has_log q (front ++ log ∷ []) ≡ true
has_log-last q [] log same = by (log.number == q) refl
  where
    by : (b : Bool) → (log.number == q) ≡ b → (b || false) ≡ true
    by true is = refl
    by false is = absurd (grind (arith, nat_tests, is, same))
has_log-last q (x ∷ front) log same = by (x.number == q) (has_log-last q front log same)
  where
    by : (b : Bool) → has_log q (front ++ log ∷ []) ≡ true → (b || has_log q (front ++ log ∷ [])) ≡ true
    by true more = refl
    by false more = more

-- a log is added for the last seat
pub one-handed-in : (q : ℕ) (logs : List PlannerState) (log : PlannerState) (seats : List ℕ) (seat : ℕ) → log.number ≡ seat → (has_log q logs ≡ true) ⊎ Contains (seats ++ seat ∷ []) q
    → (has_log q (logs ++ log ∷ []) ≡ true) ⊎ Contains seats q
one-handed-in q logs log seats seat number (inl has) = inl (has_log-front q logs (log ∷ []) has)
one-handed-in q logs log seats seat number (inr among) = by (Contains-push_cases seats seat q among)
  where
    by : Contains seats q ⊎ (seat ≡ q) → (has_log q (logs ++ log ∷ []) ≡ true) ⊎ Contains seats q
    by (inl left) = inr left
    by (inr same) = inl (has_log-last q logs log (number ∙ same))

-- what is in a list is still there without one of its places, or stands at that
left-or-taken : (xs : List ℕ) (k x : ℕ) → k < length xs → Contains xs x → Contains (take k xs ++ drop (suc k) xs) x ⊎ (get_or xs k 0 ≡ x)
left-or-taken [] k x less among = absurd (omega (arith, less))
left-or-taken (y ∷ ys) zero x less among = by (Contains-append_cases (y ∷ []) ys x among)
  where
    by : Contains (y ∷ []) x ⊎ Contains ys x → Contains ys x ⊎ (y ≡ x)
    by (inl c) = one (Contains-push_cases [] y x c)
      where
        one : Contains [] x ⊎ (y ≡ x) → Contains ys x ⊎ (y ≡ x)
        one (inl none) = absurd (omega (arith, none.1))
        one (inr same) = inr same
    by (inr c) = inl c
left-or-taken (y ∷ ys) (suc k) x less among = by (Contains-append_cases (y ∷ []) ys x among) (left-or-taken ys k x (omega (arith, less)))
  where
    rest : List ℕ
    rest = take k ys ++ drop (suc k) ys

    deeper : Contains rest x ⊎ (get_or ys k 0 ≡ x) → Contains (y ∷ rest) x ⊎ (get_or ys k 0 ≡ x)
    deeper (inl c) = inl (Contains-append_right (y ∷ []) rest x c)
    deeper (inr same) = inr same

    by : Contains (y ∷ []) x ⊎ Contains ys x → (Contains ys x → Contains rest x ⊎ (get_or ys k 0 ≡ x)) → Contains (y ∷ rest) x ⊎ (get_or ys k 0 ≡ x)
    by (inl c) more = inl (Contains-append_left (y ∷ []) rest x c)
    by (inr c) more = deeper (more c)

-- those of all seats but one, and behind them that of this one
pub handed-in : (seats : List ℕ) (k : ℕ) (front : List PlannerState) (log : PlannerState) → AreSeats (length seats) seats → k < length seats → log.number ≡ k + 1
    → ((q : ℕ) → Contains (take k seats ++ drop (k + 1) seats) q → has_log q front ≡ true) → HasEachLog (length seats) (front ++ log ∷ [])
handed-in seats k front log are less number others = record { each = each }
  where
    each : (q : ℕ) → IsPlanner (length seats) q → has_log q (front ++ log ∷ []) ≡ true
    each zero one = absurd (omega (arith, one.0))
    each (suc i) one =
        let below : i < length seats = omega (arith, one.1) in
        let at : get_or seats i 0 ≡ suc i = are.each i below ∙ add-one i in
        by (left-or-taken seats k (suc i) less (subst (Contains seats) at (Contains-get_or seats i 0 below)))
      where
        by : Contains (take k seats ++ drop (suc k) seats) (suc i) ⊎ (get_or seats k 0 ≡ suc i) → has_log (suc i) (front ++ log ∷ []) ≡ true
        by (inl c) = has_log-front (suc i) front (log ∷ []) (others (suc i) (subst (λ (n : ℕ). Contains (take k seats ++ drop n seats) (suc i)) (sym (add-one k)) c))
        by (inr same) = has_log-last (suc i) front log (number ∙ sym (are.each k less) ∙ same)

-- ---- what that reports

abbrev logs_of : ℕ → List Answered → List PlannerState
logs_of zero past = []
logs_of (suc k) past = planner_of (suc k) (entries_of (suc k) past) [] ∷ logs_of k past

logs_of-count : (k : ℕ) (past : List Answered) → length (entries_by_planner k past) ≡ entries_in (logs_of k past)
logs_of-count zero past = refl
logs_of-count (suc k) past = omega (arith, length-append (entries_by_planner k past) (entries_of (suc k) past), logs_of-count k past)

logs_of-each : (k : ℕ) (past : List Answered) (q : ℕ) → IsPlanner k q → has_log q (logs_of k past) ≡ true
logs_of-each zero past q one = absurd (omega (arith, one.0, one.1))
logs_of-each (suc k) past q one = by (suc k == q) refl (logs_of-each k past q)
  where
    by : (b : Bool) → (suc k == q) ≡ b → (IsPlanner k q → has_log q (logs_of k past) ≡ true) → (b || has_log q (logs_of k past)) ≡ true
    by true is rest = refl
    by false is rest =
        let differs : suc k ≢ q = λ same. absurd (grind (arith, nat_tests, is, same)) in
        rest (one.0, omega (arith, one.1, differs))

logs_of-logged : (k : ℕ) (past : List Answered) → All (λ log. entries_of log.number past ≡ log.items) (logs_of k past)
logs_of-logged zero past = All-nil (λ log. entries_of log.number past ≡ log.items)
logs_of-logged (suc k) past =
    All-cons (λ log. entries_of log.number past ≡ log.items) (planner_of (suc k) (entries_of (suc k) past) []) (logs_of k past) refl (logs_of-logged k past)

logs_of-seen : (k : ℕ) (past history : List Answered) → All (λ log. IsPrefix log.seen history) (logs_of k past)
logs_of-seen zero past history = All-nil (λ log. IsPrefix log.seen history)
logs_of-seen (suc k) past history =
    All-cons (λ log. IsPrefix log.seen history) (planner_of (suc k) (entries_of (suc k) past) []) (logs_of k past) (history, refl) (logs_of-seen k past history)

pub in-turn-report : (pit : Pit) (opening : List Answered) (max_entries retries : ℕ) (scripts : List (List Job)) (desk : State) (runs : List RunState)
    → DidInTurn pit opening max_entries retries (length scripts) scripts desk runs → IsReport pit opening max_entries retries scripts desk runs
in-turn-report pit opening max_entries retries scripts desk runs all =
    let n = length scripts in
    let past = drop (length opening) desk.history in
    let many : length desk.history ≡ length opening + length (entries_by_planner n past) = ap length all.in_turn.turns ∙ length-append opening (entries_by_planner n past) in
    record {
      logs = logs_of n past;
      closed = record {
        kept = all.kept;
        goes_on = all.goes_on;
        count = omega (arith, many, logs_of-count n past);
        whole = record { each = logs_of-each n past };
        seen = logs_of-seen n past desk.history;
        logged = record {
          each = λ q one. record {
            each = λ log among same.
                subst (λ (m : ℕ). entries_of m past ≡ log.items) same (All-contains (λ log. entries_of log.number past ≡ log.items) (logs_of n past) log (logs_of-logged n past) among);
          };
        };
      };
      did = all.did;
    }

use Rattle.std.proofs.lemmas.List.{length-map}
use Rattle.std.proofs.lemmas.Result.{IfOk-weaker}
use Rattle.std.proofs.Common.{◌≡◌, ℕ, List, length, map, true≢false, refl, sym, subst}
use Rattle.pit_script.specs.Jobs.{Job}
use Rattle.pit_share.specs.Opening.{IsPlannerCount}
use Rattle.pit_run.specs.Reports.{IsReport}
use Rattle.pit_run.specs.Turns.{AllStarted, IsInTurn, HadTurns, DidInTurn}
use Rattle.pit_run.proofs.Turns.{in-turn-report}
use Rattle.pit_run.proofs.in_turn.run_in_turn.Goals as goal

pub returns-clause-ok : goal.returns-clause-ok
returns-clause-ok g c =
    let desk = c.args.desk in
    let scripts = c.args.scripts.now in
    let jobs = map {B = List Job} (λ script. script.jobs) scripts in
    let many : length jobs ≡ length scripts = length-map scripts _ in
    IfOk-weaker c.turns.result (λ report. DidInTurn desk.plan.pit desk.history desk.max_entries c.args.retries (length scripts) jobs report.closed report.runs.items)
    (λ report. IsReport desk.plan.pit desk.history desk.max_entries c.args.retries jobs report.closed report.runs.items)
    (λ report did.
    in-turn-report desk.plan.pit desk.history desk.max_entries c.args.retries jobs report.closed report.runs.items
    (subst (λ (n : ℕ). DidInTurn desk.plan.pit desk.history desk.max_entries c.args.retries n jobs report.closed report.runs.items) (sym many) did))
    c.turns.ensures.ok

pub returns-clause-in_turn : goal.returns-clause-in_turn
returns-clause-in_turn g c =
    let desk = c.args.desk in
    let scripts = c.args.scripts.now in
    let jobs = map {B = List Job} (λ script. script.jobs) scripts in
    let many : length jobs ≡ length scripts = length-map scripts _ in
    IfOk-weaker c.turns.result (λ report. DidInTurn desk.plan.pit desk.history desk.max_entries c.args.retries (length scripts) jobs report.closed report.runs.items)
    (λ report. IsInTurn (length scripts) desk.history report.closed.history)
    (λ report did. subst (λ (n : ℕ). IsInTurn n desk.history report.closed.history) many did.in_turn) c.turns.ensures.ok

pub returns-clause-had_turns : goal.returns-clause-had_turns
returns-clause-had_turns g c =
    let desk = c.args.desk in
    let scripts = c.args.scripts.now in
    let jobs = map {B = List Job} (λ script. script.jobs) scripts in
    IfOk-weaker c.turns.result (λ report. DidInTurn desk.plan.pit desk.history desk.max_entries c.args.retries (length scripts) jobs report.closed report.runs.items)
    (λ report. HadTurns desk.plan.pit desk.max_entries c.args.retries desk.history report.closed.history jobs report.runs.items) (λ report did. did.had_turns) c.turns.ensures.ok

pub returns-clause-started : goal.returns-clause-started
returns-clause-started g c =
    let desk = c.args.desk in
    let scripts = c.args.scripts.now in
    let jobs = map {B = List Job} (λ script. script.jobs) scripts in
    IfOk-weaker c.turns.result (λ report. DidInTurn desk.plan.pit desk.history desk.max_entries c.args.retries (length scripts) jobs report.closed report.runs.items)
    (λ report. AllStarted report.runs.items) (λ report did. did.started) c.turns.ensures.ok

pub returns-clause-count : goal.returns-clause-count
returns-clause-count g c =
    let desk = c.args.desk in
    let scripts = c.args.scripts.now in
    let jobs = map {B = List Job} (λ script. script.jobs) scripts in
    let count : IsPlannerCount (length scripts) = c.if-not-is_planner_count.ensures.0 refl in
    IfOk-weaker c.turns.result (λ report. DidInTurn desk.plan.pit desk.history desk.max_entries c.args.retries (length scripts) jobs report.closed report.runs.items) (λ report. IsPlannerCount (length scripts))
    (λ report did. count) c.turns.ensures.ok

pub turns-requires-clause-count : goal.turns-requires-clause-count
turns-requires-clause-count g c κs lives = c.if-not-is_planner_count.ensures.0 refl

pub returns-then-not-is_planner_count-clause-err : goal.returns-then-not-is_planner_count-clause-err
returns-then-not-is_planner_count-clause-err g c = λ count.
    let many : length (map {B = List Job} (λ script. script.jobs) c.args.scripts.now) ≡ length c.args.scripts.now = length-map c.args.scripts.now _ in
    true≢false (sym (c.if-not-is_planner_count.ensures.1 (subst IsPlannerCount many count)))

pub returns-in_default-clause-err : goal.returns-in_default-clause-err
returns-in_default-clause-err g c =
    let many : length (map {B = List Job} (λ script. script.jobs) c.args.scripts.now) ≡ length c.args.scripts.now = length-map c.args.scripts.now _ in
    subst IsPlannerCount (sym many) (c.if-not-is_planner_count.ensures.0 refl)

pub invariant_of-runner : goal.invariant_of-runner
invariant_of-runner g c = c.requires.few

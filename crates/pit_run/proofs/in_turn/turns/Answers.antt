use Rattle.std.proofs.lemmas.List.{length-map, take_all}
use Rattle.std.proofs.Common.{rules, ◌≡◌, ◌∙◌, ◌+◌, ◌<◌, ◌≤◌, ◌∷◌, ◌++◌, [], List, length, map, take, length-append, refl, sym, ap, subst, arith}
use Rattle.pit_desk.specs.State.{State}
use Rattle.pit_script.specs.Jobs.{Job}
use Rattle.pit_run.specs.Reports.{RunState}
use Rattle.pit_run.specs.Turns.{DidInTurn}
use Rattle.pit_run.proofs.Turns.{in-turn-none, in-turn-at, in-turn-error}
use Rattle.pit_run.proofs.in_turn.turns.Goals as goal

pub returns-in-Err-clause-err : goal.returns-in-Err-clause-err
returns-in-Err-clause-err g c =
    let desk = c.args.desk in
    let scripts = c.args.runner.now.scripts in
    let planners = length scripts in
    let jobs = map {B = List Job} (λ script. script.jobs) scripts in
    let many : length jobs ≡ planners = length-map scripts _ in
    in-turn-error desk.plan.pit desk.history desk.max_entries c.args.runner.now.retries planners 0 jobs desk [] c.in-Err.error (in-turn-none c.args.runner.now.retries planners desk c.shows_kept.ensures)
    (omega (arith, many, c.requires.count.0)) many c.requires.count c.in-Err.ensures.err

pub loop-k-init : goal.loop-k-init
loop-k-init g c =
    let desk = c.args.desk in
    let scripts = c.args.runner.now.scripts in
    let planners = length scripts in
    let jobs = map {B = List Job} (λ script. script.jobs) scripts in
    let many : length jobs ≡ planners = length-map scripts _ in
    let run = c.in-Ok.turn.1 in
    let runs : List RunState = c.push_run.new.runs.items in
    let added : runs ≡ run ∷ [] = c.push_run.ensures.items ∙ ap (λ (rs : List RunState). rs ++ run ∷ []) c.requires.none in
    record {
      many = ap (λ (rs : List RunState). length rs) added;
      room = omega (arith, c.requires.room, c.push_run.ensures.room);
      did = in-turn-at desk.plan.pit desk.history desk.max_entries c.args.runner.now.retries planners 1 0 jobs desk [] runs c.in-Ok.turn.0 run (in-turn-none c.args.runner.now.retries planners desk c.shows_kept.ensures)
          (omega (arith, many, c.requires.count.0)) many refl added c.in-Ok.ensures.ok;
    }

pub turn-requires-in-loop-k-clause-pit : goal.turn-requires-in-loop-k-clause-pit
turn-requires-in-loop-k-clause-pit g c κs within =
    let same = ap (λ (d : State). d.plan.pit) c.into_desk.ensures ∙ c.loop-k.invariant.did.goes_on.same_pit in
    λ k d less. c.requires.pit k d less ∙ sym same

pub returns-in-Err-turn-clause-err : goal.returns-in-Err-turn-clause-err
returns-in-Err-turn-clause-err g c =
    let desk = c.args.desk in
    let scripts = c.args.runner.now.scripts in
    let planners = length scripts in
    let jobs = map {B = List Job} (λ script. script.jobs) scripts in
    let many : length jobs ≡ planners = length-map scripts _ in
    let k = c.loop-k.k in
    let below : k < planners = search rules in
    let runs : List RunState = c.loop-k.runs.items in
    let did = subst (λ (left : State). DidInTurn desk.plan.pit desk.history desk.max_entries c.args.runner.now.retries planners (take k jobs) left runs) (sym c.into_desk.ensures) c.loop-k.invariant.did in
    in-turn-error desk.plan.pit desk.history desk.max_entries c.args.runner.now.retries planners k jobs c.into_desk.result runs c.in-Err-turn.error did
    (omega (arith, many, below)) many c.requires.count c.in-Err-turn.ensures.err

pub loop-k-preserved : goal.loop-k-preserved
loop-k-preserved g c =
    let desk = c.args.desk in
    let scripts = c.args.runner.now.scripts in
    let planners = length scripts in
    let jobs = map {B = List Job} (λ script. script.jobs) scripts in
    let many : length jobs ≡ planners = length-map scripts _ in
    let k = c.loop-k.k in
    let below : k < planners = search rules in
    let was : List RunState = c.loop-k.runs.items in
    let run = c.in-Ok-turn.turn.1 in
    let runs : List RunState = c.push_run-in-loop-k.new.runs.items in
    let added : runs ≡ was ++ run ∷ [] = c.push_run-in-loop-k.ensures.items in
    let did = subst (λ (left : State). DidInTurn desk.plan.pit desk.history desk.max_entries c.args.runner.now.retries planners (take k jobs) left was) (sym c.into_desk.ensures) c.loop-k.invariant.did in
    record {
      many = omega (arith, ap (λ (rs : List RunState). length rs) added, length-append was (run ∷ []), c.loop-k.invariant.many);
      room = omega (arith, c.loop-k.invariant.room, c.push_run-in-loop-k.ensures.room);
      did = in-turn-at desk.plan.pit desk.history desk.max_entries c.args.runner.now.retries planners (k + 1) k jobs c.into_desk.result was runs c.in-Ok-turn.turn.0 run did
          (omega (arith, many, below)) many refl added c.in-Ok-turn.ensures.ok;
    }

pub returns-clause-ok : goal.returns-clause-ok
returns-clause-ok g c =
    let desk = c.args.desk in
    let scripts = c.args.runner.now.scripts in
    let planners = length scripts in
    let jobs = map {B = List Job} (λ script. script.jobs) scripts in
    let many : length jobs ≡ planners = length-map scripts _ in
    let k = c.loop-k.k in
    let all : planners ≤ k = search rules in
    subst (λ (done : List (List Job)). DidInTurn desk.plan.pit desk.history desk.max_entries c.args.runner.now.retries planners done c.loop-k.closed c.loop-k.runs.items)
    (take_all k jobs (omega (arith, many, all))) c.loop-k.invariant.did

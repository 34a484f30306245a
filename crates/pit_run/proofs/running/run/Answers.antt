use Rattle.std.proofs.Common.{◌≡◌, ℕ, List, map, length, rules, arith, sym, ap, ◌∙◌, subst}
use Rattle.std.proofs.lemmas.List.{length-map}
use Rattle.pit_script.specs.Jobs.{Job}
use Rattle.pit_share.specs.Planners.{PlannerState}
use Rattle.pit_share.specs.Opening.{AreSeats}
use Rattle.pit_share.specs.Closing.{IsClosed, IsCloseError}
use Rattle.pit_run.specs.Reports.{AllRan, IsUnclosed}
use Rattle.pit_run.specs.Inside.Shared.{SharedState}
use Rattle.pit_run.proofs.Threading.{did}
use Rattle.pit_run.proofs.running.run.Goals as goal

pub returns-in-Ok-close-clause-ok : goal.returns-in-Ok-close-clause-ok
returns-in-Ok-close-clause-ok g c =
    let pit = g.S.Session.instance in
    let opening = g.S.Session.opening in
    let most = g.S.Session.max_entries in
    let scripts : List (List Job) = map (λ script. script.jobs) c.args.scripts.now in
    let logs = c.run_scoped-logs.result.0.items in
    let runs = c.run_scoped-logs.result.1.items in
    let ran : AllRan pit most c.args.retries opening 1 scripts logs runs = subst (λ (s : SharedState). AllRan pit most s.retries opening 1 s.scripts logs runs) c.new-shared.ensures c.run_scoped-logs.ensures in
    let many : length scripts ≡ g.S.Session.planners = length-map c.args.scripts.now _ ∙ c.requires.each in
    let closed : IsClosed pit opening most g.S.Session.planners logs c.in-Ok-close.closed = c.in-Ok-close.ensures.ok in
    let each : IsClosed pit opening most (length scripts) logs c.in-Ok-close.closed = subst (λ n. IsClosed pit opening most n logs c.in-Ok-close.closed) (sym many) closed in
    record { logs = logs; closed = each; did = did pit most c.args.retries opening c.in-Ok-close.closed.history scripts logs runs ran each.logged each.seen }

pub returns-in-Err-clause-err : goal.returns-in-Err-clause-err
returns-in-Err-clause-err g c =
    let pit = g.S.Session.instance in
    let opening = g.S.Session.opening in
    let most = g.S.Session.max_entries in
    let scripts : List (List Job) = map (λ script. script.jobs) c.args.scripts.now in
    let logs = c.run_scoped-logs.result.0.items in
    let runs = c.run_scoped-logs.result.1.items in
    let many : length scripts ≡ g.S.Session.planners = length-map c.args.scripts.now _ ∙ c.requires.each in
    let refused : IsCloseError pit opening most g.S.Session.planners logs c.in-Err.cause = c.in-Err.ensures.err in
    let unclosed : IsUnclosed pit opening most c.args.retries scripts logs c.in-Err.cause = record {
      runs = runs;
      ran = subst (λ (s : SharedState). AllRan pit most s.retries opening 1 s.scripts logs runs) c.new-shared.ensures c.run_scoped-logs.ensures;
      refused = subst (λ n. IsCloseError pit opening most n logs c.in-Err.cause) (sym many) refused;
    } in
    subst (λ (ls : List PlannerState). IsUnclosed pit opening most c.args.retries scripts ls c.in-Err.cause) (sym (λ i. (c.in-Err.ensures.logs i).items)) unclosed

pub run_scoped-logs-requires-after_bounds : goal.run_scoped-logs-requires-after_bounds
run_scoped-logs-requires-after_bounds g c κs within =
    let seats : List ℕ = c.args.seats.items in
    let many : length seats ≡ g.S.Session.planners = c.requires.seats.many in
    let scripts : length c.new-shared.result.scripts ≡ length c.args.scripts.now = ap (λ (s : SharedState). length s.scripts) c.new-shared.ensures ∙ length-map c.args.scripts.now _ in
    let long : c.len.result ≡ length seats = search rules in
    let long-2 : c.len-2.result ≡ length seats = search rules in
    record {
      numbered = subst (λ (n : ℕ). AreSeats n seats) (sym many) c.requires.seats;
      each = scripts ∙ c.requires.each ∙ sym many;
      no_log = c.in-Ok.ensures.items;
      no_run = c.in-Ok-with_capacity.ensures.items;
      room_for_logs = omega (arith, c.in-Ok.ensures.capacity, long);
      room_for_runs = omega (arith, c.in-Ok-with_capacity.ensures.capacity, long-2);
    }

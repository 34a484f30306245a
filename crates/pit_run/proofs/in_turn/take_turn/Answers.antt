use Rattle.std.proofs.lemmas.List.Elements.{All-nil, All-push, All-weaker, Contains-push}
use Rattle.std.proofs.lemmas.List.{get_or_default}
use Rattle.std.proofs.Common.{◌≡◌, ◌∙◌, ◌+◌, ◌∷◌, ◌++◌, [], ℕ, List, length, map, slice_index_or, inr, subst, sym}
use Rattle.std.specs.Prelude.{All, Contains, ◌≢◌}
use Rattle.pit_script.specs.Jobs.{Job}
use Rattle.pit_share.specs.Planners.{PlannerState}
use Rattle.pit_share.specs.Logs.{HasEachLog}
use Rattle.pit_run.specs.Turns.{DidScript}
use Rattle.pit_run.proofs.Turns.{handed-in}
use Rattle.pit_run.proofs.in_turn.take_turn.Goals as goal

pub returns-clause-took : goal.returns-clause-took
returns-clause-took g c =
    let planner = c.args.k + 1 in
    let front = c.finish_all.new.logs.items in
    let log = c.run_planner-log.result.0 in
    let run = c.run_planner-log.result.1 in
    let seats : List ℕ = c.args.seats.items in
    let number : c.remove-seat.result ≡ planner =
    c.remove-seat.ensures.value ∙ (get_or_default seats c.args.k c.remove-seat.result 0 c.requires.place ∙ c.requires.seats.each c.args.k c.requires.place) in
    let retries = c.args.runner.now.retries in
    let scripts = map {B = List Job} (λ script. script.jobs) c.args.runner.now.scripts in
    let its : DidScript g.S.Session.instance g.S.Session.max_entries retries g.S.Session.opening (slice_index_or scripts c.args.k []) c.remove-seat.result log run =
    subst (λ (script : List Job). DidScript g.S.Session.instance g.S.Session.max_entries retries g.S.Session.opening script c.remove-seat.result log run) c.script.ensures.jobs c.run_planner-log.ensures in
    let did : DidScript g.S.Session.instance g.S.Session.max_entries retries g.S.Session.opening (slice_index_or scripts c.args.k []) planner log run =
    subst (λ (n : ℕ). DidScript g.S.Session.instance g.S.Session.max_entries retries g.S.Session.opening (slice_index_or scripts c.args.k []) n log run) number its in
    let logs : c.push_log.new.logs.items ≡ front ++ log ∷ [] = c.push_log.ensures.items in
    let empty = All-weaker (λ other. other.items ≡ []) (λ other. other.number ≢ planner → other.items ≡ []) (λ other none differs. none) front (c.finish_all.ensures.empty (subst (λ (ls : List PlannerState). All (λ other. other.items ≡ []) ls) (sym c.requires.none) (All-nil (λ other. other.items ≡ [])))) in
    record {
      log = log;
      among = subst (λ (ls : List PlannerState). Contains ls log) (sym logs) (Contains-push front log);
      did = did;
      others = subst (λ (ls : List PlannerState). All (λ other. other.number ≢ planner → other.items ≡ []) ls) (sym logs)
          (All-push (λ other. other.number ≢ planner → other.items ≡ []) front log empty (λ differs. absurd (differs did.of_log)));
    }

pub returns-clause-each : goal.returns-clause-each
returns-clause-each g c =
    let seats : List ℕ = c.args.seats.items in
    let front = c.finish_all.new.logs.items in
    let log = c.run_planner-log.result.0 in
    let number : c.remove-seat.result ≡ c.args.k + 1 =
    c.remove-seat.ensures.value ∙ (get_or_default seats c.args.k c.remove-seat.result 0 c.requires.place ∙ c.requires.seats.each c.args.k c.requires.place) in
    let parts = c.remove-seat.ensures.by_index.2 in
    subst (λ (ls : List PlannerState). HasEachLog (length seats) ls) (sym c.push_log.ensures.items)
    (handed-in seats c.args.k front log c.requires.seats c.requires.place (c.run_planner-log.ensures.of_log ∙ number)
    (λ q among. c.finish_all.ensures.each q (inr (subst (λ (rest : List ℕ). Contains rest q) (sym parts) among))))

pub run_planner-log-requires-after_bounds : goal.run_planner-log-requires-after_bounds
run_planner-log-requires-after_bounds g c κs within = c.script.ensures.pit g.S.Session.instance c.requires.scripts

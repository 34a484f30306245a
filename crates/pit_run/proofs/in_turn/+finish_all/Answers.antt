use Rattle.std.proofs.lemmas.List.Elements.{All-push}
use Rattle.std.proofs.Common.{rules, ◌≡◌, ◌∷◌, ◌++◌, [], ℕ, true, List, subst, sym}
use Rattle.std.specs.Prelude.{All, Contains, ◌⊎◌}
use Rattle.pit_share.specs.Planners.{PlannerState}
use Rattle.pit_share.specs.Logs.{has_log}
use Rattle.pit_run.proofs.Turns.{one-handed-in}
use Rattle.pit_run.proofs.in_turn.+finish_all.Goals as goal

pub returns-clause-empty : goal.returns-clause-empty
returns-clause-empty g t c = λ all.
    let log = c.empty_log.result in
    c.finish_all.ensures.empty
    (subst (λ (ls : List PlannerState). All (λ l. l.items ≡ []) ls) (sym c.push_log.ensures.items) (All-push (λ l. l.items ≡ []) c.args.logs.now.items log all c.empty_log.ensures.none))

pub returns-clause-each : goal.returns-clause-each
returns-clause-each g t c = λ planner there.
    let log = c.empty_log.result in
    let seat : ℕ = c.in-Some.seat in
    let seats : c.args.seats.now.items ≡ c.pop.new.self.items ++ seat ∷ [] = search rules in
    let logs = sym c.push_log.ensures.items in
    let more = one-handed-in planner c.args.logs.now.items log c.pop.new.self.items seat c.empty_log.ensures.number (subst (λ (ss : List ℕ). (has_log planner c.args.logs.now.items ≡ true) ⊎ Contains ss planner) seats there) in
    c.finish_all.ensures.each planner (subst (λ (ls : List PlannerState). (has_log planner ls ≡ true) ⊎ Contains c.pop.new.self.items planner) logs more)

use Rattle.std.proofs.Common.{rules, ◌≡◌, ◌∙◌, ◌+◌, ◌<◌, ◌++◌, ◌∷◌, [], List, length, length-append, get_or, arith, ℕ, take, ap, subst}
use Rattle.std.proofs.lemmas.List.{get_or_default}
use Rattle.pit_share.specs.Planners.{PlannerState}
use Rattle.pit_share.specs.Opening.{AreSeats}
use Rattle.pit_run.specs.Reports.{RunState, AllRan, PlannerRan}
use Rattle.pit_run.specs.Inside.Runner.{RunnerState}
use Rattle.pit_run.specs.Inside.Shared.{SharedState}
use Rattle.pit_run.proofs.Threading.{ran-next, numbered-last, numbered-front}
use Rattle.pit_run.proofs.threads.+run_all.Goals as goal

pub returns-clause-ran : goal.returns-clause-ran
returns-clause-ran g t c =
    let k = length c.pop.new.self.items in
    let n = length c.args.seats.now.items in
    let shared = c.args.shared.now in
    let s = c.script-script.result.now.jobs in
    let is : n ≡ k + 1 = search rules in
    let at : c.len-k.result ≡ k = search rules in
    let here : s ≡ get_or shared.scripts k [] = subst (λ (m : ℕ). s ≡ get_or shared.scripts m []) at c.script-script.ensures.jobs in
    let less : k < length shared.scripts = omega (arith, is, c.requires.each) in
    let all : AllRan g.S.Session.instance g.S.Session.max_entries shared.retries g.S.Session.opening 1 (take k shared.scripts) c.run_all.new.logs.items c.run_all.new.runs.items = c.run_all.ensures.ran in
    let same : c.runner.inside.retries ≡ shared.retries = ap (λ (r : RunnerState). r.retries) c.runner.view_is ∙ ap (λ (s : SharedState). s.retries) c.shared.view_is in
    let last : PlannerRan g.S.Session.instance g.S.Session.max_entries shared.retries g.S.Session.opening s (c.len-k.result + 1) c.joined-log.result.0 c.joined-log.result.1 =
    subst (λ (retries : ℕ). PlannerRan g.S.Session.instance g.S.Session.max_entries retries g.S.Session.opening s (c.len-k.result + 1) c.joined-log.result.0 c.joined-log.result.1) same c.joined-log.ensures in
    ran-next g.S.Session.instance g.S.Session.max_entries shared.retries g.S.Session.opening n k shared.scripts c.run_all.new.logs.items c.push_log.new.logs.items c.run_all.new.runs.items c.push_run.new.runs.items
    s c.joined-log.result.0 c.joined-log.result.1 is less (here ∙ get_or_default shared.scripts k [] s less) all
    (subst (λ (m : ℕ). PlannerRan g.S.Session.instance g.S.Session.max_entries shared.retries g.S.Session.opening s m c.joined-log.result.0 c.joined-log.result.1) (omega (arith, is, at)) last)
    c.push_log.ensures.items c.push_run.ensures.items

pub start-started-requires-clause-number : goal.start-started-requires-clause-number
start-started-requires-clause-number g t c = λ κs lives.
    let rest = c.pop.new.self.items in
    let seat = c.in-Some.seat in
    let all : AreSeats (length (rest ++ seat ∷ [])) (rest ++ seat ∷ []) = subst (λ (xs : List ℕ). AreSeats (length xs) xs) c.in-Some.ensures.items c.requires.seats in
    let at : c.len-k.result ≡ length rest = search rules in
    let number = numbered-last rest seat all in
    omega (arith, number, at)

pub run_all-requires-clause-seats : goal.run_all-requires-clause-seats
run_all-requires-clause-seats g t c = λ κs lives.
    numbered-front c.pop.new.self.items c.in-Some.seat (subst (λ (xs : List ℕ). AreSeats (length xs) xs) c.in-Some.ensures.items c.requires.seats)

pub returns-clause-len : goal.returns-clause-len
returns-clause-len g t c =
    let is : length c.args.seats.now.items ≡ length c.pop.new.self.items + 1 = search rules in
    let logs : List PlannerState = c.run_all.new.logs.items in
    let runs : List RunState = c.run_all.new.runs.items in
    let log = c.joined-log.result.0 in
    let run = c.joined-log.result.1 in (
      omega (arith, ap (λ (ls : List PlannerState). length ls) c.push_log.ensures.items, length-append logs (log ∷ []), c.run_all.ensures.len.0, is),
      omega (arith, ap (λ (rs : List RunState). length rs) c.push_run.ensures.items, length-append runs (run ∷ []), c.run_all.ensures.len.1, is),
    )

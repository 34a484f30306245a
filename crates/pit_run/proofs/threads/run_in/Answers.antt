use Rattle.std.proofs.Common.{List, arith, subst}
use Rattle.std.proofs.lemmas.List.{take_all}
use Rattle.pit_script.specs.Jobs.{Job}
use Rattle.pit_run.specs.Reports.{AllRan}
use Rattle.pit_run.proofs.threads.run_in.Goals as goal

pub returns : goal.returns
returns g c =
    let shared = c.args.shared.now in
    subst (λ (ran : List (List Job)). AllRan g.S.Session.instance g.S.Session.max_entries shared.retries g.S.Session.opening 1 ran c.run_all.new.logs.items c.run_all.new.runs.items)
    (take_all _ shared.scripts (omega (arith, c.requires.each))) c.run_all.ensures.ran

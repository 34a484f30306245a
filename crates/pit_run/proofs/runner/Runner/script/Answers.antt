use Rattle.std.proofs.lemmas.List.{get_or-map}
use Rattle.std.proofs.Common.{rules, ◌≡◌, ◌∙◌, [], slice_index_or, sym, ap}
use Rattle.pit_script.specs.Scripts.{ScriptState}
use Rattle.pit_run.specs.Inside.Runner.{RunnerState}
use Rattle.pit_run.proofs.runner.Runner.script.Goals as goal

pub returns-clause-pit : goal.returns-clause-pit
returns-clause-pit g c = λ pit all.
    let script = c.index-scripts-k.result in
    let read : slice_index_or c.self.inside.scripts.now c.args.k script ≡ script = search rules in
    let same : slice_index_or c.args.self.now.scripts c.args.k script ≡ script = ap (λ (r : RunnerState). slice_index_or r.scripts c.args.k script) (sym c.self.view_is) ∙ read in
    ap (λ (s : ScriptState). s.pit) (sym same) ∙ all c.args.k script c.requires

pub returns-clause-jobs : goal.returns-clause-jobs
returns-clause-jobs g c =
    let scripts = c.args.self.now.scripts in
    let script = c.index-scripts-k.result in
    let read : slice_index_or c.self.inside.scripts.now c.args.k script ≡ script = search rules in
    let same : slice_index_or scripts c.args.k script ≡ script = ap (λ (r : RunnerState). slice_index_or r.scripts c.args.k script) (sym c.self.view_is) ∙ read in
    ap (λ (s : ScriptState). s.jobs) (sym same) ∙ sym (get_or-map (λ (s : ScriptState). s.jobs) scripts c.args.k script [] c.requires)

use Rattle.std.proofs.Common.{◌≡◌, All, map, take}
use Rattle.pit_step.specs.Steps.{each}
use Rattle.pit_cli.specs.Texts.{script_judged}
use Rattle.pit_cli.proofs.texts.each_script.Given as goal

abbrev pub invariant-loop-i : goal.invariant-loop-i
invariant-loop-i g l =
    (each (script_judged l.benches) 1 (take l.i (map (λ bytes. bytes.items) l.texts))).Gives tt (map (λ script. script.jobs) l.scripts.items)
    × All (λ script. script.pit ≡ l.benches) l.scripts.items

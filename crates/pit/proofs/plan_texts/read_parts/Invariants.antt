use Rattle.std.proofs.Common.{map}
use Rattle.pit.specs.PlanRun.{read_all}
use Rattle.pit.proofs.Reading.{known_of}
use Rattle.pit.proofs.plan_texts.read_parts.Given as goal

abbrev pub invariant-loop-file : goal.invariant-loop-file
invariant-loop-file g l = (read_all (map (known_of g.F.Read.remaining) l.yielded)).Gives tt (map (λ bytes. bytes.items) l.texts.items)

use Rattle.std.proofs.Common.{◌≡◌, length}
use Rattle.pit_file.specs.Inputs.{is_any}
use Rattle.pit_file.proofs.identity.is_among.Given as goal

abbrev pub invariant-loop-rest : goal.invariant-loop-rest
invariant-loop-rest l = is_any l.file l.rest ≡ is_any l.file l.inputs

abbrev pub decreases-loop-rest : goal.decreases-loop-rest
decreases-loop-rest l = length l.rest

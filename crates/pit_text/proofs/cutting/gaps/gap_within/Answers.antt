use Rattle.std.proofs.Common.{◌≤◌, not, take, length-take, arith}
use Rattle.std.proofs.lemmas.List.Sums.{prefix_len-le-length}
use Rattle.pit_text.specs.Cutting.{is_gap}
use Rattle.pit_text.proofs.GapMasks.{near}
use Rattle.pit_text.proofs.cutting.gaps.gap_within.Goals as goal

pub returns-then-run-lt-LANES-clause-place : goal.returns-then-run-lt-LANES-clause-place
returns-then-run-lt-LANES-clause-place c =
    omega (arith, near c.args.text.now 16 c.args.len c.run_in_lanes-run.result (omega arith) c.requires c.run_in_lanes-run.ensures (omega arith) (λ _. c.if-run-lt-LANES.true))

pub returns-then-len-le-LANES-clause-place : goal.returns-then-len-le-LANES-clause-place
returns-then-len-le-LANES-clause-place c =
    let most : c.run_in_lanes-run.result ≤ 16 = omega (arith, c.run_in_lanes-run.ensures, prefix_len-le-length (λ b. not (is_gap b)) (take 16 c.args.text.now), length-take 16 c.args.text.now) in
    omega (arith, near c.args.text.now 16 c.args.len c.run_in_lanes-run.result (omega arith) c.requires c.run_in_lanes-run.ensures most (λ less. omega arith))

use Rattle.std.proofs.Common.{rules, not, arith}
use Rattle.std.proofs.lemmas.List.Sums.{prefix_len-le-length}
use Rattle.pit_text.specs.Cutting.{is_gap}
use Rattle.pit_text.proofs.Cuts.{no_place}
use Rattle.pit_text.proofs.cutting.gaps.first_gap.Goals as goal

pub returns-in-None-clause-place : goal.returns-in-None-clause-place
returns-in-None-clause-place c = omega (arith, no_place is_gap c.args.text.now (search rules), prefix_len-le-length (λ b. not (is_gap b)) c.args.text.now)

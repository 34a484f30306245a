use Rattle.std.proofs.Common.{◌≡◌, sym, ap, ◌∙◌, arith, length, take, length-take}
use lib.Count.{count_trailing_zeros}
use Rattle.std.proofs.lemmas.Simd.{leading_from_mask_l, trailing_mask_l}
use Rattle.pit_text.specs.Cutting.{is_gap}
use Rattle.pit_text.proofs.GapMasks.{gap_mask}
use Rattle.pit_text.proofs.cutting.gaps.run_in_lanes.Goals as goal

pub returns-then-gaps-eq0 : goal.returns-then-gaps-eq0
returns-then-gaps-eq0 c =
    let v = take 16 c.args.text.now in
    let long : length (take 16 c.args.text.now) ≡ 16 = omega (arith, length-take 16 c.args.text.now) in
    let gaps = gap_mask v long in
    sym (leading_from_mask_l is_gap v (sym gaps ∙ c.if-gaps-eq0.true) ∙ long)

pub returns-else-gaps-eq0 : goal.returns-else-gaps-eq0
returns-else-gaps-eq0 c =
    let v = take 16 c.args.text.now in
    let long : length (take 16 c.args.text.now) ≡ 16 = omega (arith, length-take 16 c.args.text.now) in
    let gaps = gap_mask v long in
    ap (count_trailing_zeros 64) gaps ∙ trailing_mask_l is_gap 64 v (omega arith) (omega arith)

use Rattle.std.proofs.Common.{◌≡◌, sym, ap, ◌∙◌, arith, length, take, length-take}
use lib.Count.{count_trailing_zeros}
use Rattle.std.proofs.lemmas.Simd.{leading_from_mask_l, trailing_mask_l}
use Rattle.pit_num.proofs.EightLanes.{other, other_mask, digits_run, bytes_of, bytes-take}
use Rattle.pit_num.proofs.parse.eight.run_in_lanes.Goals as goal

pub returns-then-others-eq0 : goal.returns-then-others-eq0
returns-then-others-eq0 c =
    let v = take 8 c.args.text.now in
    let long : length (take 8 c.args.text.now) ≡ 8 = omega (arith, length-take 8 c.args.text.now) in
    sym (sym (digits_run v (bytes-take 8 _ (bytes_of _ c.type_inv.text))) ∙ leading_from_mask_l other v (sym (other_mask v long) ∙ c.if-others-eq0.true) ∙ long)

pub returns-else-others-eq0 : goal.returns-else-others-eq0
returns-else-others-eq0 c =
    let v = take 8 c.args.text.now in
    let long : length (take 8 c.args.text.now) ≡ 8 = omega (arith, length-take 8 c.args.text.now) in
    let mask = other_mask v long in
    ap (count_trailing_zeros 64) mask ∙ trailing_mask_l other 64 v (omega arith) (omega arith) ∙ digits_run v (bytes-take 8 _ (bytes_of _ c.type_inv.text))

use Rattle.std.proofs.Common.{eqb, sym, ap, ◌∙◌, arith, w8}
use lib.Count.{count_trailing_zeros}
use lib.Lanes.{chunk}
use Rattle.std.proofs.lemmas.Simd.{length-chunk, bitmask_splat, leading_from_mask_l, trailing_mask_l}
use Rattle.pit_text.proofs.cutting.feed.run_in_lanes.Goals as goal

pub returns-then-feeds-eq0 : goal.returns-then-feeds-eq0
returns-then-feeds-eq0 c =
    let v = chunk c.args.from 32 c.args.text.now in
    let long = length-chunk c.args.from 32 c.args.text.now c.requires in
    let feeds = bitmask_splat w8 eqb v 32 10 long (omega arith) in
    sym (leading_from_mask_l (λ b. eqb b 10) v (sym feeds ∙ c.if-feeds-eq0.true) ∙ long)

pub returns-else-feeds-eq0 : goal.returns-else-feeds-eq0
returns-else-feeds-eq0 c =
    let v = chunk c.args.from 32 c.args.text.now in
    let long = length-chunk c.args.from 32 c.args.text.now c.requires in
    let feeds = bitmask_splat w8 eqb v 32 10 long (omega arith) in
    ap (count_trailing_zeros 64) feeds ∙ trailing_mask_l (λ b. eqb b 10) 64 v (omega arith) (omega arith)

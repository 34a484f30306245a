use Rattle.std.proofs.Common.{◌≡◌, ap, ◌∙◌, arith, length, take, length-take, bit_xor}
use lib.ListN.{length-map}
use Rattle.std.proofs.lemmas.Simd.{zip2_splat}
use Rattle.std.specs.Int.{from_le_bytes}
use Rattle.std.proofs.Common.{w64}
use Rattle.pit_num.proofs.EightLanes.{value, word_is}
use Rattle.pit_num.proofs.parse.eight.word_of_lanes.Goals as goal

pub returns : goal.returns
returns c =
    let v = take 8 c.args.text.now in
    let long : length (take 8 c.args.text.now) ≡ 8 = omega (arith, length-take 8 c.args.text.now) in
    c.from_le_bytes.ensures ∙ ap (from_le_bytes w64) (zip2_splat bit_xor v 8 48 long) ∙ word_is _ (length-map v value ∙ long)

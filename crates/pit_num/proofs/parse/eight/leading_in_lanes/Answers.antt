use Rattle.std.proofs.Common.{◌≡◌, ◌*◌, ◌-◌, ◌%◌, ◌^◌, ◌≤◌, ap, ◌∙◌, arith, length, take, length-take}
use lib.Seq.{take-take}
use Rattle.std.proofs.lemmas.List.Sums.{prefix_len-le-length}
use Rattle.std.specs.Char.{is_ascii_digit}
use Rattle.std.specs.Str.Parse.{digits_value}
use Rattle.pit_num.proofs.EightLanes.{bytes_of, bytes-take, bytes_up, shifted_is}
use Rattle.pit_num.proofs.parse.eight.leading_in_lanes.Goals as goal

pub returns-clause-value : goal.returns-clause-value
returns-clause-value c =
    let text = c.args.text.now in
    let v = take 8 text in
    let count = c.run_in_lanes-count.result in
    let long : length (take 8 c.args.text.now) ≡ 8 = omega (arith, length-take 8 c.args.text.now) in
    let most : count ≤ 8 = omega (arith, c.run_in_lanes-count.ensures, prefix_len-le-length is_ascii_digit (take 8 c.args.text.now)) in
    let s = shifted_is v count _ (long, bytes-take 8 text (bytes_of text c.type_inv.text)) (omega (arith, c.run_in_lanes-count.ensures)) most
    (ap (λ w. w * 2 ^ (8 * (8 - count)) % 2 ^ 64) c.word_of_lanes.ensures ∙ bytes_up _ (8 - count) (omega arith)) in
    c.value_of_eight.ensures s.0 s.1.0 s.1.1 s.2 ∙ s.3 ∙ ap (digits_value 10) (take-take count 8 text most)

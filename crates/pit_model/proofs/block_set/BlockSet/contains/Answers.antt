use Rattle.std.proofs.Common.{◌≡◌, ◌≤◌, ◌/◌, ◌%◌, ◌∙◌, ◌==◌, ℕ, Bool, List, false, ap, sym, length, get_or, rules}
use Rattle.std.proofs.lemmas.List.{get_or_read}
use Rattle.std.specs.Int.{bit_at}
use Rattle.pit_model.proofs.BlockSets.{get_or-blocks_in, blocks_in-past}
use Rattle.pit_model.proofs.block_set.BlockSet.contains.Goals as goal

pub returns-then-b-len : goal.returns-then-b-len
returns-then-b-len g c =
    let words = c.self.inside.words.items in
    let past : length words ≤ c.args.b / 64 = search rules in
    sym (ap (λ (l : List Bool). get_or l c.args.b false) (sym c.self.view_is) ∙ blocks_in-past words c.args.b past)

pub returns : goal.returns
returns g c =
    let words = c.self.inside.words.items in
    let word : c.index.result.now ≡ get_or words (c.args.b / 64) 0 = get_or_read words (c.args.b / 64) c.index.result.now (search rules) c.index.ensures 0 in
    c.has_bit.ensures
    ∙ ap (λ (w : ℕ). bit_at w (c.args.b % 64) == 1) word
    ∙ sym (get_or-blocks_in words c.args.b)
    ∙ ap (λ (l : List Bool). get_or l c.args.b false) c.self.view_is

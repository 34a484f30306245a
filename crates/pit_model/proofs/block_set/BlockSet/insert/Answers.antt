use Rattle.std.proofs.Common.{◌≡◌, ◌<◌, ◌/◌, ◌%◌, ℕ, ap, length, get_or, subst, arith}
use Rattle.std.proofs.lemmas.List.{get_or_read}
use Rattle.pit_num.specs.Bits.{IsWithBit}
use Rattle.pit_model.proofs.BlockSets.{length-blocks_in, blocks_in-set}
use Rattle.pit_model.proofs.block_set.BlockSet.insert.Goals as goal

pub index-requires : goal.index-requires
index-requires g c = omega (arith, length-blocks_in c.self.inside.words.items, ap length c.self.view_is, c.self.inside.words.ok.0, c.requires)

pub index_mut-requires : goal.index_mut-requires
index_mut-requires g c = omega (arith, length-blocks_in c.self.inside.words.items, ap length c.self.view_is, c.self.inside.words.ok.0, c.requires)

pub returns : goal.returns
returns g c =
    let words = c.self.inside.words.items in
    let within : c.args.b / 64 < length words = omega (arith, length-blocks_in words, ap length c.self.view_is, c.requires) in
    let word : c.index.result.now ≡ get_or words (c.args.b / 64) 0 = get_or_read words (c.args.b / 64) c.index.result.now within c.index.ensures 0 in
    let bits : IsWithBit (get_or words (c.args.b / 64) 0) (c.args.b % 64) c.with_bit-word.result = subst (λ (w : ℕ). IsWithBit w (c.args.b % 64) c.with_bit-word.result) word c.with_bit-word.ensures in
    rw (← c.self.view_is) (blocks_in-set words c.args.b c.with_bit-word.result within bits)

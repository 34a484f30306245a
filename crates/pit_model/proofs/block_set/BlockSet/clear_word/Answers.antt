use Rattle.std.proofs.Common.{◌≤◌, ◌<◌, ◌/◌, ℕ, Bool, List, false, length, get_or, sym, ap, ◌∙◌, rules}
use Rattle.std.proofs.lemmas.Bool.{false≢true}
use Rattle.pit_model.proofs.BlockSets.{cleared-word, blocks_in-past}
use Rattle.pit_model.proofs.block_set.BlockSet.clear_word.Goals as goal

pub returns-then-word-len-clause-less : goal.returns-then-word-len-clause-less
returns-then-word-len-clause-less g c = λ k held.
    let words = c.self.inside.words.items in
    let past : length words ≤ c.args.b / 64 = search rules in
    (held, λ same. false≢true (sym (blocks_in-past words c.args.b past) ∙ ap (λ (l : List Bool). get_or l c.args.b false) c.self.view_is ∙ ap (λ (a : ℕ). get_or c.args.self.now a false) (sym same) ∙ held))

pub returns-clause-less : goal.returns-clause-less
returns-clause-less g c = λ k held.
    let words = c.self.inside.words.items in
    let within : c.args.b / 64 < length words = search rules in
    let was = cleared-word words (c.args.b / 64) k within held in
    (sym (ap (λ (l : List Bool). get_or l k false) c.self.view_is) ∙ was.0, λ same. was.1 (ap (λ (a : ℕ). a / 64) same))

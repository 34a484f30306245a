use Rattle.std.proofs.Common.{◌≡◌, ℕ, ◌++◌, List, [], take, sym, ap, subst, ◌∙◌}
use Rattle.std.proofs.lemmas.List.{take_all}
use Rattle.sha2.specs.Hashers.{Holds256}
use Rattle.sha2.specs.Sha256.{sha256}
use Rattle.pit_desk.specs.History.{Answered}
use Rattle.pit_lines.specs.Texts.{with_line_feed, entry_text, entries_text}
use Rattle.pit_lines.specs.declared.format.Format.TheVariants.{Two}
use Rattle.pit_show.proofs.Sums.{entries-none, entries-more}
use Rattle.pit_show.proofs.comment.sum_of.Goals as goal

-- in a text that was cleared
line-alone : (lent text cleared line : List ℕ) → lent ≡ text → text ≡ cleared ++ line → cleared ≡ [] → lent ≡ line
line-alone lent text cleared line is more none = is ∙ (more ∙ ap (λ (xs : List ℕ). xs ++ line) none)

pub loop-entry-init : goal.loop-entry-init
loop-entry-init g c = subst (λ (text : List ℕ). Holds256 c.new-hasher.result text) (sym (entries-none Two)) c.new-hasher.ensures

pub loop-entry-preserved : goal.loop-entry-preserved
loop-entry-preserved g c =
    let before = entries_text Two (take c.loop-entry.entry-index c.args.entries.now) in
    let line = line-alone c.as_slice.result.now c.write_entry.new.out.items c.clear.new.self.items (with_line_feed (entry_text Two c.entry-item.result)) c.as_slice.ensures.value c.in_ok-write_entry.ensures c.clear.ensures.items in
    subst (λ (text : List ℕ). Holds256 c.update.new.self text)
    (ap (λ (xs : List ℕ). before ++ xs) line ∙ sym (entries-more Two c.args.entries.now c.loop-entry.entry-index c.entry-item.result c.loop-entry-test.true c.entry-item.is))
    (c.update.ensures before c.loop-entry.invariant)

pub returns : goal.returns
returns g c =
    c.finalize.ensures (entries_text Two (take c.loop-entry.entry-index c.args.entries.now)) c.loop-entry.invariant
    ∙ ap (λ (entries : List Answered). sha256 (entries_text Two entries)) (take_all c.loop-entry.entry-index c.args.entries.now c.loop-entry-test.false)

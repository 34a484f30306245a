use Rattle.std.proofs.Common.{◌≡◌, ◌+◌, List, length, sym, ap, subst, ◌∙◌, arith}
use Rattle.std.proofs.lemmas.List.{length_push}
use Rattle.pit_desk.specs.History.{Answered}
use Rattle.pit_desk.specs.declared.reply.EntryReply.{EntryReply}
use Rattle.pit_log.specs.Makers.{AreMakers, makers_after}
use Rattle.pit_log.proofs.CallerLemmas.{makers-after}
use Rattle.pit_edit.proofs.Behind.{said-by}
use Rattle.pit_edit.proofs.answering.answered.Goals as goal

pub last_cause-cause-requires : goal.last_cause-cause-requires
last_cause-cause-requires g c = (c.requires.last.before, c.requires.last.entry, c.requires.last.cut, subst (AreMakers c.requires.last.before) (sym c.deref.ensures.value) c.requires.last.made)

pub returns-clause-makers : goal.returns-clause-makers
returns-clause-makers g c =
    let last = c.requires.last in
    let number : length c.history.result.now ≡ length last.before + 1 = omega (arith, ap (λ (h : List Answered). length h) c.history.ensures.history, ap (λ (h : List Answered). length h) last.cut, length_push last.before last.entry) in
    subst (λ (h : List Answered). AreMakers h c.note.new.makers.items) (sym last.cut)
    (makers-after last.before last.entry c.args.makers.now.items c.note.new.makers.items (length c.history.result.now)
    (c.note.ensures ∙ ap (λ (r : EntryReply). makers_after c.args.makers.now.items (length c.history.result.now) r) (sym last.reply_is)) last.made number)

pub returns-clause-answer : goal.returns-clause-answer
returns-clause-answer g c = λ before e cut replied made.
    let number : length c.history.result.now ≡ length before + 1 = omega (arith, ap (λ (h : List Answered). length h) c.history.ensures.history, ap (λ (h : List Answered). length h) cut, length_push before e) in
    said-by before e (length c.history.result.now) c.entry_reply_of.result c.last_cause-cause.result number (c.entry_reply_of.ensures ∙ sym replied) (c.last_cause-cause.ensures before e cut (subst (AreMakers before) (sym c.deref.ensures.value) made))

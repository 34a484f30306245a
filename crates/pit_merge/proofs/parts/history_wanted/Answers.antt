use Rattle.std.proofs.Common.{ℕ, List, sym, subst}
use Rattle.std.proofs.lemmas.Result.{MatchResult-weaker}
use Rattle.pit_desk.specs.History.{Answered}
use Rattle.pit_lines.specs.Lines.{StandsForHistory}
use Rattle.pit_step.specs.declared.input.Input.TheVariants as input
use Rattle.pit_step.specs.Inputs.{IsHistoryFault}
use Rattle.pit_merge.specs.Inside.Parts.{IsEntriesFault}
use Rattle.pit_merge.proofs.Wanted.{entries-wanted, entries-fault, history-unread}
use Rattle.pit_merge.proofs.parts.history_wanted.Goals as goal

pub returns-in-Ok-clause-wanted : goal.returns-in-Ok-clause-wanted
returns-in-Ok-clause-wanted g c =
    let ground = c.args.ground.now in
    let text = c.args.text.items in
    let entries : List Answered = c.deref.result.now in
    let stands = subst (λ (es : List Answered). StandsForHistory text es) (sym c.deref.ensures.value) c.in-Ok.ensures.result in
    MatchResult-weaker c.by_entries.result c.by_entries.ensures.wanted
    (λ w is. entries-wanted ground c.args.from c.args.number text entries c.requires.kind stands w.0 w.1.items is)
    (λ fault is. entries-fault ground c.args.from c.args.number text entries c.requires.kind stands fault
    (subst (λ (n : ℕ). IsEntriesFault ground (input.Edit n) entries fault) c.from.ensures is))

pub returns-in-Err-clause-wanted : goal.returns-in-Err-clause-wanted
returns-in-Err-clause-wanted g c =
    history-unread c.args.ground.now c.args.from c.args.number c.args.text.items c.in-Err.fault c.requires.kind
    (subst (λ (n : ℕ). IsHistoryFault (input.Edit n) c.args.text.items c.in-Err.fault) c.from.ensures c.in-Err.ensures.result)

use Rattle.std.proofs.Common.{◌≡◌, ◌-◌, ◌<◌, length, IfSome, refl, sym, ap, subst, ◌∙◌}
use Rattle.pit_desk.specs.History.{Answered}
use Rattle.pit_desk.specs.Legal.{Follows}
use Rattle.pit_log.specs.Causes.{block_of, cause_of}
use Rattle.pit_edit.proofs.Behind.{last-known, last-stands, last-within, last-place}
use Rattle.pit_edit.proofs.answering.last_cause.Goals as goal

pub cause_behind-requires-clause-known : goal.cause_behind-requires-clause-known
cause_behind-requires-clause-known g c =
    let history = c.args.desk.now.history in
    let plan = c.plan.result.now in
    let before = c.requires.0 in
    let e = c.requires.1 in
    let cut = c.requires.2 in
    let found = c.index-history-history.result in
    let last : found ≡ e = last-place c.history-history.result.now before e found (length c.history-history.result.now - 1) (c.history-history.ensures.history ∙ cut) refl c.index-history-history.is in
    let follows = subst (Follows history) (sym c.plan.ensures.plan) c.plan.ensures.kept.follows in
    subst (λ (x : Answered). IfSome (block_of x) (λ b. b < plan.pit.blocks)) (sym last) (last-known history before e plan cut follows)

pub cause_behind-requires-clause-within : goal.cause_behind-requires-clause-within
cause_behind-requires-clause-within g c =
    let history = c.args.desk.now.history in
    let plan = c.plan.result.now in
    let before = c.requires.0 in
    let e = c.requires.1 in
    let cut = c.requires.2 in
    let found = c.index-history-history.result in
    let last : found ≡ e = last-place c.history-history.result.now before e found (length c.history-history.result.now - 1) (c.history-history.ensures.history ∙ cut) refl c.index-history-history.is in
    let follows = subst (Follows history) (sym c.plan.ensures.plan) c.plan.ensures.kept.follows in
    λ why is. last-within history before e plan cut follows c.args.makers.now c.requires.3 why (sym (ap (λ (x : Answered). x.reply) last) ∙ is)

pub returns : goal.returns
returns g c = λ before e cut made.
    let history = c.args.desk.now.history in
    let plan = c.plan.result.now in
    let found = c.index-history-history.result in
    let last : found ≡ e = last-place c.history-history.result.now before e found (length c.history-history.result.now - 1) (c.history-history.ensures.history ∙ cut) refl c.index-history-history.is in
    let follows = subst (Follows history) (sym c.plan.ensures.plan) c.plan.ensures.kept.follows in
    c.cause_behind.ensures before (λ why is. last-stands history before e plan cut follows why (sym (ap (λ (x : Answered). x.reply) last) ∙ is)) made ∙ ap (cause_of before) last

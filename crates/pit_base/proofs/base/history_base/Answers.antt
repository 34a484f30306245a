use Rattle.std.proofs.Common.{List, refl, subst, ap, ◌∙◌, length}
use Rattle.pit_desk.specs.History.{Answered, commits_of}
use Rattle.pit_base.specs.Bases.{ReviseNone, ReviseSome}
use Rattle.pit_base.proofs.Bases.{shared-base, later-revises}
use Rattle.pit_base.proofs.base.history_base.Goals as goal

pub returns-then-are_revising : goal.returns-then-are_revising
returns-then-are_revising g c =
    let some = subst (λ (h : List Answered). ReviseSome (commits_of h)) c.split_at.ensures.back c.if-are_revising.ensures in
    (refl, later-revises c.args.ours.now c.args.theirs.now c.common_len.result c.common_len.ensures.front some)

pub returns : goal.returns
returns g c =
    let none = subst (λ (h : List Answered). ReviseNone (commits_of h)) c.split_at.ensures.back c.if-are_revising.ensures in
    let count = c.commit_count.ensures ∙ ap (λ (h : List Answered). length (commits_of h)) c.split_at.ensures.front in
    shared-base c.args.ours.now c.args.theirs.now c.common_len.result c.common_len.ensures.front c.commit_count.result count none

use Rattle.std.proofs.Common.{◌≡◌, ◌+◌, ◌<◌, ◌++◌, ◌∷◌, [], List, length, ap, sym, subst, refl, ◌∙◌, arith, length-append}
use Rattle.pit_plan.specs.Schedule.{Commit}
use Rattle.pit_desk.specs.History.{Answered, commits_of}
use Rattle.pit_board.specs.Boards.{slot_of}
use Rattle.pit_board.specs.Inside.Boards.{slot_after}
use Rattle.pit_board.specs.Prefixes.{AreLawful}
use Rattle.pit_board.proofs.Lawful.{last-periods}
use Rattle.pit_board.proofs.Slots.{slot_of-push}
use Rattle.pit_board.proofs.board.Board.take_in.Goals as goal

pub invariant_of-self : goal.invariant_of-self
invariant_of-self g c =
    let old : List Commit = commits_of c.self.inside.prefix in
    let w : Commit = c.publication.inside.changes in
    let same : old ≡ commits_of c.publication.inside.before = c.if-has_commits_of.ensures.same.0 refl in
    let after : commits_of c.copy-prefix.result ≡ old ++ w ∷ [] =
    ap (λ (l : List Answered). commits_of l) c.copy-prefix.ensures ∙ (c.publication.invariant ∙ sym (ap (λ (l : List Commit). l ++ w ∷ []) same)) in
    let number : c.count.result ≡ length old + 1 = omega (arith, c.count.ensures.count, ap (λ (l : List Commit). length l) after, length-append old (w ∷ [])) in (
      c.self.invariant.0,
      record {
        many = c.write_slots.ensures.many ∙ c.self.invariant.1.many;
        each = λ b d below.
            let there : b < length c.self.inside.slots.items = omega (arith, below, c.self.invariant.1.many) in
            c.write_slots.ensures.each b d there
            ∙ ((λ i. slot_after (number i) (c.writes.ensures i) b (c.self.invariant.1.each b d below i))
            ∙ (sym (slot_of-push b old w) ∙ (λ i. slot_of (sym after i) b)));
      },
    )

pub write_slots-requires : goal.write_slots-requires
write_slots-requires g c =
    let pit = g.S.Session.instance in
    let lawful = subst (AreLawful pit) (ap (λ (l : List Answered). commits_of l) c.copy-prefix.ensures ∙ c.publication.invariant) c.count.ensures.lawful in
    rw c.writes.ensures (last-periods pit (commits_of c.publication.inside.before) c.publication.inside.changes lawful c.self.invariant.0)

use Rattle.std.proofs.Common.{refl, sym, subst, fold, drop, List}
use mathlib.Core.List.{IsPrefix}
use Rattle.pit_desk.specs.History.{Answered, commits_of}
use Rattle.pit_board.specs.Inside.Boards.{WriterState, taken_in}
use Rattle.pit_board.proofs.BoardRule.{rule-sees}
use Rattle.pit_board.proofs.writer.BoardWriter.publish.Goals as goal

pub publish_as-writer-requires : goal.publish_as-writer-requires
publish_as-writer-requires g c next is views h at =
    let own = c.self.inside.handle.writer in
    let parted = c.into_parts-writer.result.0 in
    let now : List Answered = parted.desk.shown.value in
    let asked : IsPrefix (commits_of own.desk.shown.value) (commits_of (fold taken_in own.desk.shown.value (drop own.behind own.log.items))) =
    subst (λ (s : WriterState). IsPrefix (commits_of s.published) (commits_of (fold taken_in s.published s.pending))) (sym c.self.view_is) c.requires in
    let due : IsPrefix (commits_of parted.desk.shown.value) (commits_of (fold taken_in parted.desk.shown.value (drop parted.behind parted.log.items))) =
    rw (c.into_parts-writer.ensures) asked in
    let more : IsPrefix (commits_of now) (commits_of next) = subst (λ (l : List Answered). IsPrefix (commits_of now) (commits_of l)) (sym is) due in
    (commits_of next, rule-sees (commits_of g.S.Session.opening) (commits_of now) (commits_of next) views _ h more, (h.each _ _ at, refl))

use Rattle.std.proofs.Common.{List, ℕ, length, take, subst}
use Rattle.std.specs.Io.KnownBytes.{Appends}
use Rattle.pit_num.proofs.CallerLemmas.{appends_more, map_ok}
use Rattle.pit_plan.specs.Standing.{period_of}
use Rattle.pit_edit.specs.declared.conflicts.TheConstants.{CONFLICTS_SHOWN}
use Rattle.pit_edit.specs.EditText.{conflict_lines, more_text}
use Rattle.pit_edit.specs.Inside.Reviews.{writer_in}
use Rattle.pit_edit.proofs.conflicts.write_conflicts.Goals as goal

pub returns : goal.returns
returns g c =
    let start = g.W.Sink.contents c.args.w.now in
    let middle = g.W.Sink.contents c.write_lines.new.w in
    let end = g.W.Sink.contents c.write_more.new.w in
    let lines : List ℕ → List ℕ = λ blocks. conflict_lines c.args.edit.now (period_of c.args.plan.now) (writer_in c.args.plan.now c.args.makers.now) blocks in
    let first = subst (λ (blocks : List ℕ). Appends start middle (lines blocks)) c.first_of.ensures c.in_ok-write_lines.ensures in
    map_ok c.write_more.result
    (λ more. appends_more start middle end (lines (take CONFLICTS_SHOWN c.args.blocks.now)) (more_text (length c.args.blocks.now)) first more)
    c.write_more.ensures

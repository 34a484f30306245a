use Rattle.std.proofs.Common.{ℕ, List, sym, subst}
use Rattle.std.specs.Io.KnownBytes.{Appends}
use Rattle.pit_num.proofs.CallerLemmas.{appends_nothing}
use Rattle.pit_plan.specs.Standing.{period_of}
use Rattle.pit_diff.proofs.Lines.{changes-none, changes-pushed}
use Rattle.pit_diff.proofs.blocks.write_changes.Goals as goal

pub loop-b-init : goal.loop-b-init
loop-b-init g c =
    let start = g.W.Sink.contents c.args.w.now in
    subst (λ (xs : List ℕ). Appends start start xs) (sym (changes-none (period_of c.args.old.now) (period_of c.args.new.now))) (appends_nothing start)

pub loop-b-preserved : goal.loop-b-preserved
loop-b-preserved g c =
    changes-pushed (g.W.Sink.contents c.args.w.now) (g.W.Sink.contents c.loop-b.w) (g.W.Sink.contents c.write_block.new.w) (period_of c.args.old.now) (period_of c.args.new.now) c.loop-b.b c.loop-b.invariant
    c.in_ok-write_block.ensures

use Rattle.std.proofs.Common.{refl}
use Rattle.pit_plan.specs.Schedule.{held_period}
use Rattle.pit_desk.specs.History.{commits_of}
use Rattle.pit_base.proofs.CallerLemmas.{shown-enough}
use Rattle.pit_merge.specs.Edits.{ground_of}
use Rattle.pit_merge.proofs.ShownEdits.{shown-edit, wants-base, nothing-taken}
use Rattle.pit_merge.proofs.laws.shown_edits.Goals as goal

pub returns-clause-some : goal.returns-clause-some
returns-clause-some c = λ ground at from entries rest answer number sound few ours is.
    shown-edit ground from number entries rest answer _ ours (shown-enough c.one_history.ensures.once at ground.pit entries answer is)
    (c.shown_again.ensures.history at ground.pit entries answer sound few is) ((c.shown_base.ensures at from ground.pit entries rest answer ground.is_resumed _ few is).1 refl)

pub returns-clause-unchanged : goal.returns-clause-unchanged
returns-clause-unchanged c = λ ground at from entries rest answer number edit held sound few ours is edit_is.
    c.unchanged_edits.ensures ground.pit.blocks edit held
    (wants-base ground from number entries rest answer _ ours (shown-enough c.one_history.ensures.once at ground.pit entries answer is)
    (c.shown_again.ensures.history at ground.pit entries answer sound few is) edit edit_is
    (c.shown_base.ensures at from ground.pit entries rest answer ground.is_resumed edit.start few is).0)

pub returns-clause-taken : goal.returns-clause-taken
returns-clause-taken c = λ options at entries rest answer number old new sound few ours is taken.
    nothing-taken options number answer old new taken
    (returns-clause-unchanged c (ground_of old) at options.from entries rest answer number taken.edit (held_period (commits_of old.merging.desk.history)) sound few ours is taken.is_edit)

-- What a job does to a schedule.
use Rattle.std.specs.Prelude.{◌≡◌, ℕ, ℤ, Bool, true, false, ◌&&◌, ◌==◌, nat_eq, nat_lt, List, [], ◌∷◌, Option, Some, None, is_some, if◌then◌else◌}
use Rattle.pit_model.specs.Fitting.{pair_eq}
use Rattle.pit_model.specs.Pit.{Pit, preds_of, succs_of}
use Rattle.pit_plan.specs.Schedule.{Commit}
use Rattle.pit_keyed.specs.Keyed.{at_key, with_each, with_write}
use Rattle.pit_desk.specs.History.{Call, commit_of}
use Rattle.pit_desk.specs.declared.entry.Act.{Act}
use Rattle.pit_desk.specs.declared.entry.Act.TheVariants as act
use Rattle.pit_script.specs.Benches.{bench_of}
use Rattle.pit_script.specs.Jobs.{Job}
use Rattle.pit_script.specs.declared.step.JobEnd.{JobEnd}
use Rattle.pit_script.specs.declared.step.JobEnd.TheVariants as ending
use Rattle.pit_script.specs.declared.step.Step.{Step}
use Rattle.pit_script.specs.declared.step.Step.TheVariants as step
use Rattle.pit_script.specs.declared.step.Way.{Way}
use Rattle.pit_script.specs.declared.step.Way.TheVariants as way
use Rattle.pit_job.specs.Cones.{cone_of, all_led}
use Rattle.pit_job.specs.Shifts.{shifted}

-- a finite map from blocks to a period or none: what it holds of a block, if it holds it
abbrev pub Known : Type 0
Known = ℕ → Option (Option ℕ)

-- what steps come to: the writes and revisions so far, each in the order of first use; or they read a block that isn't known; or a shift or
-- an expectation failed, or the job gives up
pub data Effect : Type 0 where
  changes : Commit → Effect
  unread : Effect
  nothing : Effect

abbrev pub no_change : Commit
no_change = record { writes = []; revises = [] }

-- one write more
abbrev pub with_written : Commit → ℕ → Option ℕ → Commit
with_written own b period = record { writes = with_write nat_eq own.writes b period; revises = own.revises }

-- one revision more
abbrev pub with_revised : Commit → ℕ → ℕ → Option ℤ → Commit
with_revised own r t upper = record { writes = own.writes; revises = with_write pair_eq own.revises (r, t) upper }

-- one block after another is put into a period
abbrev pub with_bench : Commit → List ℕ → ℕ → Commit
with_bench own blocks t = record { writes = with_each nat_eq own.writes blocks (Some t); revises = own.revises }

-- what is known with the own writes laid over
abbrev pub seen : Known → Commit → ℕ → Option (Option ℕ)
seen known own b = if is_some (at_key nat_eq own.writes b) then at_key nat_eq own.writes b else known b

-- a block is read, and nothing changes
abbrev pub looked : Commit → Option (Option ℕ) → Effect
looked own None = unread
looked own (Some period) = changes own

abbrev pub put_at : Commit → ℕ → Option ℕ → Effect
put_at own b None = nothing
put_at own b (Some t) = changes (with_written own b (Some t))

-- a shift of a block of which this is known
abbrev pub moved_by : ℕ → Commit → ℕ → Bool → ℕ → Option (Option ℕ) → Effect
moved_by periods own b is_back by None = unread
moved_by periods own b is_back by (Some None) = nothing
moved_by periods own b is_back by (Some (Some t)) = put_at own b (shifted periods is_back by t)

-- a block is read, and the job goes on only where what it holds is just this: a period, or none
abbrev pub same_period : Option ℕ → Option ℕ → Bool
same_period None None = true
same_period None (Some u) = false
same_period (Some t) None = false
same_period (Some t) (Some u) = t == u

abbrev pub expected : Commit → Option ℕ → Option (Option ℕ) → Effect
expected own period None = unread
expected own period (Some held) = if same_period held period then changes own else nothing

-- ---- a block with what is carried along

-- late is a block that has no period or a later one, early one that has an earlier one; what isn't known is neither
abbrev pub is_late : ℕ → Option (Option ℕ) → Bool
is_late t None = false
is_late t (Some None) = true
is_late t (Some (Some held)) = nat_lt t held

abbrev pub is_early : ℕ → Option (Option ℕ) → Bool
is_early t None = false
is_early t (Some None) = false
is_early t (Some (Some held)) = nat_lt held t

abbrev pub is_carried : Way → ℕ → Option (Option ℕ) → Bool
is_carried way.Cone t held = is_late t held
is_carried way.Push t held = is_early t held

-- a member of a cone leads to its predecessors, one that is pushed to its successors
abbrev pub leads_to : Pit → Way → ℕ → List ℕ
leads_to pit way.Cone b = preds_of pit b
leads_to pit way.Push b = succs_of pit b

-- the block, where it is late, and each late predecessor of a member; or the same of what is early, and of successors; by rising block
abbrev pub members_of : Pit → Way → Known → ℕ → ℕ → List ℕ
members_of pit how at b t = cone_of pit.blocks (λ c. is_carried how t (at c)) (leads_to pit how) b

-- the block and all that members lead to are known
abbrev pub all_known : Pit → Way → Known → ℕ → ℕ → Bool
all_known pit how at b t = is_some (at b) && all_led (λ a. is_some (at a)) (leads_to pit how) (members_of pit how at b t)

abbrev pub carried : Bool → Commit → List ℕ → ℕ → Effect
carried true own members t = changes (with_bench own members t)
carried false own members t = unread

abbrev pub carry_after : Pit → Way → Known → Commit → ℕ → ℕ → Effect
carry_after pit how at own b t = carried (all_known pit how at b t) own (members_of pit how at b t) t

-- what one step does after these changes
abbrev pub step_after : Pit → Known → Commit → Step → Effect
step_after pit known own (step.Read b) = looked own (seen known own b)
step_after pit known own (step.Put b t) = changes (with_written own b (Some t))
step_after pit known own (step.Clear b) = changes (with_written own b None)
step_after pit known own (step.Shift b is_back by) = moved_by pit.periods own b is_back by (seen known own b)
step_after pit known own (step.Bench height t) = changes (with_bench own (bench_of pit height) t)
step_after pit known own (step.Expect b period) = expected own period (seen known own b)
step_after pit known own (step.Carry how b t) = carry_after pit how (λ c. seen known own c) own b t
step_after pit known own (step.Revise r t upper) = changes (with_revised own r t upper)

-- what comes next, where nothing ended it
abbrev pub next : Effect → (Commit → Effect) → Effect
next (changes own) more = more own
next unread more = unread
next nothing more = nothing

-- what steps do in order after these changes
abbrev pub steps_after : Pit → Known → Commit → List Step → Effect
steps_after pit known own [] = changes own
steps_after pit known own (s ∷ steps) = next (step_after pit known own s) (λ after. steps_after pit known after steps)

-- where a step ends what comes next, the changes so far; else what comes of its own
abbrev pub up_to : Commit → Effect → (Commit → Commit) → Commit
up_to own (changes after) more = more after
up_to own unread more = own
up_to own nothing more = own

-- what steps in order have changed, up to one that reads what isn't known, or fails
abbrev pub changes_after : Pit → Known → Commit → List Step → Commit
changes_after pit known own [] = own
changes_after pit known own (s ∷ steps) = up_to own (step_after pit known own s) (λ after. changes_after pit known after steps)

-- a job that gives up does nothing, where its steps read what is known
abbrev pub ended : JobEnd → Effect → Effect
ended ending.Commit e = e
ended ending.Abort e = next e (λ own. nothing)

-- what a job does to what is known
unfoldable pub effect : Pit → Job → Known → Effect
effect pit job known = ended job.end (steps_after pit known no_change job.steps)

-- one map holds all that the other does
abbrev pub Agrees : Known → Known → Type 0
Agrees known more = (b : ℕ) (v : Option ℕ) → known b ≡ Some v → more b ≡ Some v

-- a schedule, which knows every block
abbrev pub whole : (ℕ → Option ℕ) → Known
whole schedule b = Some (schedule b)

-- what was read
abbrev pub read_in : List (ℕ × Option ℕ) → Known
read_in reads b = at_key nat_eq reads b

-- what a call that ends this way changes is the effect
abbrev pub IsEffectOf : Act → Commit → Effect → Type 0
IsEffectOf act.Commit own e = e ≡ changes own
IsEffectOf act.Withdraw own e = e ≡ nothing

-- the changes of a commit are the job's effect over the call's reads, and where the call withdraws, that effect is nothing
abbrev pub HasEffect : Pit → Job → Call → Type 0
HasEffect pit job call = IsEffectOf call.act (commit_of call) (effect pit job (read_in call.reads))

-- its changes are those of the job's steps over its reads, also where it withdraws
abbrev pub HasChanges : Pit → Job → Call → Type 0
HasChanges pit job call = commit_of call ≡ changes_after pit (read_in call.reads) no_change job.steps

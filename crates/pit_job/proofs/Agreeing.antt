-- Maps that agree have the same effect.
use Rattle.std.proofs.Common.{◌≡◌, ◌≢◌, ℕ, subst, nat_eq, take, Bool, true, false, cond, List, [], ◌∷◌, Option, Some, None, refl, ap, ◌∙◌, arith}
use Rattle.std.specs.Prelude.{is_some, if◌then◌else◌, ℤ, All, slice_get}
use Rattle.std.proofs.lemmas.Grind.{common_steps}
use Rattle.std.proofs.lemmas.Bool.Decides.{Decides-eqb}
use Rattle.std.proofs.lemmas.List.Elements.{All-head, All-tail}
use Rattle.pit_model.specs.Pit.{Pit}
use Rattle.pit_plan.specs.Schedule.{Commit}
use Rattle.pit_keyed.specs.Keyed.{at_key}
use Rattle.pit_desk.specs.History.{Call, Answered, commit_of, commits_of}
use Rattle.pit_desk.specs.Replies.{IsReply}
use Rattle.pit_desk.specs.OneThread.{IsOfOneThread, held_period_after}
use Rattle.pit_desk.specs.declared.entry.Act.{Act}
use Rattle.pit_desk.specs.declared.entry.Act.TheVariants as act
use Rattle.pit_desk.specs.declared.reply.EntryReply.TheVariants as reply
use Rattle.pit_script.specs.Jobs.{Job}
use Rattle.pit_script.specs.declared.step.JobEnd.{JobEnd}
use Rattle.pit_script.specs.declared.step.JobEnd.TheVariants as ending
use Rattle.pit_script.specs.declared.step.Step.{Step}
use Rattle.pit_script.specs.declared.step.Step.TheVariants as step
use Rattle.pit_job.specs.Cones.{all_led}
use Rattle.pit_job.proofs.Cones.{both, left, right}
use Rattle.pit_job.proofs.Walks.{cone-agrees}
use Rattle.pit_job.specs.Effect.{Known, Agrees, Effect, changes, unread, nothing, no_change, seen, looked, moved_by, expected, carried, carry_after, members_of, all_known, is_carried, leads_to, step_after, next, steps_after, ended, effect, whole, read_in, HasEffect, IsEffectOf}

pub seen-agrees : (s t : Known) (own : Commit) → Agrees s t → (b : ℕ) (v : Option ℕ) → seen s own b ≡ Some v → seen t own b ≡ Some v
seen-agrees s t own same b v is = by (at_key nat_eq own.writes b) is
  where
    by : (o : Option (Option ℕ)) → (if is_some o then o else s b) ≡ Some v → (if is_some o then o else t b) ≡ Some v
    by None e = same b v e
    by (Some w) e = e

-- a step that isn't unread over the one map does the same over the other
pub step-agrees : (pit : Pit) (s t : Known) (own : Commit) (x : Step) → Agrees s t → step_after pit s own x ≢ unread → step_after pit t own x ≡ step_after pit s own x
step-agrees pit s t own (step.Read b) same read = by (seen s own b) refl read
  where
    by : (o : Option (Option ℕ)) → seen s own b ≡ o → looked own o ≢ unread → looked own (seen t own b) ≡ looked own o
    by None e read = absurd (read refl)
    by (Some v) e read = ap (looked own) (seen-agrees s t own same b v e)
step-agrees pit s t own (step.Put b p) same read = refl
step-agrees pit s t own (step.Clear b) same read = refl
step-agrees pit s t own (step.Shift b is_back amount) same read = by (seen s own b) refl read
  where
    by : (o : Option (Option ℕ)) → seen s own b ≡ o → moved_by pit.periods own b is_back amount o ≢ unread
        → moved_by pit.periods own b is_back amount (seen t own b) ≡ moved_by pit.periods own b is_back amount o
    by None e read = absurd (read refl)
    by (Some v) e read = ap (moved_by pit.periods own b is_back amount) (seen-agrees s t own same b v e)
step-agrees pit s t own (step.Bench height p) same read = refl
step-agrees pit s t own (step.Expect b period) same read = by (seen s own b) refl read
  where
    by : (o : Option (Option ℕ)) → seen s own b ≡ o → expected own period o ≢ unread → expected own period (seen t own b) ≡ expected own period o
    by None e read = absurd (read refl)
    by (Some v) e read = ap (expected own period) (seen-agrees s t own same b v e)
step-agrees pit s t own (step.Carry how b p) same read = by (all_known pit how (λ c. seen s own c) b p) refl read
  where
    by : (o : Bool) → all_known pit how (λ c. seen s own c) b p ≡ o → carried o own (members_of pit how (λ c. seen s own c) b p) p ≢ unread
        → carry_after pit how (λ c. seen t own c) own b p ≡ carried o own (members_of pit how (λ c. seen s own c) b p) p
    by false e read = absurd (read refl)
    by true e read =
        let known = left (is_some (seen s own b)) (all_led (λ a. is_some (seen s own a)) (leads_to pit how) (members_of pit how (λ c. seen s own c) b p)) e in
        let led = right (is_some (seen s own b)) (all_led (λ a. is_some (seen s own a)) (leads_to pit how) (members_of pit how (λ c. seen s own c) b p)) e in
        let more = cone-agrees pit.blocks (is_carried how p) (leads_to pit how) b (λ c. seen s own c) (λ c. seen t own c) (seen-agrees s t own same) known led in
        ap (λ (o : Bool). carried o own (members_of pit how (λ c. seen t own c) b p) p)
        (both (is_some (seen t own b)) (all_led (λ a. is_some (seen t own a)) (leads_to pit how) (members_of pit how (λ c. seen t own c) b p)) more.1 more.2)
        ∙ ap (λ (ms : List ℕ). carried true own ms p) more.0
step-agrees pit s t own (step.Revise r p upper) same read = refl

pub steps-agree : (pit : Pit) (s t : Known) (own : Commit) (xs : List Step) → Agrees s t → steps_after pit s own xs ≢ unread → steps_after pit t own xs ≡ steps_after pit s own xs
steps-agree pit s t own [] same read = refl
steps-agree pit s t own (x ∷ xs) same read =
    by (step_after pit s own x) (step-agrees pit s t own x same) (λ after. steps-agree pit s t after xs same) read
  where
    by : (e : Effect) → (e ≢ unread → step_after pit t own x ≡ e)
        → ((after : Commit) → steps_after pit s after xs ≢ unread → steps_after pit t after xs ≡ steps_after pit s after xs)
        → next e (λ after. steps_after pit s after xs) ≢ unread
        → next (step_after pit t own x) (λ after. steps_after pit t after xs) ≡ next e (λ after. steps_after pit s after xs)
    by (changes w) first rest read = ap (λ (e : Effect). next e (λ after. steps_after pit t after xs)) (first (λ e. cc)) ∙ rest w read
    by unread first rest read = absurd (read refl)
    by nothing first rest read = ap (λ (e : Effect). next e (λ after. steps_after pit t after xs)) (first (λ e. cc))

-- where the effect over a map isn't unread, each map that agrees has the same
pub effect-agrees : (pit : Pit) (job : Job) (s t : Known) → Agrees s t → effect pit job s ≢ unread → effect pit job t ≡ effect pit job s
unfolding effect
effect-agrees pit job s t same read = by job.end (steps_after pit s no_change job.steps) (steps-agree pit s t no_change job.steps same) read
  where
    by : (how : JobEnd) (e : Effect) → (e ≢ unread → steps_after pit t no_change job.steps ≡ e) → ended how e ≢ unread
        → ended how (steps_after pit t no_change job.steps) ≡ ended how e
    by ending.Commit e same read = same read
    by ending.Abort (changes w) same read = ap (ended ending.Abort) (same (λ e. cc))
    by ending.Abort unread same read = absurd (read refl)
    by ending.Abort nothing same read = ap (ended ending.Abort) (same (λ e. cc))

-- a schedule in which each read stands agrees with the reads
pub schedule-agrees : (reads : List (ℕ × Option ℕ)) (schedule : ℕ → Option ℕ) → All (λ read. read.1 ≡ schedule read.0) reads → Agrees (read_in reads) (whole schedule)
schedule-agrees [] schedule right b v is = absurd (cc is)
schedule-agrees (p ∷ ps) schedule right b v is =
    by (nat_eq b p.0) refl (schedule-agrees ps schedule (All-tail (λ read. read.1 ≡ schedule read.0) p ps right) b v) is
  where
    by : (x : Bool) → nat_eq b p.0 ≡ x → (read_in ps b ≡ Some v → Some (schedule b) ≡ Some v) → cond x (Some p.1) (read_in ps b) ≡ Some v → Some (schedule b) ≡ Some v
    by true e later is =
        let first : p.1 ≡ schedule p.0 = All-head (λ read. read.1 ≡ schedule read.0) p ps right in
        let same : b ≡ p.0 = grind (arith, common_steps, Decides-eqb b p.0) in
        cc
    by false e later is = later is

withdrawn-not-committed : (pit : Pit) (commits : List Commit) (call : Call) (number : ℕ) → call.act ≡ act.Withdraw → IsReply pit commits call (reply.Committed number) → ⊥
withdrawn-not-committed pit commits call number is right = let h = right.0 in absurd (cc)

-- a committed entry made the changes of the effect over the schedule before it
pub committed-effect : (pit : Pit) (history : List Answered) (value : ℤ) → IsOfOneThread pit history value
    → (k number : ℕ) (e : Answered) (job : Job) → slice_get history k ≡ Some e → e.reply ≡ reply.Committed number
    → HasEffect pit job e.call
    → effect pit job (whole (held_period_after history k)) ≡ changes (commit_of e.call)
committed-effect pit history value one k number e job at is has = by e.call.act refl has
  where
    by : (a : Act) → e.call.act ≡ a → IsEffectOf a (commit_of e.call) (effect pit job (read_in e.call.reads)) → effect pit job (whole (held_period_after history k)) ≡ changes (commit_of e.call)
    by act.Commit same h =
        effect-agrees pit job (read_in e.call.reads) (whole (held_period_after history k)) (schedule-agrees e.call.reads (held_period_after history k) (one.reads k number e at is)) (λ u. absurd (cc)) ∙ h
    by act.Withdraw same h =
        absurd (withdrawn-not-committed pit (commits_of (take k history)) e.call number same (subst (IsReply pit (commits_of (take k history)) e.call) is (one.replies k e at)))

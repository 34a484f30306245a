-- What was written of a merge is that of one history.
use Rattle.std.proofs.Common.{◌≡◌, ℕ, ◌+◌, ◌≤◌, ◌<◌, Bool, List, [], ◌∷◌, ◌++◌, length, length-append, take, drop, codes, Option, Result, Ok, Err, refl, sym, ap, subst, ◌∙◌, arith}
use Rattle.std.proofs.lemmas.List.{take_all, take-append-drop}
use Rattle.pit_model.specs.Pit.{Pit}
use Rattle.pit_plan.specs.Schedule.{Commit, earned_in, held_period, value_of}
use Rattle.pit_plan.specs.Standing.{IsPlanOf}
use Rattle.pit_plan.proofs.CallerLemmas.{total-same}
use Rattle.pit_plan.specs.Shortfalls.{shortfalls_of}
use Rattle.pit_desk.specs.History.{Answered, commits_of}
use Rattle.pit_desk.specs.OneThread.{IsOfOneThread}
use Rattle.pit_desk.proofs.OneThread.{one-thread}
use Rattle.pit_desk.specs.State.{State, IsDeskKept}
use Rattle.pit_edit.specs.LaidOver.{laid_over}
use Rattle.pit_edit.proofs.CallerLemmas.{laid-over}
use Rattle.pit_step.specs.LineTexts.{value_text, shorts_text}
use Rattle.pit_step.specs.Devices.{Reading, Writing}
use Rattle.pit_step.specs.Steps.{through}
use Rattle.pit_step.specs.declared.status.Status.{Status}
use Rattle.pit_step.specs.declared.status.Status.TheVariants.{Fine}
use Rattle.pit_step.specs.declared.fault.CliFault.{CliFault}
use Rattle.pit_opening.specs.Openings.{entries_before}
use Rattle.pit_output.specs.Outputs.{new_line, Keeping, outputs_run}
use Rattle.pit_output.proofs.CallerLemmas.{outputs_given}
use Rattle.pit_merge.specs.declared.options.MergeOptions.{MergeOptions}
use Rattle.pit_merge.specs.Prepared.{Prepared}
use Rattle.pit_merge.specs.Edits.{Merged, edit_step, IsTaken}
use Rattle.pit_merge.specs.Merge.{merge_report, merge_outputs, merge_status, merge_run}
use Rattle.pit_merge.specs.MergedHistory.{IsOfOneMerge}
use Rattle.pit_merge.proofs.Taken.{entered-front, entered-longer}

-- a history that a desk keeps is one of one thread
kept-one-thread : (pit : Pit) (desk : State) → IsDeskKept desk → desk.plan.pit ≡ pit → IsOfOneThread pit desk.history (value_of pit (held_period (commits_of desk.history)))
kept-one-thread pit desk kept same =
    let commits : List Commit = commits_of desk.history in
    let stands : IsPlanOf desk.plan commits = kept.follows.stands in
    subst (λ (p : Pit). IsOfOneThread p desk.history (value_of p (held_period commits))) same
    (one-thread desk.plan desk.history (value_of desk.plan.pit (held_period commits)) kept.follows
    (λ others too. total-same (λ b. earned_in desk.plan.pit b (held_period commits b)) (λ b. earned_in desk.plan.pit b (held_period others b)) desk.plan.pit.blocks
    (λ b below. ap (earned_in desk.plan.pit b) (sym (stands.period b below) ∙ too.period b below))))

-- the pit stays, and so do the entries
pub record GoesOn (old new : Merged) : Type 0 where
  pub same_pit : new.merging.desk.plan.pit ≡ old.merging.desk.plan.pit
  pub longer : length old.merging.desk.history ≤ length new.merging.desk.history
  pub front : (n : ℕ) → n ≤ length old.merging.desk.history → take n new.merging.desk.history ≡ take n old.merging.desk.history

goes-itself : (merged other : Merged) → other ≡ merged → GoesOn merged other
goes-itself merged other same = subst (GoesOn merged) (sym same) (record { same_pit = refl; longer = omega arith; front = λ n within. refl })

goes-taken : (options : MergeOptions) (number : ℕ) (text : List ℕ) (old new : Merged) → IsTaken options number text old new → GoesOn old new
goes-taken options number text old new is =
    let pit = old.merging.desk.plan.pit in
    let before = old.merging.desk.history in
    let after = new.merging.desk.history in
    record {
      same_pit = is.merged.same_pit;
      longer = entered-longer pit before after is.edit is.merged.kept is.merged.reply is.merged.entered;
      front = λ n within. entered-front pit before after is.edit is.merged.kept is.merged.reply n within is.merged.entered;
    }

goes-both : (old between new : Merged) → GoesOn old between → GoesOn between new → GoesOn old new
goes-both old between new p q = record {
  same_pit = q.same_pit ∙ p.same_pit;
  longer = omega (arith, p.longer, q.longer);
  front = λ n within. q.front n (omega (arith, within, p.longer)) ∙ p.front n within;
}

goes-through : (options : MergeOptions) (number : ℕ) (edits : List Reading) (old new : Merged) → (through (edit_step options) number edits).Gives old new → GoesOn old new
goes-through options number [] old new is = goes-itself old new is.0
goes-through options number (edit ∷ edits) old new (between, taken, rest) =
    goes-both old between new (goes-taken options number taken.0 old between taken.2) (goes-through options (number + 1) edits between new rest)

pub some-report : (is_new : Bool) (pit : Pit) (commits : List Commit) (lines : List ℕ) → 0 < length (new_line is_new ++ merge_report pit commits lines)
some-report is_new pit commits lines =
    let rest = codes "value " ++ (value_text (value_of pit (held_period commits)) ++ shorts_text (shortfalls_of pit (held_period commits))) in
    omega (arith, length-append lines rest, length-append (new_line is_new) (merge_report pit commits lines))

laid-behind : (history ours : List Answered) → take (length ours) history ≡ ours
    → (b : ℕ) → held_period (commits_of history) b ≡ laid_over b (held_period (commits_of ours) b) (drop (length ours) history)
laid-behind history ours front b =
    let behind = drop (length ours) history in
    let whole : history ≡ ours ++ behind = sym (take-append-drop (length ours) history) ∙ ap (λ (h : List Answered). h ++ behind) front in
    ap (λ (h : List Answered). held_period (commits_of h) b) whole ∙ laid-over b ours behind

abbrev status_in : Result Status CliFault → Status
status_in (Ok status) = status
status_in (Err fault) = Fine

pub written-merge : (options : MergeOptions) (begun : Prepared) (edits : List Reading) (out lines : Writing) (kept : Option Keeping) (status : Status)
    → (merge_run options begun edits out lines kept).Gives tt status → IsOfOneMerge options begun edits out lines kept status
written-merge options begun edits out lines kept status (start, opened, (merged, taken, (same, passed, (again, may, written)))) =
    let goes = goes-through options 1 edits start merged taken in
    let desk : State = merged.merging.desk in
    let pit_is : desk.plan.pit ≡ begun.pit = goes.same_pit ∙ opened.opened.same_pit in
    let ours = entries_before begun.opening in
    let long : length ours ≡ length start.merging.desk.history = ap (λ (h : List Answered). length h) (sym opened.opened.history) in
    let front : take (length ours) desk.history ≡ ours
    = goes.front (length ours) (omega (arith, long)) ∙ (ap (λ (h : List Answered). take (length ours) h) opened.opened.history ∙ take_all (length ours) ours (omega arith)) in
    let all = outputs_given out lines kept (merge_outputs begun.is_new merged) (Ok (merge_status merged.merging.is_whole)) begun.is_carried_on status
    (subst (λ (x : Merged). (outputs_run begun.is_carried_on (merge_outputs begun.is_new x) (Ok (merge_status x.merging.is_whole)) out lines kept).Gives tt status) passed.0 written) in
    record {
      start = start;
      merged = merged;
      opened = opened;
      taken = taken;
      good_opening = opened.opened.is_good;
      same_pit = pit_is;
      begins = front;
      laid = λ b. laid-behind desk.history ours front b;
      one_thread = kept-one-thread begun.pit desk passed.1 pit_is;
      solution = all.1.0;
      report = all.1.1;
      sound = all.1.2 (some-report begun.is_new desk.plan.pit (commits_of desk.history) merged.merging.lines);
      history = all.1.3;
      ended = sym (ap status_in all.0);
    }

-- An edit that was reviewed on a desk's plan and reported is merged.
use Rattle.std.proofs.Common.{◌≡◌, ℕ, ◌<◌, ◌≤◌, ◌==◌, ◌&&◌, Bool, List, ◌++◌, length, Option, refl, sym, ap, subst, ◌∙◌}
use Rattle.std.specs.Prelude.{All}
use Rattle.std.proofs.lemmas.List.Elements.{All-filter}
use Rattle.pit_plan.specs.Schedule.{Commit, held_period, last_number}
use Rattle.pit_plan.specs.Standing.{Standing, period_of, version_of}
use Rattle.pit_desk.specs.History.{commits_of}
use Rattle.pit_desk.specs.Legal.{Follows}
use Rattle.pit_log.specs.Causes.{last_writer}
use Rattle.pit_log.specs.Makers.{AreMakers, maker_of}
use Rattle.pit_edit.specs.Changes.{Edit, changes_of, is_late, late_of, kept_of, left_of}
use Rattle.pit_edit.specs.Calls.{IsEntered}
use Rattle.pit_edit.specs.EditText.{entry_number, edit_cause, edit_line, conflicts_text, edit_text}
use Rattle.pit_edit.specs.Merging.{Merging, IsMerged, was_granted}
use Rattle.pit_edit.specs.Inside.Reviews.{writer_in, changes_on, IsReview, IsReported}
use Rattle.pit_edit.proofs.Filters.{changes-known, changes-same, late-same, kept-same, left-same}
use Rattle.pit_edit.proofs.Texts.{conflicts-same, reported-late}

module _ (is_partial : Bool) (edit : Edit) (old new : Merging) (makers kept : List ℕ) (changes left : ℕ) (conflicts : List ℕ) (follows : Follows old.desk.history old.desk.plan)
    (made : AreMakers old.desk.history makers) (seen : edit.start ≤ length (commits_of old.desk.history)) (review : IsReview is_partial edit old.desk.plan makers kept changes left conflicts)
    (reported : IsReported edit kept changes left conflicts old new) where
  abbrev plan : Standing
  plan = old.desk.plan

  abbrev commits : List Commit
  commits = commits_of old.desk.history

  abbrev blocks : ℕ
  blocks = plan.pit.blocks

  abbrev found : List ℕ
  found = changes_of blocks edit (held_period commits)

  known : All (λ b. b < blocks) found
  known = changes-known blocks edit (held_period commits)

  same-found : changes_on plan edit ≡ found
  same-found = changes-same blocks edit (period_of plan) (held_period commits) follows.stands.period

  same-kept : kept ≡ kept_of is_partial edit.start (last_number commits) found
  same-kept =
      review.kept_are
      ∙ (ap (λ (bs : List ℕ). kept_of is_partial edit.start (version_of plan) bs) same-found
      ∙ kept-same blocks edit.start (version_of plan) (last_number commits) found known follows.stands.version is_partial)

  same-count : changes ≡ length found
  same-count = review.changes_are ∙ ap (λ (bs : List ℕ). length bs) same-found

  same-left : left ≡ length (left_of is_partial edit.start (last_number commits) found)
  same-left =
      review.left_are
      ∙ (ap (λ (bs : List ℕ). length (left_of is_partial edit.start (version_of plan) bs)) same-found
      ∙ ap (λ (bs : List ℕ). length bs) (left-same blocks edit.start (version_of plan) (last_number commits) found known follows.stands.version is_partial))

  same-writer : (b : ℕ) → b < blocks → writer_in plan makers b ≡ last_writer old.desk.history b
  same-writer b below = ap (λ (n : ℕ). maker_of makers n) (follows.stands.version b below) ∙ sym (made.made b)

  same-conflicts : conflicts ≡ conflicts_text edit (held_period commits) (last_writer old.desk.history) (late_of edit.start (last_number commits) found)
  same-conflicts =
      review.conflicts_are
      ∙ (ap (λ (bs : List ℕ). conflicts_text edit (period_of plan) (writer_in plan makers) (late_of edit.start (version_of plan) bs)) same-found
      ∙ (ap (λ (bs : List ℕ). conflicts_text edit (period_of plan) (writer_in plan makers) bs)
      (late-same blocks edit.start (version_of plan) (last_number commits) found known follows.stands.version)
      ∙ conflicts-same blocks edit (period_of plan) (held_period commits) (writer_in plan makers) (last_writer old.desk.history) (late_of edit.start (last_number commits) found)
      (All-filter (is_late edit.start (last_number commits)) (λ b. b < blocks) found known) follows.stands.period same-writer))

  same-text : edit_line edit.number reported.answer.entry changes left reported.answer.cause reported.answer.reply ++ conflicts
      ≡ edit_text is_partial old.desk.history edit found kept reported.answer.reply
  same-text =
      let reply = reported.answer.reply in
      let late = late_of edit.start (last_number commits) found in
      let all = reported-late is_partial plan.pit old.desk.history edit found new.desk.history reply seen
      (subst (λ (bs : List ℕ). IsEntered plan.pit old.desk.history edit bs new.desk.history reply) same-kept reported.is_answer.entered) in
      ap (λ (x : Option ℕ). edit_line edit.number x changes left reported.answer.cause reply ++ conflicts) reported.is_answer.entry_is
      ∙ (ap (λ (n : ℕ). edit_line edit.number (entry_number old.desk.history reply) n left reported.answer.cause reply ++ conflicts) same-count
      ∙ (ap (λ (n : ℕ). edit_line edit.number (entry_number old.desk.history reply) (length found) n reported.answer.cause reply ++ conflicts) same-left
      ∙ (ap (λ (x : Option ℕ). edit_line edit.number (entry_number old.desk.history reply) (length found) (length (left_of is_partial edit.start (last_number commits) found)) x reply ++ conflicts)
      reported.is_answer.cause_is
      ∙ ap (λ (text : List ℕ). edit_line edit.number (entry_number old.desk.history reply) (length found) (length (left_of is_partial edit.start (last_number commits) found))
      (edit_cause old.desk.history edit kept reply) reply ++ text)
      (same-conflicts ∙ sym (ap (λ (bs : List ℕ). conflicts_text edit (held_period commits) (last_writer old.desk.history) bs) all)))))

  pub merged : IsMerged is_partial edit old new
  merged = record {
    changes = found;
    changes_are = refl;
    kept = kept;
    kept_are = same-kept;
    left = left_of is_partial edit.start (last_number commits) found;
    left_are = refl;
    reply = reported.answer.reply;
    entered = reported.is_answer.entered;
    same_pit = reported.same_pit;
    same_limit = reported.same_limit;
    reported = reported.lines ∙ ap (λ (text : List ℕ). old.lines ++ text) same-text;
    whole = reported.whole ∙ ap (λ (n : ℕ). old.is_whole && (was_granted reported.answer.reply && n == 0)) same-left;
  }

-- What is known of an edit before its call.
use Rattle.std.proofs.Common.{◌≡◌, ℕ, ◌<◌, Bool, true, cond, List, length, sym, ap, subst, ◌∙◌}
use Rattle.std.specs.Prelude.{All}
use Rattle.std.specs.List.Sorted.{IsStrictlyIncreasing}
use Rattle.pit_plan.specs.Standing.{Standing, period_of, version_of}
use Rattle.pit_edit.specs.Changes.{Edit, late_of, kept_of}
use Rattle.pit_edit.specs.EditText.{conflicts_text}
use Rattle.pit_edit.specs.Inside.Parts.{part_of}
use Rattle.pit_edit.specs.Inside.Reviews.{writer_in, changes_on, IsReview}
use Rattle.pit_edit.proofs.Filters.{changes-known, changes-rising, kept-known, kept-rising, left-count}

pub reviewed : (is_partial : Bool) (edit : Edit) (plan : Standing) (makers changes late kept : List ℕ) (start count left : ℕ) (conflicts : List ℕ) → start ≡ edit.start → changes ≡ changes_on plan edit
    → late ≡ part_of true start (version_of plan) changes → kept ≡ kept_of is_partial start (version_of plan) changes → count ≡ length changes → left ≡ cond is_partial (length late) 0
    → conflicts ≡ conflicts_text edit (period_of plan) (writer_in plan makers) late → IsReview is_partial edit plan makers kept count left conflicts
reviewed is_partial edit plan makers changes late kept start count left conflicts same found late_is kept_is counted left_is reported =
    let version : ℕ → ℕ = version_of plan in
    let all_late : late ≡ late_of edit.start version (changes_on plan edit) =
    late_is ∙ (ap (λ (n : ℕ). part_of true n version changes) same ∙ ap (λ (bs : List ℕ). part_of true edit.start version bs) found) in
    record {
      kept_are = kept_is ∙ (ap (λ (n : ℕ). kept_of is_partial n version changes) same ∙ ap (λ (bs : List ℕ). kept_of is_partial edit.start version bs) found);
      changes_are = counted ∙ ap (λ (bs : List ℕ). length bs) found;
      left_are = left-count is_partial edit.start version (changes_on plan edit) late left all_late left_is;
      conflicts_are = reported ∙ ap (λ (bs : List ℕ). conflicts_text edit (period_of plan) (writer_in plan makers) bs) all_late;
    }

-- the blocks that are written
module _ (is_partial : Bool) (edit : Edit) (plan : Standing) (makers kept : List ℕ) (changes left : ℕ) (conflicts : List ℕ) (review : IsReview is_partial edit plan makers kept changes left conflicts) where
  pub review-known : All (λ b. b < plan.pit.blocks) kept
  review-known =
      subst (All (λ b. b < plan.pit.blocks)) (sym review.kept_are)
      (kept-known is_partial plan.pit.blocks edit.start (version_of plan) (changes_on plan edit) (changes-known plan.pit.blocks edit (period_of plan)))

  pub review-rising : IsStrictlyIncreasing kept
  review-rising =
      subst IsStrictlyIncreasing (sym review.kept_are)
      (kept-rising is_partial edit.start (version_of plan) (changes_on plan edit) (changes-rising plan.pit.blocks edit (period_of plan)))

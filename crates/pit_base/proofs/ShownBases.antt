-- What is shown of a history was made from the commits that it shows.
use Rattle.std.proofs.Common.{◌≡◌, ℕ, ◌≤◌, Bool, List, ◌++◌, length, take, Option, Some, None, refl, sym, ap, subst, ◌∙◌, arith, append_assoc}
use Rattle.hex.specs.Hex.{encode_lower}
use Rattle.pit_model.specs.Pit.{Pit}
use Rattle.pit_plan.specs.declared.plan.TheConstants.{COMMITS_MAX}
use Rattle.pit_plan.specs.Schedule.{Commit}
use Rattle.pit_desk.specs.History.{Answered, commits_of}
use Rattle.pit_lines.specs.declared.format.Format.TheVariants.{Two}
use Rattle.pit_lines.specs.Texts.{entries_text}
use Rattle.pit_step.specs.LineTexts.{left_text}
use Rattle.pit_show.specs.Fronts.{IsFront}
use Rattle.pit_show.specs.ShowText.{sum_of, history_comment}
use Rattle.pit_show.specs.Show.{shown_count, IsHistoryComment, IsCommentBy, IsComment}
use Rattle.pit_base.specs.Marks.{IsMark, IsMarkOf}
use Rattle.pit_base.specs.Bases.{IsMarkedBase, IsBaseBy, IsSolutionBase}
use Rattle.pit_base.specs.Again.{IsShownOf}
use Rattle.pit_base.proofs.SumDigits.{sum-digits}
use Rattle.pit_base.proofs.Comments.{comment-mark, one-mark}
use Rattle.pit_base.proofs.Again.{IsOneHistory, commits-are}

-- a front of some entries is one of those that go on from them
front-on : (entries rest : List Answered) (count : ℕ) (front : List Answered) → IsFront entries count front → IsFront (entries ++ rest) count front
front-on entries rest count front is = record {
  rest = is.rest ++ rest;
  cut = ap (λ (h : List Answered). h ++ rest) is.cut ∙ append_assoc front is.rest rest;
  has = is.has;
  shortest = is.shortest;
}

module _ (once : IsOneHistory) (at : Option ℕ) (pit : Pit) (entries : List Answered) (answer : List ℕ) (few : length (commits_of entries) ≤ COMMITS_MAX) (is : IsShownOf at pit entries answer) where
  abbrev count : ℕ
  count = shown_count at is.shown.commits

  told : IsHistoryComment is.text count is.shown.comment
  unfolding IsComment
  told = subst (λ (k : Bool). IsCommentBy k is.text count is.shown.comment) is.kind is.shown.is_comment

  is-front : IsFront entries count told.front
  is-front = subst (λ (h : List Answered). IsFront h count told.front) (once is.text told.entries entries told.stands is.stands) told.is_front

  abbrev mark : ℕ × List ℕ
  mark = (length (commits_of told.front), encode_lower (sum_of told.front))

  counted : mark.0 ≡ count
  counted = is-front.has

  is-mark : IsMark answer mark
  is-mark =
      let left : List ℕ = left_text pit (take count is.shown.commits) in
      let shown : answer ≡ history_comment told.front ++ left = is.shown.says ∙ ap (λ (comment : List ℕ). comment ++ left) told.says in
      let fits : mark.0 ≤ COMMITS_MAX = omega (arith, few, counted, is.shown.enough, ap length (commits-are once at pit entries answer is)) in
      subst (λ (text : List ℕ). IsMark text mark) (sym shown) (comment-mark mark.0 mark.1 fits (sum-digits (entries_text Two told.front)) left)

  -- ---- the base

  counts-are : count ≡ shown_count at (commits_of entries)
  counts-are = ap (λ (cs : List Commit). shown_count at cs) (commits-are once at pit entries answer is)

  marked-base : (rest : List Answered) (n : ℕ) → n ≡ count → IsMarkedBase (entries ++ rest) mark n
  marked-base rest n same = record {
    count_is = same ∙ sym counted;
    front = told.front;
    is_front = subst (λ (k : ℕ). IsFront (entries ++ rest) k told.front) (sym same) (front-on entries rest count told.front is-front);
    sum = refl;
  }

  by-mark : (ours : List Answered) (is_resumed : Bool) (from : Option ℕ) (n : ℕ) (other : Option (ℕ × List ℕ)) → IsMarkOf answer other → IsBaseBy ours is_resumed from other n → n ≡ count
  by-mark ours is_resumed from n (Some other) one base = base.count_is ∙ (one-mark answer other mark one is-mark ∙ counted)
  by-mark ours is_resumed from n None none base = absurd (none mark is-mark)

  module _ (rest : List Answered) (is_resumed : Bool) (from : Option ℕ) (n : ℕ) where
    pub shown-base : n ≡ shown_count at (commits_of entries) → IsSolutionBase (entries ++ rest) is_resumed from answer n
    shown-base same = record { mark = Some mark; is_mark = is-mark; base = marked-base rest n (same ∙ sym counts-are) }

    pub base-shown : IsSolutionBase (entries ++ rest) is_resumed from answer n → n ≡ shown_count at (commits_of entries)
    base-shown base = by-mark (entries ++ rest) is_resumed from n base.mark base.is_mark base.base ∙ counts-are

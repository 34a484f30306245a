-- What is shown of the text of a history.
use Rattle.std.proofs.Common.{◌≡◌, ℕ, ◌++◌, Bool, true, List, length, take, None, refl, sym, ap, subst, ◌∙◌, arith}
use Rattle.std.proofs.lemmas.List.{take_all}
use Rattle.pit_model.specs.Pit.{Pit}
use Rattle.pit_plan.specs.Schedule.{Commit}
use Rattle.pit_desk.specs.History.{Answered, commits_of}
use Rattle.pit_lines.specs.declared.format.Format.{Format}
use Rattle.pit_lines.specs.declared.format.Format.TheVariants.{One, Two}
use Rattle.pit_lines.specs.Texts.{format_of, text_in, history_text}
use Rattle.pit_lines.specs.Lines.{StandsForHistory}
use Rattle.pit_state.specs.States.{is_history, EachFits, IsHistoryState, IsStateBy, IsStateOf}
use Rattle.pit_state.proofs.CallerLemmas.{history-state}
use Rattle.pit_step.specs.LineTexts.{left_text}
use Rattle.pit_show.specs.Fronts.{IsFront}
use Rattle.pit_show.specs.ShowText.{history_comment}
use Rattle.pit_show.specs.Show.{IsHistoryComment, IsCommentBy, IsComment, IsShown}

-- it is told by its first byte
kind_in : (format : Format) (history : List Answered) → is_history (text_in format history) ≡ true
kind_in One history = refl
kind_in Two history = refl

history_kind : (history : List Answered) → is_history (history_text history) ≡ true
history_kind history = kind_in (format_of history) history

comment_as : (text : List ℕ) (history front : List Answered) (count : ℕ) → is_history text ≡ true → StandsForHistory text history → IsFront history count front
    → IsComment text count (history_comment front)
unfolding IsComment
comment_as text history front count kind stands is = rw kind (record { entries = history; stands = stands; front = front; is_front = is; says = refl })

pub whole_shown : (pit : Pit) (history front : List Answered) → StandsForHistory (history_text history) history → EachFits pit history → IsFront history (length (commits_of history)) front
    → IsShown None pit (history_text history) (history_comment front ++ left_text pit (commits_of history))
whole_shown pit history front stands fits is =
    let commits : List Commit = commits_of history in
    record {
      commits = commits;
      stands = history-state pit (history_text history) commits (history_kind history) (record { entries = history; stands = stands; fits = fits; are = refl });
      enough = omega arith;
      comment = history_comment front;
      is_comment = comment_as (history_text history) history front (length commits) (history_kind history) stands is;
      says = ap (λ (cs : List Commit). history_comment front ++ left_text pit cs) (sym (take_all (length commits) commits (omega arith)));
    }

module _ (once : (text : List ℕ) (history other : List Answered) → StandsForHistory text history → StandsForHistory text other → history ≡ other) where
  state_commits : (pit : Pit) (text : List ℕ) (history : List Answered) (commits : List Commit) → is_history text ≡ true → StandsForHistory text history → IsStateOf pit text commits
      → commits ≡ commits_of history
  unfolding IsStateOf
  state_commits pit text history commits kind stands is =
      let state : IsHistoryState pit text commits = subst (λ (b : Bool). IsStateBy b pit text commits) kind is in
      state.are ∙ ap commits_of (once text state.entries history state.stands stands)

  comment_front : (text : List ℕ) (history : List Answered) (count : ℕ) (comment : List ℕ) → is_history text ≡ true → StandsForHistory text history → IsComment text count comment
      → (front : List Answered) × IsFront history count front × (comment ≡ history_comment front)
  unfolding IsComment
  comment_front text history count comment kind stands is =
      let told : IsHistoryComment text count comment = subst (λ (b : Bool). IsCommentBy b text count comment) kind is in
      (told.front, subst (λ (h : List Answered). IsFront h count told.front) (once text told.entries history told.stands stands) told.is_front, told.says)

  pub shown_whole : (pit : Pit) (history : List Answered) (answer : List ℕ) → StandsForHistory (history_text history) history → IsShown None pit (history_text history) answer
      → (front : List Answered) × IsFront history (length (commits_of history)) front × (answer ≡ history_comment front ++ left_text pit (commits_of history))
  shown_whole pit history answer stands shown =
      let same = state_commits pit (history_text history) history shown.commits (history_kind history) stands shown.stands in
      let told = comment_front (history_text history) history (length shown.commits) shown.comment (history_kind history) stands shown.is_comment in (
        told.0,
        subst (λ (commits : List Commit). IsFront history (length commits) told.0) same told.1,
        shown.says
            ∙ ap (λ (comment : List ℕ). comment ++ left_text pit (take (length shown.commits) shown.commits)) told.2
            ∙ ap (λ (commits : List Commit). history_comment told.0 ++ left_text pit commits) (take_all (length shown.commits) shown.commits (omega arith) ∙ same),
      )

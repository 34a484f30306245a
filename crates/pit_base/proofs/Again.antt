-- What is shown stands for what it shows.
use Rattle.std.proofs.Common.{◌≡◌, ℕ, zero, suc, ◌<◌, ◌≤◌, ◌^◌, Bool, true, false, inl, List, [], ◌∷◌, ◌++◌, length, take, Option, IfSome, All, refl, sym, ap, subst, ◌∙◌, arith}
use Rattle.std.proofs.lemmas.List.{take_all}
use Rattle.std.proofs.lemmas.List.Elements.{All-take}
use Rattle.hex.specs.Hex.{encode_lower}
use Rattle.pit_model.specs.Pit.{Pit, IsSound}
use Rattle.pit_plan.specs.declared.plan.TheConstants.{COMMITS_MAX}
use Rattle.pit_plan.specs.Schedule.{Commit, held_period}
use Rattle.pit_plan.proofs.CallerLemmas.{held_period-nil, held_in_range}
use Rattle.pit_desk.specs.History.{Answered, commits_of}
use Rattle.pit_lines.specs.declared.format.Format.{Format}
use Rattle.pit_lines.specs.declared.format.Format.TheVariants.{One, Two}
use Rattle.pit_lines.specs.Lines.{StandsForHistory}
use Rattle.pit_lines.specs.Texts.{format_of, text_in, entries_text, history_text}
use Rattle.pit_text.specs.Solution.{period_in, schedule_of}
use Rattle.pit_text.specs.SolutionText.{solution_text}
use Rattle.pit_step.specs.Inputs.{IsSolutionOf}
use Rattle.pit_step.specs.LineTexts.{left_text}
use Rattle.pit_state.specs.States.{is_history, commits_of_schedule, IsHistoryState, IsSolutionState, IsStateBy, IsStateOf}
use Rattle.pit_state.proofs.CallerLemmas.{solution-state}
use Rattle.pit_show.specs.ShowText.{sum_of}
use Rattle.pit_show.specs.Show.{shown_count, IsCommentBy, IsComment, IsShown}
use Rattle.pit_base.specs.Again.{ArePeriodsOf, IsLeadingComment, StandsForLeft, IsShownOf}
use Rattle.pit_base.proofs.InRange.{DoWritesFit, fit-each}
use Rattle.pit_base.proofs.Laid.{held-of_schedule}
use Rattle.pit_base.proofs.Schedules.{as_facts, period-written, lookup-written, stated-in_time, written-kind, written-stands, schedule-written}
use Rattle.pit_base.proofs.SumDigits.{sum-digits}
use Rattle.pit_base.proofs.Comments.{comment-leads}

-- ---- a solution

pub again-left : (blocks : ℕ) (period : ℕ → Option ℕ) (b : ℕ) → b < blocks → held_period (commits_of_schedule (schedule_of blocks period)) b ≡ period b
again-left blocks period b below =
    sym (held-of_schedule (schedule_of blocks period) b) ∙ (lookup-written (schedule_of blocks period) b ∙ period-written blocks period b below)

module _ (pit : Pit) (sound : IsSound pit) where
  few : pit.blocks ≤ 2 ^ 32
  few = omega (arith, sound.few_blocks)

  pub again-kind : (comment : List ℕ) (period : ℕ → Option ℕ) → IsLeadingComment comment → is_history (comment ++ solution_text (schedule_of pit.blocks period)) ≡ false
  again-kind comment period leads = written-kind pit.blocks pit.periods period few comment leads

  pub again-stands : (comment : List ℕ) (period : ℕ → Option ℕ) → IsLeadingComment comment → ArePeriodsOf pit period
      → IsSolutionOf pit (comment ++ solution_text (schedule_of pit.blocks period)) (schedule_of pit.blocks period)
  again-stands comment period leads in_range = record {
    facts = as_facts (schedule_of pit.blocks period);
    stands = written-stands pit.blocks pit.periods period few (omega (arith, sound.few_periods)) in_range comment leads;
    says = sym (schedule-written pit.blocks period);
  }

  left-again : (comment text : List ℕ) (commits : List Commit) → IsLeadingComment comment → ArePeriodsOf pit (held_period commits) → text ≡ comment ++ left_text pit commits → StandsForLeft pit text commits
  left-again comment text commits leads in_range is =
      let period : ℕ → Option ℕ = held_period commits in
      let schedule : List (ℕ × ℕ) = schedule_of pit.blocks period in
      let kind : is_history text ≡ false = ap is_history is ∙ again-kind comment period leads in
      let stands : IsSolutionOf pit text schedule = subst (λ (t : List ℕ). IsSolutionOf pit t schedule) (sym is) (again-stands comment period leads in_range) in
      record {
        kind = kind;
        again = commits_of_schedule schedule;
        stands = solution-state pit text (commits_of_schedule schedule) kind (record { schedule = schedule; stands = stands; are = refl });
        same = λ b below. again-left pit.blocks period b below;
      }

-- ---- what is shown

few-commits : (schedule : List (ℕ × ℕ)) → length (commits_of_schedule schedule) ≤ 1
few-commits [] = omega arith
few-commits (pair ∷ more) = omega arith

module _ (pit : Pit) (text : List ℕ) (commits : List Commit) where
  solution-range : (n : ℕ) → IsSolutionState pit text commits → ArePeriodsOf pit (held_period (take n commits))
  solution-range zero is = λ b below. subst (λ (o : Option ℕ). IfSome o (λ t. t < pit.periods)) (sym (held_period-nil b)) tt
  solution-range (suc n) is = λ b below.
      let whole : take (suc n) commits ≡ commits_of_schedule is.schedule =
      ap (λ (cs : List Commit). take (suc n) cs) is.are ∙ take_all (suc n) (commits_of_schedule is.schedule) (omega (arith, few-commits is.schedule)) in
      let period : ℕ → Option ℕ = period_in is.stands.facts in
      let held : held_period (take (suc n) commits) b ≡ period b =
      ap (λ (cs : List Commit). held_period cs b) (whole ∙ ap commits_of_schedule is.stands.says) ∙ again-left pit.blocks period b below in
      subst (λ (o : Option ℕ). IfSome o (λ t. t < pit.periods)) (sym held) (stated-in_time pit.blocks pit.periods [] _ is.stands.facts b is.stands.stands)

  history-range : (n : ℕ) → IsHistoryState pit text commits → ArePeriodsOf pit (held_period (take n commits))
  history-range n is = λ b below.
      held_in_range pit.blocks pit.periods (take n commits) b (All-take (DoWritesFit pit) n commits (subst (All (DoWritesFit pit)) (sym is.are) (fit-each pit is.entries is.fits)))

  state-range : (n : ℕ) (kind : Bool) → IsStateBy kind pit text commits → ArePeriodsOf pit (held_period (take n commits))
  state-range n true is = history-range n is
  state-range n false is = solution-range n is

  pub in-range : (n : ℕ) → IsStateOf pit text commits → ArePeriodsOf pit (held_period (take n commits))
  unfolding IsStateOf
  in-range n is = state-range n (is_history text) is

comment-by : (kind : Bool) (text : List ℕ) (count : ℕ) (comment : List ℕ) → count ≤ COMMITS_MAX → IsCommentBy kind text count comment → IsLeadingComment comment
comment-by true text count comment few is =
    subst IsLeadingComment (sym is.says)
    (comment-leads (length (commits_of is.front)) (encode_lower (sum_of is.front)) (omega (arith, few, is.is_front.has)) (sum-digits (entries_text Two is.front)))
comment-by false text count comment few is = inl is

leads : (text : List ℕ) (count : ℕ) (comment : List ℕ) → count ≤ COMMITS_MAX → IsComment text count comment → IsLeadingComment comment
unfolding IsComment
leads text count comment few is = comment-by (is_history text) text count comment few is

pub shown-stands : (at : Option ℕ) (pit : Pit) (text answer : List ℕ) → IsSound pit → (shown : IsShown at pit text answer) → length shown.commits ≤ COMMITS_MAX
    → StandsForLeft pit answer (take (shown_count at shown.commits) shown.commits)
shown-stands at pit text answer sound shown few =
    left-again pit sound shown.comment answer (take (shown_count at shown.commits) shown.commits) (leads text (shown_count at shown.commits) shown.comment (omega (arith, few, shown.enough)) shown.is_comment)
    (in-range pit text shown.commits (shown_count at shown.commits) shown.stands) shown.says

-- ---- of a history

-- the text of one is told by its first byte
kind_in : (format : Format) (history : List Answered) → is_history (text_in format history) ≡ true
kind_in One history = refl
kind_in Two history = refl

pub history-shown : (at : Option ℕ) (pit : Pit) (history : List Answered) (answer : List ℕ) → StandsForHistory (history_text history) history → IsShown at pit (history_text history) answer
    → IsShownOf at pit history answer
history-shown at pit history answer stands shown = record { text = history_text history; kind = kind_in (format_of history) history; stands = stands; shown = shown }

abbrev pub IsOneHistory : Type 0
IsOneHistory = (text : List ℕ) (history other : List Answered) → StandsForHistory text history → StandsForHistory text other → history ≡ other

module _ (once : IsOneHistory) (at : Option ℕ) (pit : Pit) (entries : List Answered) (answer : List ℕ) (is : IsShownOf at pit entries answer) where
  -- its commits are those of the entries
  pub commits-are : is.shown.commits ≡ commits_of entries
  unfolding IsStateOf
  commits-are =
      let state : IsHistoryState pit is.text is.shown.commits = subst (λ (k : Bool). IsStateBy k pit is.text is.shown.commits) is.kind is.shown.stands in
      state.are ∙ ap commits_of (once is.text state.entries entries state.stands is.stands)

  pub history-stands : IsSound pit → length (commits_of entries) ≤ COMMITS_MAX → StandsForLeft pit answer (take (shown_count at (commits_of entries)) (commits_of entries))
  history-stands sound few =
      subst (λ (cs : List Commit). StandsForLeft pit answer (take (shown_count at cs) cs)) commits-are
      (shown-stands at pit is.text answer sound is.shown (omega (arith, few, ap length commits-are)))

  pub shown-enough : shown_count at (commits_of entries) ≤ length (commits_of entries)
  shown-enough = subst (λ (cs : List Commit). shown_count at cs ≤ length cs) commits-are is.shown.enough

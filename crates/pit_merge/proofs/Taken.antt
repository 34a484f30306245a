-- Edits that are taken one after another.
use Rattle.std.proofs.Common.{◌≡◌, ℕ, ◌+◌, ◌≤◌, Bool, List, [], ◌∷◌, ◌++◌, length, length-append, take, drop, get_or, Option, inl, inr, sym, ap, subst, ◌∙◌, arith}
use Rattle.std.proofs.lemmas.List.{take-append-drop, take-append-le}
use Rattle.std.proofs.lemmas.List.Elements.{All-take}
use Rattle.std.proofs.lemmas.Option.{slice_get-get_or}
use Rattle.pit_model.specs.Pit.{Pit}
use Rattle.pit_plan.specs.Schedule.{Commit, held_period}
use Rattle.pit_plan.specs.Standing.{Standing}
use Rattle.pit_desk.specs.History.{Answered, CallFits, commits_of}
use Rattle.pit_desk.specs.Legal.{Follows}
use Rattle.pit_state.specs.States.{EachFits}
use Rattle.pit_desk.specs.declared.reply.EntryReply.{EntryReply}
use Rattle.pit_step.specs.declared.fault.CliFault.{CliFault}
use Rattle.pit_step.specs.Steps.{through}
use Rattle.pit_step.specs.Devices.{Reading, reading_of, readings_by}
use Rattle.pit_step.proofs.CallerLemmas.{keeps_itself}
use Rattle.pit_state.proofs.CallerLemmas.{commits_of-append}
use Rattle.pit_base.specs.Held.{AreLeft, AreInRange}
use Rattle.pit_edit.specs.Changes.{Edit, IsEditOn}
use Rattle.pit_edit.specs.Calls.{edit_entry, IsEntered}
use Rattle.pit_merge.specs.declared.options.MergeOptions.{MergeOptions}
use Rattle.pit_merge.specs.Edits.{Merged, edit_step}

-- ---- steps

module _ {E : Type 0} (remaining : E → Option (List ℕ)) (has_failed : E → Bool) (options : MergeOptions) where
  abbrev pub read_of : E → E → Reading
  read_of old new = reading_of (remaining old) (remaining new) (has_failed new)

  abbrev pub reads_of : List E → List E → List Reading
  reads_of olds news = readings_by read_of olds news

  -- edits that are not looked at
  pub untouched : (number : ℕ) (edits : List E) → (through (edit_step options) number (reads_of edits edits)).IsUntouched
  untouched number [] = tt
  untouched number (edit ∷ edits) = (keeps_itself (remaining edit), untouched (number + 1) edits)

  module _ (number : ℕ) (old new : E) (olds news : List E) (merged : Merged) where
    pub first-fails : (fault : CliFault) → olds ≡ news → (edit_step options number (read_of old new)).Fails merged fault
        → (through (edit_step options) number (reads_of (old ∷ olds) (new ∷ news))).Fails merged fault
    first-fails fault same fails = inl (fails, subst (λ (xs : List E). (through (edit_step options) (number + 1) (reads_of olds xs)).IsUntouched) same (untouched (number + 1) olds))

    module _ (between : Merged) (taken : (edit_step options number (read_of old new)).Gives merged between) where
      pub others-fail : (fault : CliFault) → (through (edit_step options) (number + 1) (reads_of olds news)).Fails between fault
          → (through (edit_step options) number (reads_of (old ∷ olds) (new ∷ news))).Fails merged fault
      others-fail fault fails = inr (between, taken, fails)

      pub all-taken : (last : Merged) → (through (edit_step options) (number + 1) (reads_of olds news)).Gives between last
          → (through (edit_step options) number (reads_of (old ∷ olds) (new ∷ news))).Gives merged last
      all-taken last others = (between, taken, others)

-- ---- the entries that a merge began with

-- they stand before those of the edits
pub entered-front : (pit : Pit) (before after : List Answered) (edit : Edit) (blocks : List ℕ) (reply : Option EntryReply) (n : ℕ) → n ≤ length before → IsEntered pit before edit blocks after reply → take n after ≡ take n before
entered-front pit before after edit [] reply n within is = ap (λ (h : List Answered). take n h) is.0
entered-front pit before after edit (b ∷ blocks) reply n within is = ap (λ (h : List Answered). take n h) is.after_is ∙ take-append-le n before (edit_entry edit (b ∷ blocks) is.due ∷ []) within

pub entered-longer : (pit : Pit) (before after : List Answered) (edit : Edit) (blocks : List ℕ) (reply : Option EntryReply) → IsEntered pit before edit blocks after reply → length before ≤ length after
entered-longer pit before after edit [] reply is = omega (arith, ap (λ (h : List Answered). length h) is.0)
entered-longer pit before after edit (b ∷ blocks) reply is = omega (arith, ap (λ (h : List Answered). length h) is.after_is, length-append before (edit_entry edit (b ∷ blocks) is.due ∷ []))

module _ (history : List Answered) (n : ℕ) where
  cut : commits_of history ≡ commits_of (take n history) ++ commits_of (drop n history)
  cut = ap commits_of (sym (take-append-drop n history)) ∙ commits_of-append (take n history) (drop n history)

  -- a front of their commits is one of all commits
  pub front-of-all : (start : ℕ) → start ≤ length (commits_of (take n history)) → take start (commits_of (take n history)) ≡ take start (commits_of history)
  front-of-all start within = sym (ap (λ (cs : List Commit). take start cs) cut ∙ take-append-le start (commits_of (take n history)) (commits_of (drop n history)) within)

  pub few-of-all : length (commits_of (take n history)) ≤ length (commits_of history)
  few-of-all = omega (arith, ap (λ (cs : List Commit). length cs) cut, length-append (commits_of (take n history)) (commits_of (drop n history)))

-- a front is no longer, and its entries fit as all do
pub front-few : (n : ℕ) (history : List Answered) → length (take n history) ≤ length history
front-few n history = omega (arith, ap (λ (h : List Answered). length h) (take-append-drop n history), length-append (take n history) (drop n history))

pub front-fits : (n : ℕ) (history : List Answered) (plan : Standing) → Follows history plan → EachFits plan.pit (take n history)
front-fits n history plan follows =
    All-take (λ (e : Answered). CallFits plan.pit e.call) n history (λ k d below. (follows.legal k (get_or history k d) (slice_get-get_or history k d below)).fits)

-- an edit whose base is such a front is one on the history
pub on-history : (pit : Pit) (history : List Answered) (n : ℕ) (edit : Edit) (wants : List Commit) → edit.start ≤ length (commits_of (take n history)) → AreLeft pit.blocks wants edit.wanted
    → AreInRange pit edit.wanted → AreLeft pit.blocks (take edit.start (commits_of (take n history))) edit.base → IsEditOn pit (commits_of history) edit
on-history pit history n edit wants within wanted range base = record {
  seen = omega (arith, within, few-of-all history n);
  each_base = base.count;
  each_wanted = wanted.count;
  base = λ b below. base.each b below ∙ ap (λ (cs : List Commit). held_period cs b) (front-of-all history n edit.start within);
  in_range = range;
}

-- What is held right behind an edit that was committed.
use Rattle.std.proofs.Common.{◌≡◌, ℕ, List, [], ◌∷◌, ◌++◌, Option, Some, None, ap, ◌∙◌}
use Rattle.std.specs.Prelude.{Contains, unwrap_or}
use Rattle.pit_plan.specs.Schedule.{Commit, write_of, held_period}
use Rattle.pit_plan.proofs.CallerLemmas.{held_period-push}
use Rattle.pit_desk.specs.History.{Answered, commit_of, commits_of}
use Rattle.pit_desk.specs.declared.reply.EntryReply.TheVariants.{Committed}
use Rattle.pit_desk.proofs.CallerLemmas.{commits_of-push}
use Rattle.pit_edit.specs.Changes.{Edit, wanted_of}
use Rattle.pit_edit.specs.Calls.{edit_call, edit_entry}
use Rattle.pit_edit.proofs.Lookups.{absent, there, none-of}

module _ (before : List Answered) (edit : Edit) (blocks : List ℕ) (number b : ℕ) where
  abbrev after : List Answered
  after = before ++ edit_entry edit blocks (Committed number) ∷ []

  held-after : (said : Option (Option ℕ)) → write_of (commit_of (edit_call edit blocks)) b ≡ said
      → held_period (commits_of after) b ≡ unwrap_or said (held_period (commits_of before) b)
  held-after said is =
      ap (λ (cs : List Commit). held_period cs b) (commits_of-push before (edit_entry edit blocks (Committed number)))
      ∙ (held_period-push (commits_of before) (commit_of (edit_call edit blocks)) b ∙ ap (λ (s : Option (Option ℕ)). unwrap_or s (held_period (commits_of before) b)) is)

  pub written : Contains blocks b → held_period (commits_of after) b ≡ wanted_of edit b
  written among = held-after (Some (wanted_of edit b)) (there (wanted_of edit) b blocks among)

  pub others : (Contains blocks b → ⊥) → held_period (commits_of after) b ≡ held_period (commits_of before) b
  others isnt = held-after None (absent (wanted_of edit) b blocks (none-of blocks b isnt))

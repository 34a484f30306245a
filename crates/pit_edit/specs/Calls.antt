-- The call of an edit, and its entry.
use Rattle.std.specs.Prelude.{◌≡◌, ℕ, List, [], ◌∷◌, ◌++◌, map, Option, Some, None}
use Rattle.pit_model.specs.Pit.{Pit}
use Rattle.pit_desk.specs.History.{Call, Answered, commits_of}
use Rattle.pit_desk.specs.Replies.{IsReply}
use Rattle.pit_desk.specs.declared.entry.Act.TheVariants as act
use Rattle.pit_desk.specs.declared.reply.EntryReply.{EntryReply}
use Rattle.pit_edit.specs.Changes.{Edit, base_of, wanted_of}

-- It is the planner of the edit's number, for job 1. It began where the base did, read the base's periods of these blocks, and writes the edit's.
abbrev pub edit_call : Edit → List ℕ → Call
edit_call edit blocks =
    record {
      planner = edit.number;
      job = 1;
      start = edit.start;
      reads = map (λ b. (b, base_of edit b)) blocks;
      writes = map (λ b. (b, wanted_of edit b)) blocks;
      revises = [];
      act = act.Commit;
    }

abbrev pub edit_entry : Edit → List ℕ → EntryReply → Answered
edit_entry edit blocks reply = record { call = edit_call edit blocks; reply = reply }

-- the call gets the reply that is due, and makes one entry
pub record IsAnswered (pit : Pit) (before : List Answered) (edit : Edit) (blocks : List ℕ) (after : List Answered) (reply : Option EntryReply) : Type 0 where
  pub due : EntryReply
  pub reply_is : reply ≡ Some due
  pub is_due : IsReply pit (commits_of before) (edit_call edit blocks) due
  pub after_is : after ≡ before ++ edit_entry edit blocks due ∷ []

-- where no block is written there is no call
abbrev pub IsEntered : Pit → List Answered → Edit → List ℕ → List Answered → Option EntryReply → Type 0
IsEntered pit before edit [] after reply = (after ≡ before) × (reply ≡ None)
IsEntered pit before edit (b ∷ blocks) after reply = IsAnswered pit before edit (b ∷ blocks) after reply

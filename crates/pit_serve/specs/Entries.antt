-- The entries that a session makes.
use Rattle.std.specs.Prelude.{ℕ, true, nat_eq, List, [], ◌∷◌, ◌++◌, Option, Some, None}
use Rattle.pit_model.specs.Pit.{Pit}
use Rattle.pit_keyed.specs.Keyed.{with_write}
use Rattle.pit_tx.specs.Sets.{Sets, empty_sets, known_of}
use Rattle.pit_desk.specs.History.{Answered}
use Rattle.pit_desk.specs.Calls.{work_call}
use Rattle.pit_desk.specs.declared.entry.Act.TheVariants.{Commit as commit_act}
use Rattle.pit_serve.specs.Asked.{asked_of}
use Rattle.pit_serve.specs.Sessions.{Turn}
use Rattle.pit_serve.specs.declared.answer.Answer.{Answer}
use Rattle.pit_serve.specs.declared.answer.Answer.TheVariants.{Begun, Held, Done, Ended}
use Rattle.pit_serve.specs.declared.asked.Asked.{Asked}
use Rattle.pit_serve.specs.declared.asked.Asked.TheVariants as asked
use Rattle.pit_serve.specs.declared.request.Request.TheVariants as ask

-- ---- the sets of a transaction, turn by turn

-- a block that wasn't known is noted
abbrev pub noted_by : Option (Option ℕ) → Sets → ℕ → Option ℕ → Sets
noted_by (Some known) sets block period = sets
noted_by None sets block period = record sets { reads = sets.reads ++ (block, period) ∷ [] }

-- what is asked for is written
abbrev pub written_by : Asked → Sets → Sets
written_by (asked.Request (ask.Put block period)) sets = record sets { writes = with_write nat_eq sets.writes block (Some period) }
written_by (asked.Request (ask.Clear block)) sets = record sets { writes = with_write nat_eq sets.writes block None }
written_by other sets = sets

-- a planner's sets after an answer to what was asked for
abbrev pub sets_by : Pit → ℕ → Sets → Asked → Answer → Sets
sets_by pit planner sets asks (Begun job start) = empty_sets pit planner job start
sets_by pit planner sets asks (Held block period) = noted_by (known_of sets block) sets block period
sets_by pit planner sets asks Done = written_by asks sets
sets_by pit planner sets asks other = sets

-- what was answered so is written or noted by a transaction alone
abbrev pub sets_after : Pit → ℕ → Sets → Turn → Sets
sets_after pit planner sets turn = sets_by pit planner sets (asked_of pit true turn.line) turn.answer

-- ---- entries

-- an ending makes one, of what the transaction reads and writes
abbrev pub entry_of : Sets → Answer → List Answered
entry_of sets (Ended reply is_saved) = record { call = work_call sets commit_act; reply = reply } ∷ []
entry_of sets other = []

-- those of turns, where the sets are these before
unfoldable pub entries_of : Pit → ℕ → Sets → List Turn → List Answered
entries_of pit planner sets [] = []
entries_of pit planner sets (turn ∷ turns) = entry_of sets turn.answer ++ entries_of pit planner (sets_after pit planner sets turn) turns

-- those of a session, which begins between two transactions
abbrev pub session_entries_of : Pit → ℕ → List Turn → List Answered
session_entries_of pit planner turns = entries_of pit planner (empty_sets pit planner 0 0) turns

-- A planner's session: lines with their answers, one after another.
use Rattle.std.specs.Prelude.{◌≡◌, ◌⊎◌, ℕ, List, [], ◌∷◌, ◌++◌, length, map, flat_map, Option, Some, None, IfSome, ⊤}
use Rattle.std.specs.Io.KnownBytes.{Appends}
use mathlib.Core.List.{IsPrefix}
use Rattle.pit_model.specs.Pit.{Pit}
use Rattle.pit_share.specs.Planners.{PlannerState}
use Rattle.pit_serve.specs.Asked.{asked_of}
use Rattle.pit_serve.specs.InputLines.{answered_lines}
use Rattle.pit_serve.specs.Phases.{PhaseState, is_open}
use Rattle.pit_serve.specs.Phases.PhaseState.{Idle, Open}
use Rattle.pit_serve.specs.Replies.{answer_text}
use Rattle.pit_serve.specs.Serving.{Serves}
use Rattle.pit_serve.specs.declared.answer.Answer.{Answer}
use Rattle.pit_serve.specs.declared.answer.Answer.TheVariants.{Begun, Wrong}
use Rattle.pit_serve.specs.declared.asked.Asked.{Asked}
use Rattle.pit_serve.specs.declared.asked.Asked.TheVariants as asked
use Rattle.pit_serve.specs.declared.session_end.SessionEnd.{SessionEnd}
use Rattle.pit_serve.specs.declared.session_end.SessionEnd.TheVariants as ending

-- ---- turns

-- a line, without its line feed, and its answer
pub record Turn : Type 0 where
  pub line : List ℕ
  pub answer : Answer

-- a session between two turns: its planner, and how many of its answers were `begun`
pub record Standing : Type 0 where
  pub phase : PhaseState
  pub begun : ℕ

-- the last `begun` has their number
abbrev pub begun_after : ℕ → Answer → ℕ
begun_after begun (Begun job start) = job
begun_after begun answer = begun

-- what a line asks for is served, and what is wrong with it is told
abbrev pub Meets : Pit → ℕ → Standing → Asked → Answer → PhaseState → Type 0
Meets pit max_entries old (asked.Request request) answer new = Serves pit max_entries old.phase old.begun request answer new
Meets pit max_entries old (asked.Wrong fault) answer new = (answer ≡ Wrong fault) × (new ≡ old.phase)
Meets pit max_entries old other answer new = ⊥

-- one turn
pub record IsTurn (pit : Pit) (max_entries : ℕ) (old : Standing) (turn : Turn) (new : Standing) : Type 0 where
  pub meets : Meets pit max_entries old (asked_of pit (is_open old.phase) turn.line) turn.answer new.phase
  pub begun : new.begun ≡ begun_after old.begun turn.answer

-- turns one after another
abbrev pub AreTurns : Pit → ℕ → Standing → List Turn → Standing → Type 0
AreTurns pit max_entries old [] new = new ≡ old
AreTurns pit max_entries old (turn ∷ turns) new = (mid : Standing) × IsTurn pit max_entries old turn mid × AreTurns pit max_entries mid turns new

abbrev pub lines_in : List Turn → List (List ℕ)
lines_in turns = map (λ (t : Turn). t.line) turns

abbrev pub replies_of : List Turn → List ℕ
replies_of turns = flat_map (λ (t : Turn). answer_text t.answer) turns

-- ---- what the input has, and what the output gets

-- the lines to answer of what there was are these, and then those of what is left
abbrev pub AreLinesTo : Option (List ℕ) → List (List ℕ) → Option (List ℕ) → Type 0
AreLinesTo None lines after = ⊤
AreLinesTo (Some xs) lines None = ⊥
AreLinesTo (Some xs) lines (Some ys) = answered_lines xs ≡ lines ++ answered_lines ys

-- The lines that were answered, of those of an input that are: all, where the session goes on or ends with the input; else the first of them.
abbrev pub AreLinesOf : Option (List ℕ) → List (List ℕ) → Option (List ℕ) → Option SessionEnd → Type 0
AreLinesOf before lines after None = AreLinesTo before lines after
AreLinesOf before lines after (Some ending.Input) = IfSome before (λ xs. answered_lines xs ≡ lines)
AreLinesOf before lines after (Some other) = IfSome before (λ xs. IsPrefix lines (answered_lines xs))

-- Of the last turn no more than a front of the reply is told, where the output fails or there is no memory for it. There is no such turn where the
-- session goes on, or ends otherwise.
abbrev pub IsCut : Option SessionEnd → List Turn → List ℕ → Type 0
IsCut None cut front = (cut ≡ []) × (front ≡ [])
IsCut (Some ending.Input) cut front = (cut ≡ []) × (front ≡ [])
IsCut (Some ending.Output) cut front = (turn : Turn) × (cut ≡ turn ∷ []) × IsPrefix front (answer_text turn.answer)
IsCut (Some ending.NoStream) cut front = (cut ≡ []) × (front ≡ [])
IsCut (Some ending.NoThread) cut front = ⊥
IsCut (Some ending.NoMemory) cut front = ((cut ≡ []) ⊎ ((turn : Turn) × (cut ≡ turn ∷ []))) × (front ≡ [])

-- some turns of a session, and how it ends then, if it does
pub record Turns (pit : Pit) (max_entries : ℕ) (old new : Standing) (input_before input_after output_before output_after : Option (List ℕ)) (end : Option SessionEnd) (replies : ℕ) : Type 0 where
  pub told : List Turn
  pub cut : List Turn
  pub front : List ℕ
  pub turns : AreTurns pit max_entries old (told ++ cut) new
  pub lines : AreLinesOf input_before (lines_in (told ++ cut)) input_after end
  pub is_cut : IsCut end cut front
  pub output : Appends output_before output_after (replies_of told ++ front)
  pub count : replies ≡ length told

-- ---- a session

-- what is handed in at the end: a transaction that is still open is given up
abbrev pub Closes : PhaseState → PlannerState → Type 0
Closes (Idle planner) log = log ≡ planner
Closes (Open transaction) log = log ≡ transaction.planner

abbrev pub first_standing : PlannerState → Standing
first_standing planner = record { phase = Idle planner; begun = 0 }

-- a planner's session, and the log that it hands in
pub record IsSession (pit : Pit) (max_entries : ℕ) (planner : PlannerState) (input output_before output_after : Option (List ℕ)) (end : SessionEnd) (replies : ℕ) (log : PlannerState) : Type 0 where
  pub last : Standing
  pub left : Option (List ℕ)
  pub turns : Turns pit max_entries (first_standing planner) last input left output_before output_after (Some end) replies
  pub closes : Closes last.phase log

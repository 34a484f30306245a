-- One turn, part by part.
use Rattle.std.specs.Prelude.{◌≡◌, ℕ, ◌∷◌, [], Bool, true, if◌then◌else◌, List, Option, None, Some, IfSome, ⊤}
use Rattle.std.specs.Io.KnownBytes.{Appends}
use Rattle.pit_model.specs.Pit.{Pit}
use Rattle.pit_num.specs.Printed.{AppendsFront}
use Rattle.pit_serve.specs.Asked.{asked_of}
use Rattle.pit_serve.specs.InputLines.{input_lines}
use Rattle.pit_serve.specs.Phases.{phase_of}
use Rattle.pit_serve.specs.Replies.{answer_text}
use Rattle.pit_serve.specs.Sessions.{Standing, Meets, begun_after}
use Rattle.pit_serve.specs.declared.answer.Answer.{Answer}
use Rattle.pit_serve.specs.declared.asked.Asked.{Asked}
use Rattle.pit_serve.specs.declared.session_end.SessionEnd.{SessionEnd}
use Rattle.pit_serve.specs.declared.session_end.SessionEnd.TheVariants as ending
use Rattle.pit_serve.specs.declared.sitting.Sitting.{Sitting}

abbrev pub standing_of : {S R A : Type 0} → Sitting S R A → Standing
standing_of sitting = record { phase = phase_of sitting.phase; begun = sitting.begun }

-- a line is the first of an input, and the only one where it is the last
abbrev pub Comes : Option (List ℕ) → List ℕ → Bool → Option (List ℕ) → Type 0
Comes None line is_last after = ⊤
Comes (Some xs) line is_last None = ⊥
Comes (Some xs) line is_last (Some ys) = (input_lines xs ≡ line ∷ input_lines ys) × (is_last ≡ true → input_lines ys ≡ [])

-- a line came, and asks for this
pub record IsHeard (pit : Pit) (is_open : Bool) (before after : Option (List ℕ)) (asked : Asked) (is_last : Bool) : Type 0 where
  pub line : List ℕ
  pub asks : asked ≡ asked_of pit is_open line
  pub comes : Comes before line is_last after

-- behind its last line a session ends with its input
abbrev pub end_if : Bool → Option SessionEnd
end_if is_last = if is_last then Some ending.Input else None

-- why no line came; the input ended where it has none
abbrev pub HearsNone : Option (List ℕ) → SessionEnd → Type 0
HearsNone before ending.Input = IfSome before (λ xs. input_lines xs ≡ [])
HearsNone before ending.NoStream = ⊤
HearsNone before ending.NoMemory = ⊤
HearsNone before other = ⊥

-- a reply was told; or a front of it, where the output failed; or nothing, where there was no memory for it
abbrev pub Tells : Option (List ℕ) → Option (List ℕ) → List ℕ → Option SessionEnd → Type 0
Tells before after text None = Appends before after text
Tells before after text (Some ending.Output) = AppendsFront before after text
Tells before after text (Some ending.NoMemory) = Appends before after []
Tells before after text (Some other) = ⊥

-- what a line asks for was answered, and told as far as it could be
pub record IsReplied (pit : Pit) (max_entries : ℕ) (old : Standing) (asked : Asked) (new : Standing) (before after : Option (List ℕ)) (end : Option SessionEnd) : Type 0 where
  pub answer : Answer
  pub meets : Meets pit max_entries old asked answer new.phase
  pub begun : new.begun ≡ begun_after old.begun answer
  pub told : Tells before after (answer_text answer) end

-- how many replies were told whole, and how the session ends then, by how it ends with the reply, if it does, and whether the line was the last
abbrev pub count_of : Option SessionEnd → ℕ
count_of None = 1
count_of (Some end) = 0

abbrev pub ends_by : Option SessionEnd → Bool → Option SessionEnd
ends_by None is_last = end_if is_last
ends_by (Some end) is_last = Some end

-- What devices show of a call, and the steps that read and write.
use Rattle.std.specs.Prelude.{◌≡◌, ℕ, ◌<◌, ◌≤◌, Bool, true, false, List, [], ◌∷◌, length, Option, Some, None, IsSome, ◌⊎◌}
use Rattle.std.specs.Io.KnownBytes.{Appends, Consumes, IsAtEnd, Keeps}
use Rattle.pit_num.specs.Printed.{AppendsFront}
use Rattle.pit_text.specs.declared.error.TextError.{TextError}
use Rattle.pit_step.specs.declared.read.TheConstants.{INPUT_BYTES_MAX}
use Rattle.pit_step.specs.declared.input.Input.{Input}
use Rattle.pit_step.specs.declared.fault.CliFault.{CliFault}
use Rattle.pit_step.specs.declared.fault.CliFault.TheVariants.{Text, TooLong, CannotRead, CannotWrite, NoMemory}
use Rattle.pit_step.specs.declared.status.Status.{Status}
use Rattle.pit_step.specs.Steps.{Step, HasOneOutcome}

-- what is known of a source before and after a call: the bytes that it has left, where it tells them, and whether it has failed then
pub record Reading : Type 0 where
  pub before : Option (List ℕ)
  pub after : Option (List ℕ)
  pub failed : Bool

-- what is known of a sink before and after a call: the bytes that it holds, where it tells them, and whether it has failed then
pub record Writing : Type 0 where
  pub before : Option (List ℕ)
  pub after : Option (List ℕ)
  pub failed : Bool

abbrev pub reading_of : Option (List ℕ) → Option (List ℕ) → Bool → Reading
reading_of before after failed = record { before = before; after = after; failed = failed }

abbrev pub writing_of : Option (List ℕ) → Option (List ℕ) → Bool → Writing
writing_of before after failed = record { before = before; after = after; failed = failed }

-- what is known of a device that may be left out, by what is known of it before and after
abbrev pub known_if : {S K : Type 0} → (S → S → K) → Option S → Option S → Option K
known_if {S} {K} of (Some old) (Some new) = Some (of old new)
known_if {S} {K} of (Some old) None = None
known_if {S} {K} of None new = None

-- what is known of each of a list of sources, by what is known of one before and after
abbrev pub readings_by : {S : Type 0} → (S → S → Reading) → List S → List S → List Reading
readings_by {S} of [] news = []
readings_by {S} of (old ∷ olds) [] = []
readings_by {S} of (old ∷ olds) (new ∷ news) = of old new ∷ readings_by of olds news

-- ---- an input

-- it was read whole, these are its bytes, and it is no longer than inputs may be
pub record IsWhole (source : Reading) (bytes : List ℕ) : Type 0 where
  pub short : length bytes ≤ INPUT_BYTES_MAX
  pub taken : Consumes source.before source.after bytes
  pub end : IsAtEnd source.after
  pub sound : source.failed ≡ false

-- it is longer than inputs may be
pub record IsTooLong (source : Reading) : Type 0 where
  pub bytes : List ℕ
  pub long : INPUT_BYTES_MAX < length bytes
  pub taken : Consumes source.before source.after bytes
  pub sound : source.failed ≡ false

-- a fault of reading it; memory runs out only where bytes have come
abbrev pub IsInputFault : Reading → Input → CliFault → Type 0
IsInputFault source file (CannotRead f) = (f ≡ file) × (source.failed ≡ true)
IsInputFault source file (TooLong f) = (f ≡ file) × IsTooLong source
IsInputFault source file NoMemory = (source.failed ≡ false) × ((bytes : List ℕ) × (0 < length bytes) × Consumes source.before source.after bytes)
IsInputFault source file other = ⊥

-- a fault of its text, which has this first error, or where there is no memory for what it says
abbrev pub IsTextFault : Input → (TextError → Type 0) → Type 0 → CliFault → Type 0
IsTextFault file IsBad IsStop (Text f error) = (f ≡ file) × IsBad error
IsTextFault file IsBad IsStop NoMemory = IsStop
IsTextFault file IsBad IsStop other = ⊥

-- an input is read whole, and its text stands for a value; or it can't be read, or its text has a fault
abbrev pub input_step : {A B : Type 0} → Input → Reading → (A → List ℕ → B → Type 0) → (A → List ℕ → CliFault → Type 0) → Step CliFault A B
input_step file source Stands IsFault = record {
  Gives = λ given value. (bytes : List ℕ) × IsWhole source bytes × Stands given bytes value;
  Fails = λ given fault. IsInputFault source file fault ⊎ ((bytes : List ℕ) × IsWhole source bytes × IsFault given bytes fault);
  IsUntouched = Keeps source.before source.after;
}

-- ---- an output

-- the text of what is given is written; or, where there is some text, a front of it before the device fails
abbrev pub write_step : {A B : Type 0} → Writing → (A → List ℕ) → (A → B) → Step CliFault A B
write_step out text_of value_of = record {
  Gives = λ given value. (value ≡ value_of given) × Appends out.before out.after (text_of given) × (0 < length (text_of given) → out.failed ≡ false);
  Fails = λ given fault. (fault ≡ CannotWrite) × AppendsFront out.before out.after (text_of given) × (out.failed ≡ true) × (0 < length (text_of given));
  IsUntouched = Keeps out.before out.after;
}

-- a text is written, and the status is the one beside it
abbrev pub answer_step : Writing → Step CliFault (List ℕ × Status) Status
answer_step out = write_step out (λ answer. answer.0) (λ answer. answer.1)

-- ---- a run

-- where each of these sources tells its bytes, and this is shown too, the run has one outcome
abbrev pub HasToldOutcome : {B : Type 0} → List Reading → Type 0 → Step CliFault (Unit {0}) B → Type 0
HasToldOutcome [] IsShown run = IsShown → HasOneOutcome NoMemory run
HasToldOutcome (source ∷ sources) IsShown run = IsSome source.before → HasToldOutcome sources IsShown run

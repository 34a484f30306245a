-- The outputs of a run: a solution, a report and a history, and what is written of them.
use Rattle.std.specs.Prelude.{◌≡◌, ◌⊎◌, ℕ, Bool, true, false, if◌then◌else◌, List, [], ◌∷◌, Option, Some, None, Result, Ok, Err, codes, ⊤}
use Rattle.std.specs.Io.KnownBytes.{Keeps}
use Rattle.pit_plan.specs.declared.short.Short.{Short}
use Rattle.pit_step.specs.Steps.{Step, in_turn, judge_step}
use Rattle.pit_step.specs.Devices.{Writing, write_step}
use Rattle.pit_step.specs.declared.fault.CliFault.{CliFault}
use Rattle.pit_step.specs.declared.fault.CliFault.TheVariants.{CannotWrite}
use Rattle.pit_step.specs.declared.status.Status.{Status}
use Rattle.pit_step.specs.declared.status.Status.TheVariants.{Fine, Failed}
use Rattle.pit_file.specs.OutputState.{OutputState, HasKept, HasNotKept, IsAsBefore}
use Rattle.pit_file.specs.OutputState.OutputState.{stream, file}

-- that a history which is to be carried on wasn't there
abbrev pub new_line : Bool → List ℕ
new_line is_new = if is_new then codes "history new\n" else []

-- whether a load falls short
abbrev pub status_of_shorts : List Short → Status
status_of_shorts [] = Fine
status_of_shorts (short ∷ more) = Failed

-- ---- the output of a history

-- what is known of it before and after a call
pub record Keeping : Type 0 where
  pub before : OutputState
  pub after : OutputState

abbrev pub keeping_of : OutputState → OutputState → Keeping
keeping_of before after = record { before = before; after = after }

-- the output, if there is one, has the whole text, or was left alone
abbrev pub HasWhole : Option Keeping → List ℕ → Type 0
HasWhole None text = ⊤
HasWhole (Some kept) text = HasKept text kept.before kept.after

abbrev pub IsLeft : Option Keeping → Type 0
IsLeft None = ⊤
IsLeft (Some kept) = IsAsBefore kept.before kept.after

-- the text of a history is given to its output, if there is one; or that can't be
abbrev pub keep_step : Option Keeping → List ℕ → Step CliFault (Unit {0}) (Unit {0})
keep_step None text = judge_step (λ given value. value ≡ given) (λ given fault. ⊥)
keep_step (Some kept) text = record {
  Gives = λ given value. (value ≡ given) × HasKept text kept.before kept.after;
  Fails = λ given fault. (fault ≡ CannotWrite) × HasNotKept text kept.before kept.after;
  IsUntouched = IsAsBefore kept.before kept.after;
}

-- ---- the outputs

-- the texts that are to be written, in this order
pub record Outputs : Type 0 where
  pub solution : List ℕ
  pub report : List ℕ
  pub history : List ℕ

-- the solution and the report
abbrev pub streams_step : Outputs → Writing → Writing → Step CliFault (Unit {0}) (Unit {0})
streams_step texts out lines = in_turn (write_step out (λ _. texts.solution) (λ _. tt {0})) (write_step lines (λ _. texts.report) (λ _. tt {0}))

abbrev pub end_step : Result Status CliFault → Step CliFault (Unit {0}) Status
end_step ended = judge_step (λ _ status. ended ≡ Ok status) (λ _ fault. ended ≡ Err fault)

-- each is written, and it ends so; a history that is carried on stands before the others are written
abbrev pub outputs_run : Bool → Outputs → Result Status CliFault → Writing → Writing → Option Keeping → Step CliFault (Unit {0}) Status
outputs_run true texts ended out lines kept = in_turn (keep_step kept texts.history) (in_turn (streams_step texts out lines) (end_step ended))
outputs_run false texts ended out lines kept = in_turn (streams_step texts out lines) (in_turn (keep_step kept texts.history) (end_step ended))

-- ---- what devices show

-- nothing was written
abbrev pub IsUnwritten : Writing → Writing → Option Keeping → Type 0
IsUnwritten out lines kept = Keeps out.before out.after × Keeps lines.before lines.after × IsLeft kept

abbrev pub has_failed : OutputState → Bool
has_failed (stream held failed) = failed
has_failed (file stood failed) = failed

abbrev pub has_failed_if : Option Keeping → Bool
has_failed_if None = false
has_failed_if (Some kept) = has_failed kept.after

-- one of the devices has
abbrev pub HasFailed : Writing → Writing → Option Keeping → Type 0
HasFailed out lines kept = (out.failed ≡ true) ⊎ ((lines.failed ≡ true) ⊎ (has_failed_if kept ≡ true))

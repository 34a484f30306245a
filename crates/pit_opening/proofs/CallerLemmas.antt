-- For the crates above: a fault of what a plan begins with is of the inputs, or memory runs out; and what reading it shows.
use Rattle.std.proofs.Common.{◌≡◌, ◌⊎◌, inl, inr, ℕ, Bool, true, false, List, Option, Some, None, refl, sym, subst}
use Rattle.pit_model.specs.Pit.{Pit}
use Rattle.pit_text.specs.declared.error.TextError.{TextError}
use Rattle.pit_desk.specs.declared.error.DeskError.{DeskError}
use Rattle.pit_desk.specs.declared.error.DeskError.TheVariants as desk
use Rattle.pit_state.specs.States.{is_history}
use Rattle.pit_step.specs.declared.input.Input.{Input}
use Rattle.pit_step.specs.declared.input.Input.TheVariants.{Start, History}
use Rattle.pit_step.specs.declared.fault.CliFault.{CliFault}
use Rattle.pit_step.specs.declared.fault.CliFault.TheVariants as cli
use Rattle.pit_step.specs.Devices.{IsTextFault, Reading, reading_of, known_if}
use Rattle.pit_step.specs.Inputs.{IsHistoryFault}
use Rattle.pit_step.proofs.CallerLemmas.{IsOfInputs, keeps_itself}
use Rattle.pit_opening.specs.Beginnings.{Begun, nothing, scheduled, carried_on, unbegun, begin_step, IsStartFault, IsOpeningFault}
use Rattle.pit_opening.specs.Openings.{Opened, started, resumed, IsDeskFault, desk_fault_of}

-- it is of the inputs, or memory runs out
abbrev pub IsEarly : CliFault → Type 0
IsEarly fault = IsOfInputs fault ⊎ (fault ≡ cli.NoMemory)

pub text_early : (file : Input) (IsBad : TextError → Type 0) (IsStop : Type 0) (fault : CliFault) → IsTextFault file IsBad IsStop fault → IsEarly fault
text_early file IsBad IsStop (cli.Text f error) p = inl refl
text_early file IsBad IsStop cli.NoMemory p = inr refl
text_early file IsBad IsStop other p = absurd p

history_early : (file : Input) (text : List ℕ) (fault : CliFault) → IsHistoryFault file text fault → IsEarly fault
history_early file text (cli.Lines f error) p = inl refl
history_early file text cli.NoMemory p = inr refl
history_early file text other p = absurd p

start_early : (kind : Bool) (pit : Pit) (text : List ℕ) (fault : CliFault) → IsStartFault kind pit text fault → IsEarly fault
start_early true pit text fault p = history_early Start text fault p
start_early false pit text fault p = text_early _ _ _ fault p

pub beginning_early : (pit : Pit) (begun : Begun) (fault : CliFault) → IsOpeningFault pit begun fault → IsEarly fault
beginning_early pit nothing fault p = absurd p
beginning_early pit (scheduled text) fault p = start_early (is_history text) pit text fault p
beginning_early pit (carried_on text) fault p = history_early History text fault p
beginning_early pit unbegun fault p = absurd p

desk_early : (why : DeskError) → IsEarly (desk_fault_of why)
desk_early (desk.Unmeetable resource period) = inl refl
desk_early (desk.BadStart breach) = inl refl
desk_early desk.Full = inr refl
desk_early desk.NoMemory = inr refl

pub refusal_early : (pit : Pit) (opening : Opened) (fault : CliFault) → IsDeskFault pit opening fault → IsEarly fault
refusal_early pit (started start) fault p = subst IsEarly (sym p.2) (desk_early p.0)
refusal_early pit (resumed file entries) (cli.LimitBelowZero r t) p = inl refl
refusal_early pit (resumed file entries) (cli.TooLong f) p = inl refl
refusal_early pit (resumed file entries) (cli.Illegal f place) p = inl refl
refusal_early pit (resumed file entries) cli.NoMemory p = inr refl
refusal_early pit (resumed file entries) other p = absurd p

-- ---- how it is read

-- what is given to its step does not matter
pub begun-on : (carries : Bool) (read : Option Reading) (pit : Pit) (begun : Begun) → (begin_step {A = Unit {0}} carries read).Gives tt begun → (begin_step {A = Pit} carries read).Gives pit begun
begun-on carries None pit begun is = is
begun-on carries (Some source) pit begun is = is

-- it is not looked at
pub begin-left : {S : Type 0} (remaining : S → Option (List ℕ)) (has_failed : S → Bool) (carries : Bool) (start : Option S)
    → (begin_step {A = Pit} carries (known_if (λ (old new : S). reading_of (remaining old) (remaining new) (has_failed new)) start start)).IsUntouched
begin-left remaining has_failed carries None = tt
begin-left remaining has_failed carries (Some source) = keeps_itself (remaining source)

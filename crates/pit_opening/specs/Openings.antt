-- What a desk is opened with: a schedule, or the entries of a history that it goes on from.
use Rattle.std.specs.Prelude.{◌≡◌, ℕ, ◌≤◌, ◌<◌, Bool, true, false, List, length, ⊤}
use Rattle.pit_model.specs.Pit.{Pit, IsMeetable, IsFirstUnmeetable}
use Rattle.pit_desk.specs.History.{Answered}
use Rattle.pit_desk.specs.Legal.{IsLegal}
use Rattle.pit_desk.specs.Audited.{IsFirstWrong}
use Rattle.pit_desk.specs.Opened.{IsGoodStart, IsDeskError, opening_history}
use Rattle.pit_desk.specs.State.{State}
use Rattle.pit_desk.specs.declared.entry.TheConstants.{ENTRIES_MAX}
use Rattle.pit_desk.specs.declared.error.DeskError.{DeskError}
use Rattle.pit_desk.specs.declared.error.DeskError.TheVariants as desk
use Rattle.pit_step.specs.declared.input.Input.{Input}
use Rattle.pit_step.specs.declared.fault.CliFault.{CliFault}
use Rattle.pit_step.specs.declared.fault.CliFault.TheVariants.{LimitBelowZero, Start, Illegal, TooLong, NoMemory}
use Rattle.pit_step.specs.Inputs.{IsScheduleOf}

-- a schedule, or entries, of the input that faults name
pub data Opened : Type 0 where
  started : List (ℕ × ℕ) → Opened
  resumed : Input → List Answered → Opened

-- whether they are entries
abbrev pub is_resumed : Opened → Bool
is_resumed (started schedule) = false
is_resumed (resumed file entries) = true

-- the history that the desk has then: a schedule that mines a block is its first entry
abbrev pub entries_before : Opened → List Answered
entries_before (started schedule) = opening_history schedule
entries_before (resumed file entries) = entries

-- the blocks of a schedule rise, and blocks and periods are those of the pit
abbrev pub IsOpeningIn : Pit → Opened → Type 0
IsOpeningIn pit (started schedule) = IsScheduleOf pit schedule
IsOpeningIn pit (resumed file entries) = ⊤

-- each limit can be met, and the history is legal and no longer than one may be
pub record IsGoodHistory (pit : Pit) (entries : List Answered) : Type 0 where
  pub meetable : IsMeetable pit
  pub few : length entries ≤ ENTRIES_MAX
  pub legal : IsLegal pit entries

-- each limit can be met, and the schedule breaks no rule, or the history is legal
abbrev pub IsGoodOpening : Pit → Opened → Type 0
IsGoodOpening pit (started schedule) = IsGoodStart pit schedule
IsGoodOpening pit (resumed file entries) = IsGoodHistory pit entries

-- the desk goes on from it, and may have as many entries as a history can
pub record IsDeskOn (pit : Pit) (opening : Opened) (desk : State) : Type 0 where
  pub is_good : IsGoodOpening pit opening
  pub same_pit : desk.plan.pit ≡ pit
  pub history : desk.history ≡ entries_before opening
  pub limit : desk.max_entries ≡ ENTRIES_MAX

-- ---- its fault

-- the fault that says why a desk isn't opened
abbrev pub desk_fault_of : DeskError → CliFault
desk_fault_of (desk.Unmeetable resource period) = LimitBelowZero resource period
desk_fault_of (desk.BadStart breach) = Start (record { 0 = breach })
desk_fault_of desk.Full = NoMemory
desk_fault_of desk.NoMemory = NoMemory

-- the first of these that applies: a limit can't be met, the history is too long, or has a wrong place; memory runs out only where the limits can be
-- met
abbrev pub IsHistoryRefusal : Pit → Input → List Answered → CliFault → Type 0
IsHistoryRefusal pit file entries (LimitBelowZero resource period) = IsFirstUnmeetable pit (resource, period)
IsHistoryRefusal pit file entries (TooLong f) = (f ≡ file) × IsMeetable pit × (ENTRIES_MAX < length entries)
IsHistoryRefusal pit file entries (Illegal f place) = (f ≡ file) × IsMeetable pit × (length entries ≤ ENTRIES_MAX) × IsFirstWrong pit entries place
IsHistoryRefusal pit file entries NoMemory = IsMeetable pit
IsHistoryRefusal pit file entries other = ⊥

abbrev pub IsDeskFault : Pit → Opened → CliFault → Type 0
IsDeskFault pit (started schedule) fault = (why : DeskError) × IsDeskError pit schedule ENTRIES_MAX why × (fault ≡ desk_fault_of why)
IsDeskFault pit (resumed file entries) fault = IsHistoryRefusal pit file entries fault

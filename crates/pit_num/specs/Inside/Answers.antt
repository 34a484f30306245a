-- What a device makes of an answer of its reader or writer.
use Rattle.std.specs.Prelude.{◌≡◌, ◌<◌, ◌≤◌, ℕ, Option, Some, None, Result, Ok, Err}
use Rattle.pit_num.specs.declared.device.Failed.{Failed}

-- A call that was interrupted is made again. The device fails exactly at any other error, and where fewer bytes were taken than have to be.
abbrev pub IsAnswerTo : {E : Type 0} → (E → Type 0) → ℕ → Result ℕ E → Option (Result ℕ Failed) → Type 0
IsAnswerTo IsInterrupted least (Ok n) None = ⊥
IsAnswerTo IsInterrupted least (Ok n) (Some (Ok m)) = (m ≡ n) × (least ≤ n)
IsAnswerTo IsInterrupted least (Ok n) (Some (Err failed)) = n < least
IsAnswerTo IsInterrupted least (Err error) None = IsInterrupted error
IsAnswerTo IsInterrupted least (Err error) (Some (Ok m)) = ⊥
IsAnswerTo IsInterrupted least (Err error) (Some (Err failed)) = IsInterrupted error → ⊥

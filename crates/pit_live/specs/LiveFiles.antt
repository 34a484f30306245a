-- What is known of the file of a history that is carried on.
use Rattle.std.specs.Prelude.{◌≡◌, ◌⊎◌, ℕ, List, Option, Some, None}
use Rattle.std.specs.declared.snapshot.Snapshot.{Snapshot}
use Rattle.pit_file.specs.Kept.{latest}
use Rattle.pit_file.specs.Stood.{with_text}
use Rattle.pit_file.specs.declared.history_file.HistoryFile.{HistoryFile}
use Rattle.pit_file.specs.declared.kept_file.KeptFile.{KeptFile}
use Rattle.pit_step.specs.declared.fault.CliFault.{CliFault}
use Rattle.pit_step.specs.declared.fault.CliFault.TheVariants.{CannotWrite, HistoryInUse, NoMemory}

-- what has stood at its name, the latest first, and as much of that as was synced when it was let go, where they are told
pub record FileKnown : Type 0 where
  pub stood : Option (List (Option (List ℕ)))
  pub synced : Option (List ℕ)

abbrev pub known_names : {P : Type 0} → (P → Option (List (Option (List ℕ)))) → (P → Option (List ℕ)) → P → FileKnown
known_names stood synced names = record { stood = stood names; synced = synced names }

-- of a file that is made ready, or that was kept open and let go
abbrev pub known_of : {P : Type 0} → (P → Option (List (Option (List ℕ)))) → (P → Option (List ℕ)) → Option (HistoryFile P) → Option (KeptFile P) → Option (Snapshot P) → FileKnown
known_of stood synced (Some file) kept last = known_names stood synced file.names
known_of stood synced None (Some kept) (Some last) = record { stood = stood kept.names; synced = synced last.value }
known_of stood synced None kept last = record { stood = None; synced = None }

-- the text stands there, and all of it is synced
pub record IsKept (text : List ℕ) (before after : FileKnown) : Type 0 where
  pub stood : after.stood ≡ with_text text before.stood
  pub synced : after.synced ≡ latest after.stood

-- what stood there stays; or the text stands there, and can't be kept open
abbrev pub IsUnkeptFile : List ℕ → FileKnown → FileKnown → CliFault → Type 0
IsUnkeptFile text before after CannotWrite = (after.stood ≡ before.stood) ⊎ (after.stood ≡ with_text text before.stood)
IsUnkeptFile text before after HistoryInUse = after.stood ≡ with_text text before.stood
IsUnkeptFile text before after NoMemory = after.stood ≡ with_text text before.stood
IsUnkeptFile text before after other = ⊥

-- Files that are open, and what is known of them before they are read.
use Rattle.std.specs.Prelude.{◌≡◌, ℕ, false, List, ◌∷◌, ◌++◌, map, Option, option_to_list}
use Rattle.pit_step.specs.declared.input.Input.{Input}
use Rattle.pit_step.specs.declared.fault.CliFault.{CliFault}
use Rattle.pit_step.specs.declared.fault.CliFault.TheVariants.{NoMemory}
use Rattle.pit_step.specs.Devices.{Reading, reading_of}
use Rattle.pit_step.specs.Steps.{Step, in_turn, pass_step, may_step}
use Rattle.pit_command.specs.declared.origin.Origin.{Origin}
use Rattle.pit.specs.declared.source_files.OpenFile.{OpenFile}
use Rattle.pit.specs.declared.source_files.PitFiles.{PitFiles}
use Rattle.pit.specs.declared.source_files.SourceFiles.{SourceFiles}
use Rattle.pit.specs.Files.{Told, open_each}
use Rattle.pit.specs.Histories.{kept_path, AreApart, IsMeeting}

-- all files are opened, and none of them is the history's; there may be no memory for the list of them
abbrev pub files_step : Told → Origin → List (Input × List ℕ) → Step CliFault (Unit {0}) (List Reading)
files_step told origin files =
    in_turn (may_step NoMemory)
    (in_turn (open_each told files) (pass_step (λ _. AreApart told (kept_path origin) files) (λ _. IsMeeting told (kept_path origin) files)))

-- ---- the files

abbrev pub name_of : {F : Type 0} → OpenFile F → Input × List ℕ
name_of file = (file.input, file.path.now)

abbrev pub all_pit : {F : Type 0} → PitFiles F → List (OpenFile F)
all_pit files = files.model ∷ files.precedence ∷ option_to_list files.blocks

abbrev pub all_files : {F : Type 0} → SourceFiles F → List (OpenFile F)
all_files files = all_pit files.pit ++ (option_to_list files.begun ++ files.parts.items)

-- an input, and what is known of its bytes
abbrev pub held_at : Told → Input × List ℕ → Input × Option (List ℕ)
held_at told file = (file.0, told.holds file.1)

-- not yet read
abbrev pub still : Told → Input × List ℕ → Reading
still told file = reading_of (told.holds file.1) (told.holds file.1) false

-- the files at these paths are open, and not yet read
pub record AreOpen {F : Type 0} (left : F → Option (List ℕ)) (told : Told) (names : List (Input × List ℕ)) (files : List (OpenFile F)) : Type 0 where
  pub named : map name_of files ≡ names
  pub known : map (λ file. (file.input, left file.file)) files ≡ map (held_at told) names
  pub opened : (open_each told names).Gives tt (map (still told) names)

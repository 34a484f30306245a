-- The files of `plan`, `merge` and `live`, in the order in which they are opened and read.
use Rattle.std.specs.Prelude.{ℕ, Bool, true, false, List, [], ◌∷◌, ◌++◌, map, Option, Some, None, is_some}
use Rattle.std.specs.Borrow.{Bor}
use Rattle.pit_step.specs.declared.input.Input.{Input}
use Rattle.pit_step.specs.declared.input.Input.TheVariants.{Model, Precedence, Blocks, Start, History, Script, Edit}
use Rattle.pit_command.specs.declared.origin.Origin.{Origin}
use Rattle.pit_command.specs.declared.origin.Origin.TheVariants.{New, Continued}
use Rattle.pit_command.specs.declared.plan_words.PlanWords.{PlanWords}
use Rattle.pit_command.specs.declared.merge_words.MergeWords.{MergeWords}
use Rattle.pit_command.specs.declared.live_words.LiveWords.{LiveWords}
use Rattle.pit.specs.declared.sources.Parts.{Parts}
use Rattle.pit.specs.declared.sources.Parts.TheVariants.{Scripts, Edits}
use Rattle.pit.specs.declared.sources.Sources.{Sources}
use Rattle.pit.specs.Files.{path_if, file_if, numbered}

-- the file that tells what is begun with: the history that is carried on, where it is there; or the start, where it is named
abbrev pub begun_file : Origin → Bool → List (Input × List ℕ)
begun_file (Continued path) true = (History, path.now) ∷ []
begun_file (Continued path) false = []
begun_file (New words) is_there = file_if Start (path_if words.start)

-- whether there is one
abbrev pub has_begun : Origin → Bool → Bool
has_begun (Continued path) is_there = is_there
has_begun (New words) is_there = is_some words.start

abbrev pub pit_files : Bor (List ℕ) → Bor (List ℕ) → Option (Bor (List ℕ)) → List (Input × List ℕ)
pit_files model precedence blocks = (Model, model.now) ∷ (Precedence, precedence.now) ∷ file_if Blocks (path_if blocks)

abbrev pub plan_files : PlanWords → Bool → List (Input × List ℕ)
plan_files words is_there =
    pit_files words.model words.precedence words.blocks ++ (begun_file words.origin is_there ++ numbered Script 1 (map (λ path. path.now) words.scripts.now))

abbrev pub merge_files : MergeWords → Bool → List (Input × List ℕ)
merge_files words is_there =
    pit_files words.model words.precedence None ++ (begun_file words.origin is_there ++ numbered Edit 1 (map (λ path. path.now) words.edits.now))

abbrev pub live_files : LiveWords → Bool → List (Input × List ℕ)
live_files words is_there = pit_files words.model words.precedence words.blocks ++ begun_file (Continued words.history) is_there

-- ---- the same of sources

abbrev pub part_paths : Parts → Bor (List (Bor (List ℕ)))
part_paths (Scripts paths) = paths
part_paths (Edits paths) = paths

abbrev pub part_input : Parts → ℕ → Input
part_input (Scripts paths) number = Script number
part_input (Edits paths) number = Edit number

abbrev pub file_by : Option (Input × Bor (List ℕ)) → List (Input × List ℕ)
file_by None = []
file_by (Some file) = (file.0, file.1.now) ∷ []

abbrev pub part_files : Parts → List (Input × List ℕ)
part_files parts = numbered (part_input parts) 1 (map (λ path. path.now) (part_paths parts).now)

abbrev pub in_order : Sources → List (Input × List ℕ)
in_order sources = pit_files sources.model sources.precedence sources.blocks ++ (file_by sources.begun ++ part_files sources.parts)

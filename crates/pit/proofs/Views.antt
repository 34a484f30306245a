-- A view on the files of its inputs.
use Rattle.std.proofs.Common.{◌≡◌, inr, ℕ, Bool, List, [], ◌∷◌, Option, Some, None, is_some, option_map, option_to_list, get_or, Result, Ok, Err, refl, ap, ◌∙◌}
use Rattle.std.specs.Borrow.{Bor}
use Rattle.pit_step.specs.declared.input.Input.{Input}
use Rattle.pit_step.specs.declared.input.Input.TheVariants.{Model}
use Rattle.pit_step.specs.declared.status.Status.{Status}
use Rattle.pit_step.specs.declared.fault.CliFault.{CliFault}
use Rattle.pit_step.specs.Devices.{Reading, Writing, reading_of, known_if}
use Rattle.pit_step.specs.Steps.{in_turn, run_step, IsResultOf}
use Rattle.pit_info.specs.Info.{info_run}
use Rattle.pit_command.specs.declared.commands.Command.{Command}
use Rattle.pit_command.specs.declared.commands.Command.TheVariants.{Info}
use Rattle.pit_command.specs.declared.words.InfoWords.{InfoWords}
use Rattle.pit.specs.declared.source_files.OpenFile.{OpenFile}
use Rattle.pit.specs.Files.{Told, open_each}
use Rattle.pit.specs.OpenFiles.{AreOpen}
use Rattle.pit.specs.Runs.{view_files, files_run, view_run}
use Rattle.pit.specs.Sources.{pit_files}

-- all are open, and it ran
pub viewed : (told : Told) (command : Command) (out : Writing) (IsUntouched : Type 0) (readings : List Reading) (result : Result Status CliFault)
    → (open_each told (view_files command)).Gives tt readings → IsResultOf (files_run command out readings) tt result → IsResultOf (view_run told command out IsUntouched) tt result
viewed told command out IsUntouched readings (Ok status) are_open is = (readings, are_open, is)
viewed told command out IsUntouched readings (Err fault) are_open is = inr (readings, are_open, is)

-- `info`, of which the last file may be left out
module _ (told : Told) (words : InfoWords) (out : Writing) (IsUntouched : Type 0) {F S : Type 0} (left : F → Option (List ℕ)) (remaining : S → Option (List ℕ)) (has_failed : S → Bool)
    (model_file precedence_file : OpenFile F) (model new_model precedence new_precedence : S) (model_is : remaining model ≡ left model_file.file)
    (precedence_is : remaining precedence ≡ left precedence_file.file) where
  abbrev read_of : S → S → Reading
  read_of old new = reading_of (remaining old) (remaining new) (has_failed new)

  abbrev bytes_at : ℕ → List (Input × Option (List ℕ)) → Option (List ℕ)
  bytes_at i files = (get_or {A = Input × Option (List ℕ)} files i (Model, None)).1

  ran : (blocks : Option (Bor (List ℕ))) (readings : List Reading) (result : Result Status CliFault) → (open_each told (pit_files words.model words.precedence blocks)).Gives tt readings
      → IsResultOf (files_run (Info words) out readings) tt result
      → IsResultOf (in_turn (open_each told (pit_files words.model words.precedence blocks)) (run_step (files_run (Info words) out) IsUntouched)) tt result
  ran blocks readings (Ok status) are_open is = (readings, are_open, is)
  ran blocks readings (Err fault) are_open is = inr (readings, are_open, is)

  pub info_viewed : (blocks : Option (Bor (List ℕ))) (blocks_file : Option (OpenFile F)) (old new : Option S) (result : Result Status CliFault)
      → AreOpen left told (pit_files words.model words.precedence blocks) (model_file ∷ precedence_file ∷ option_to_list blocks_file) → is_some blocks_file ≡ is_some blocks
      → option_map remaining old ≡ option_map (λ file. left file.file) blocks_file → is_some new ≡ is_some old
      → IsResultOf (info_run (read_of model new_model) (read_of precedence new_precedence) (known_if read_of old new) out) tt result
      → IsResultOf (in_turn (open_each told (pit_files words.model words.precedence blocks)) (run_step (files_run (Info words) out) IsUntouched)) tt result
  unfolding files_run
  info_viewed None None None new result a named is same runs =
      ran None (read_of model new_model ∷ read_of precedence new_precedence ∷ []) result
      ((a.opened.0.0, model_is ∙ ap (bytes_at 0) a.known), ((a.opened.1.0.0, precedence_is ∙ ap (bytes_at 1) a.known), refl)) runs
  info_viewed None None (Some old) new result a named is same runs = cc
  info_viewed None (Some file) old new result a named is same runs = cc
  info_viewed (Some path) None old new result a named is same runs = cc
  info_viewed (Some path) (Some file) None new result a named is same runs = cc
  info_viewed (Some path) (Some file) (Some old) None result a named is same runs = cc
  info_viewed (Some path) (Some file) (Some old) (Some new) result a named is same runs =
      let old_is : remaining old ≡ left file.file = cc in
      ran (Some path) (read_of model new_model ∷ read_of precedence new_precedence ∷ read_of old new ∷ []) result (
        (a.opened.0.0, model_is ∙ ap (bytes_at 0) a.known),
        ((a.opened.1.0.0, precedence_is ∙ ap (bytes_at 1) a.known), ((a.opened.1.1.0.0, old_is ∙ ap (bytes_at 2) a.known), refl)),
      ) runs

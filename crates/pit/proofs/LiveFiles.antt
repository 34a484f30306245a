-- The files of a live workspace.
use Rattle.std.proofs.Common.{◌≡◌, inl, inr, ℕ, ◌+◌, Bool, if◌then◌else◌, List, [], ◌∷◌, ◌++◌, length, map, Option, None, Some, is_some, option_to_list, refl, ap, ◌∙◌, arith}
use Rattle.std.proofs.lemmas.List.{length-append, length-map}
use Rattle.std.specs.Borrow.{Bor}
use Rattle.pit_step.specs.declared.input.Input.{Input}
use Rattle.pit_step.specs.declared.input.Input.TheVariants.{Blocks}
use Rattle.pit_step.specs.declared.fault.CliFault.{CliFault}
use Rattle.pit_command.specs.declared.origin.Origin.TheVariants.{Continued}
use Rattle.pit_command.specs.declared.live_words.LiveWords.{LiveWords}
use Rattle.pit.specs.declared.source_files.OpenFile.{OpenFile}
use Rattle.pit.specs.declared.source_files.SourceFiles.{SourceFiles}
use Rattle.pit.specs.Files.{Told, path_if, file_if}
use Rattle.pit.specs.Histories.{kept_path, AreApart}
use Rattle.pit.specs.LiveRun.{KnownLive, known_live, IsStreamsFault, live_files_step}
use Rattle.pit.specs.OpenFiles.{AreOpen, all_files, name_of, still, files_step}
use Rattle.pit.specs.Sources.{begun_file, live_files}
use Rattle.pit.proofs.MergeFiles.{bytes-of, length-if, length-begun}

module _ (told : Told) (words : LiveWords) (is_there : Bool) where
  pub unopened-live : (fault : CliFault) → (files_step told (Continued words.history) (live_files words is_there)).Fails tt fault → (live_files_step told words is_there).Fails tt fault
  unopened-live fault f = inl (f, tt)

  module _ {F : Type 0} (left : F → Option (List ℕ)) (files : List (OpenFile F)) (are_open : AreOpen left told (live_files words is_there) files)
      (apart : AreApart told (kept_path (Continued words.history)) (live_files words is_there)) where
    pub placed-live : (known : KnownLive) → known_live known ≡ map (λ file. left file.file) files → is_some known.blocks ≡ is_some words.blocks → is_some known.history ≡ is_there
        → (live_files_step told words is_there).Gives tt known
    placed-live known is blocks history = (
      map (still told) (live_files words is_there),
      (tt, (refl, tt), (map (still told) (live_files words is_there), are_open.opened, (refl, apart))),
      record { order = is ∙ bytes-of left told (live_files words is_there) files are_open; blocks = blocks; history = history },
    )

    pub untold-live : (fault : CliFault) → IsStreamsFault fault → (live_files_step told words is_there).Fails tt fault
    untold-live fault f =
        inr (map (still told) (live_files words is_there), (tt, (refl, tt), (map (still told) (live_files words is_there), are_open.opened, (refl, apart))), f)

-- ---- no file is opened behind them

none-of : {X : Type 0} (xs : List X) → length xs ≡ 0 → xs ≡ []
none-of [] none = refl
none-of (x ∷ xs) none = absurd (omega (arith, none))

length-blocks : (blocks : Option (Bor (List ℕ))) → length (file_if Blocks (path_if blocks)) ≡ (if is_some blocks then 1 else 0)
length-blocks None = refl
length-blocks (Some path) = refl

module _ {F : Type 0} (words : LiveWords) (is_there : Bool) (files : SourceFiles F) where
  pub no-parts : map name_of (all_files files) ≡ live_files words is_there → is_some files.pit.blocks ≡ is_some words.blocks → is_some files.begun ≡ is_there → files.parts.items ≡ []
  no-parts named blocks begun =
      let all = ap (λ (names : List (Input × List ℕ)). length names) named in
      let mapped = length-map (all_files files) name_of in
      let open_blocks = length-if files.pit.blocks ∙ ap (λ (t : Bool). if t then 1 else 0) blocks in
      let open_begun = length-if files.begun ∙ ap (λ (t : Bool). if t then 1 else 0) begun in
      let more = length-append (option_to_list files.begun) files.parts.items in
      let pit = length-append (option_to_list files.pit.blocks) (option_to_list files.begun ++ files.parts.items) in
      let names = length-append (file_if Blocks (path_if words.blocks)) (begun_file (Continued words.history) is_there) in
      let named_blocks = length-blocks words.blocks in
      let named_begun = length-begun (Continued words.history) is_there in
      none-of files.parts.items (omega (arith, all, mapped, open_blocks, open_begun, more, pit, names, named_blocks, named_begun))

-- The files of a merge.
use Rattle.std.proofs.Common.{◌≡◌, inl, inr, ℕ, suc, ◌+◌, Bool, true, false, if◌then◌else◌, List, [], ◌∷◌, length, map, Option, None, Some, Result, Ok, Err, IfOk, IfErr, is_some, option_to_list, refl, sym, ap, ◌∙◌, arith}
use Rattle.std.proofs.lemmas.List.{length-append, length-map}
use Rattle.std.proofs.lemmas.Simd.{map-map}
use Rattle.std.specs.Borrow.{Bor}
use Rattle.pit_step.specs.declared.input.Input.{Input}
use Rattle.pit_step.specs.declared.input.Input.TheVariants.{Start, Edit}
use Rattle.pit_step.specs.declared.fault.CliFault.{CliFault}
use Rattle.pit_step.specs.declared.fault.CliFault.TheVariants.{NoMemory}
use Rattle.pit_step.specs.Steps.{IsResultOf}
use Rattle.pit_command.specs.declared.origin.Origin.{Origin}
use Rattle.pit_command.specs.declared.origin.Origin.TheVariants.{New, Continued}
use Rattle.pit_command.specs.declared.merge_words.MergeWords.{MergeWords}
use Rattle.pit.specs.declared.source_files.OpenFile.{OpenFile}
use Rattle.pit.specs.Files.{Told, numbered, path_if, file_if}
use Rattle.pit.specs.Histories.{kept_path, AreApart}
use Rattle.pit.specs.OpenFiles.{AreOpen, held_at, still, files_step}
use Rattle.pit.specs.MergeRun.{MergeFiles, known_files, AreFiles, merge_files_step}
use Rattle.pit.specs.Sources.{merge_files, begun_file, has_begun}
use Rattle.pit.proofs.Reading.{known_of}

-- what is known of the bytes, where it is known beside the inputs
pub bytes-of : {F : Type 0} (left : F → Option (List ℕ)) (told : Told) (names : List (Input × List ℕ)) (files : List (OpenFile F)) → AreOpen left told names files
    → map (λ file. left file.file) files ≡ map (λ name. told.holds name.1) names
bytes-of left told names files a =
    sym (map-map (λ (p : Input × Option (List ℕ)). p.1) (known_of left) files) ∙ ap (λ (ps : List (Input × Option (List ℕ))). map (λ p. p.1) ps) a.known
    ∙ map-map (λ (p : Input × Option (List ℕ)). p.1) (held_at told) names

module _ (told : Told) (words : MergeWords) (is_there : Bool) where
  pub unopened-files : (fault : CliFault) → (files_step told words.origin (merge_files words is_there)).Fails tt fault → (merge_files_step told words is_there).Fails tt fault
  unopened-files fault f = inl (f, tt)

  pub placed-files : {F : Type 0} (left : F → Option (List ℕ)) (files : List (OpenFile F)) (begun : Bool) (result : Result MergeFiles CliFault) → AreOpen left told (merge_files words is_there) files
      → AreApart told (kept_path words.origin) (merge_files words is_there) → begun ≡ has_begun words.origin is_there
      → IfOk result (λ all. (known_files all ≡ map (λ file. left file.file) files) × (is_some all.start ≡ begun)) → IfErr result (λ fault. fault ≡ NoMemory)
      → IsResultOf (merge_files_step told words is_there) tt result
  placed-files left files begun (Ok all) a apart is ok err = (
    map (still told) (merge_files words is_there),
    (tt, (refl, tt), (map (still told) (merge_files words is_there), a.opened, (refl, apart))),
    record { order = ok.0 ∙ bytes-of left told (merge_files words is_there) files a; begun = ok.1 ∙ is },
  )
  placed-files left files begun (Err fault) a apart is ok err =
      inr (map (still told) (merge_files words is_there), (tt, (refl, tt), (map (still told) (merge_files words is_there), a.opened, (refl, apart))), err)

-- ---- the edits among them

pub length-if : {X : Type 0} (o : Option X) → length (option_to_list o) ≡ (if is_some o then 1 else 0)
length-if None = refl
length-if (Some x) = refl

length-start : (start : Option (Bor (List ℕ))) → length (file_if Start (path_if start)) ≡ (if is_some start then 1 else 0)
length-start None = refl
length-start (Some path) = refl

pub length-begun : (origin : Origin) (is_there : Bool) → length (begun_file origin is_there) ≡ (if has_begun origin is_there then 1 else 0)
length-begun (Continued path) true = refl
length-begun (Continued path) false = refl
length-begun (New words) is_there = length-start words.start

length-numbered : (input : ℕ → Input) (n : ℕ) (paths : List (List ℕ)) → length (numbered input n paths) ≡ length paths
length-numbered input n [] = refl
length-numbered input n (path ∷ paths) = ap suc (length-numbered input (n + 1) paths)

files-of : (told : Told) (words : MergeWords) (is_there : Bool) (files : MergeFiles) → (merge_files_step told words is_there).Gives tt files → AreFiles told words is_there files
files-of told words is_there files (readings, are_open, are) = are

pub as-many-edits : (told : Told) (words : MergeWords) (is_there : Bool) (files : MergeFiles) → (merge_files_step told words is_there).Gives tt files → length files.edits ≡ length words.edits.now
as-many-edits told words is_there files gives =
    let are = files-of told words is_there files gives in
    let paths = map (λ (path : Bor (List ℕ)). path.now) words.edits.now in
    let order = ap (λ (fs : List (Option (List ℕ))). length fs) are.order in
    let held = length-map (merge_files words is_there) (λ (name : Input × List ℕ). told.holds name.1) in
    let start = length-if files.start ∙ ap (λ (t : Bool). if t then 1 else 0) are.begun in
    let one = length-begun words.origin is_there in
    let files_all = length-append (option_to_list files.start) files.edits in
    let names_all = length-append (begun_file words.origin is_there) (numbered Edit 1 paths) in
    let count = length-numbered Edit 1 paths in
    let same = length-map words.edits.now (λ (path : Bor (List ℕ)). path.now) in
    omega (arith, order, held, start, one, files_all, names_all, count, same)

-- A merge of open files.
use Rattle.std.proofs.Common.{◌≡◌, ℕ, Bool, List, [], ◌∷◌, length, map, Option, Some, None, is_some, option_map, refl, ap, subst, ◌∙◌, arith}
use Rattle.pit_step.specs.Devices.{Reading, reading_of, readings_by, known_if}
use Rattle.pit.specs.MergeRun.{MergeFiles, MergeReadings, AreFrom}

module _ {S : Type 0} (remaining : S → Option (List ℕ)) (has_failed : S → Bool) where
  abbrev pub read_of : S → S → Reading
  read_of old new = reading_of (remaining old) (remaining new) (has_failed new)

  start-from : (old new : Option S) → is_some new ≡ is_some old → option_map (λ (r : Reading). r.before) (known_if read_of old new) ≡ option_map remaining old
  start-from None new same = refl
  start-from (Some old) (Some new) same = refl
  start-from (Some old) None same = cc

  edits-from : (olds news : List S) → length news ≡ length olds → map (λ (r : Reading). r.before) (readings_by read_of olds news) ≡ map remaining olds
  edits-from [] news same = refl
  edits-from (old ∷ olds) [] same = absurd (omega (arith, same))
  edits-from (old ∷ olds) (new ∷ news) same = ap (λ (xs : List (Option (List ℕ))). remaining old ∷ xs) (edits-from olds news (omega (arith, same)))

  -- with what the merge was given as edits
  module _ (model new_model precedence new_precedence : S) (start new_start : Option S) (edits at new_edits : List S) where
    abbrev pub files : MergeFiles
    files = record { model = remaining model; precedence = remaining precedence; start = option_map remaining start; edits = map remaining edits }

    abbrev pub readings : MergeReadings
    readings = record {
      model = read_of model new_model;
      precedence = read_of precedence new_precedence;
      start = known_if read_of start new_start;
      edits = readings_by read_of at new_edits;
    }

    pub are-from : (given : MergeFiles) → files ≡ given → at ≡ edits → is_some new_start ≡ is_some start → length new_edits ≡ length at → AreFrom given readings
    are-from given is here same long =
        subst (λ (f : MergeFiles). AreFrom f readings) is
        (record { model = refl; precedence = refl; start = start-from start new_start same; edits = edits-from at new_edits long ∙ ap (λ (es : List S). map remaining es) here })

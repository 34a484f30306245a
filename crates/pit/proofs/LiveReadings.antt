-- A live workspace of open files.
use Rattle.std.proofs.Common.{◌≡◌, ℕ, Bool, List, Option, Some, None, is_some, option_map, refl, subst}
use Rattle.pit_step.specs.Devices.{Reading, reading_of, known_if}
use Rattle.pit.specs.LiveRun.{KnownLive, LiveReadings, AreReadFrom}

module _ {S : Type 0} (remaining : S → Option (List ℕ)) (has_failed : S → Bool) where
  abbrev pub read_of : S → S → Reading
  read_of old new = reading_of (remaining old) (remaining new) (has_failed new)

  source-from : (old new : Option S) → is_some new ≡ is_some old → option_map (λ (r : Reading). r.before) (known_if read_of old new) ≡ option_map remaining old
  source-from None new same = refl
  source-from (Some old) (Some new) same = refl
  source-from (Some old) None same = cc

  module _ (model new_model precedence new_precedence : S) (blocks new_blocks history new_history : Option S) where
    abbrev pub known : KnownLive
    known = record { model = remaining model; precedence = remaining precedence; blocks = option_map remaining blocks; history = option_map remaining history }

    abbrev pub live_readings : LiveReadings
    live_readings = record {
      model = read_of model new_model;
      precedence = read_of precedence new_precedence;
      blocks = known_if read_of blocks new_blocks;
      history = known_if read_of history new_history;
    }

    pub read-from : (given : KnownLive) → known ≡ given → is_some new_blocks ≡ is_some blocks → is_some new_history ≡ is_some history → AreReadFrom given live_readings
    read-from given is same_blocks same_history =
        subst (λ (k : KnownLive). AreReadFrom k live_readings) is
        (record { model = refl; precedence = refl; blocks = source-from blocks new_blocks same_blocks; history = source-from history new_history same_history })

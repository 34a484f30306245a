-- One part of the changes of an edit.
use Rattle.std.specs.Prelude.{ℕ, not, Bool, List, if◌then◌else◌}
use Rattle.std.specs.List.{filter}
use Rattle.pit_edit.specs.Changes.{is_late}

-- a block is among those that are late, or among the others
abbrev pub is_part : Bool → ℕ → (ℕ → ℕ) → ℕ → Bool
is_part wants_late start version b = if wants_late then is_late start version b else not (is_late start version b)

abbrev pub part_of : Bool → ℕ → (ℕ → ℕ) → List ℕ → List ℕ
part_of wants_late start version blocks = filter (is_part wants_late start version) blocks

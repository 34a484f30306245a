-- What standard error is told before planners sit down.
use Rattle.std.specs.Prelude.{ℕ, ◌==◌, Bool, if◌then◌else◌, List, [], ◌++◌, codes}
use Rattle.pit_step.specs.RefusalText.{numbered_text}
use Rattle.pit_output.specs.Outputs.{new_line}

-- that so many bytes of a torn end were left out
abbrev pub cut_line : ℕ → List ℕ
cut_line cut = if cut == 0 then [] else numbered_text (codes "history cut ") cut ++ codes "\n"

-- how many planners there are, and the history that is carried on
abbrev pub live_line : ℕ → ℕ → ℕ → List ℕ
live_line planners commits entries =
    numbered_text (codes "live ") planners ++ (numbered_text (codes " planners ") commits ++ (numbered_text (codes " commits ") entries ++ codes " entries\n"))

abbrev pub notices_text : Bool → ℕ → ℕ → ℕ → ℕ → List ℕ
notices_text is_new cut planners commits entries = new_line is_new ++ (cut_line cut ++ live_line planners commits entries)

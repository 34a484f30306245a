-- How much the words may ask for.
use Rattle.std.specs.Prelude.{ℕ}

-- how often a job may be repeated at most
abbrev pub retries_max : ℕ
retries_max = 1000

-- how many edits one merge may have
abbrev pub edits_max : ℕ
edits_max = 64

-- how many planners may sit down at one workspace
abbrev pub planners_max : ℕ
planners_max = 64

-- What contracts see of a transaction's sets.
use Rattle.std.specs.Prelude.{ℕ, ◌≤◌, ℤ, List, [], Option, nat_eq, is_some, if◌then◌else◌}
use Rattle.pit_model.specs.Fitting.{Fits, RevisionsFit}
use Rattle.pit_model.specs.Pit.{Pit}
use Rattle.pit_keyed.specs.Keyed.{at_key}
use Rattle.pit_num.specs.declared.limits.TheConstants.{PERIODS_MAX}
use Rattle.pit_model.specs.declared.counts.TheConstants.{BLOCKS_MAX, RESOURCES_MAX}

pub record Sets : Type 0 where
  -- who made it, for which of its jobs, and after how many commits
  pub planner : ℕ
  pub job : ℕ
  pub start : ℕ
  -- how many blocks, periods and resources there are
  pub blocks : ℕ
  pub periods : ℕ
  pub resources : ℕ
  -- blocks, each with a period or none, in the order of first use
  pub reads : List (ℕ × Option ℕ)
  pub writes : List (ℕ × Option ℕ)
  -- resources in periods, each with an upper limit or none, in the order of first use
  pub revises : List ((ℕ × ℕ) × Option ℤ)

-- the sets of a transaction that has just begun
abbrev pub empty_sets : Pit → ℕ → ℕ → ℕ → Sets
empty_sets pit planner job start = record {
  planner = planner;
  job = job;
  start = start;
  blocks = pit.blocks;
  periods = pit.periods;
  resources = pit.resources;
  reads = [];
  writes = [];
  revises = [];
}

-- the own write, else the first noted read
abbrev pub known_of : Sets → ℕ → Option (Option ℕ)
known_of sets b = if is_some (at_key nat_eq sets.writes b) then at_key nat_eq sets.writes b else at_key nat_eq sets.reads b

abbrev pub IsBlockCount : ℕ → Type 0
IsBlockCount blocks = (1 ≤ blocks) × (blocks ≤ BLOCKS_MAX)

abbrev pub IsPeriodCount : ℕ → Type 0
IsPeriodCount periods = (1 ≤ periods) × (periods ≤ PERIODS_MAX)

-- what is so of every transaction's sets
pub record AreSound (sets : Sets) : Type 0 where
  pub blocks : IsBlockCount sets.blocks
  pub periods : IsPeriodCount sets.periods
  pub resources : sets.resources ≤ RESOURCES_MAX
  pub reads : Fits sets.blocks sets.periods sets.reads
  pub writes : Fits sets.blocks sets.periods sets.writes
  pub revises : RevisionsFit sets.resources sets.periods sets.revises

-- The sets of an edit's work.
use Rattle.std.specs.Prelude.{ℕ, List, [], map}
use Rattle.pit_model.specs.Pit.{Pit}
use Rattle.pit_tx.specs.Sets.{Sets}
use Rattle.pit_edit.specs.Changes.{Edit, base_of, wanted_of}

-- where these blocks were read and written
abbrev pub sets_of : Pit → Edit → List ℕ → Sets
sets_of pit edit blocks =
    record {
      planner = edit.number;
      job = 1;
      start = edit.start;
      blocks = pit.blocks;
      periods = pit.periods;
      resources = pit.resources;
      reads = map (λ b. (b, base_of edit b)) blocks;
      writes = map (λ b. (b, wanted_of edit b)) blocks;
      revises = [];
    }

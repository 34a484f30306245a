-- What a prefix keeps.
use Rattle.std.specs.Prelude.{◌≡◌, ℕ, List, ◌++◌, length}
use Rattle.pit_model.specs.Pit.{Pit}
use Rattle.pit_desk.specs.History.{Answered, commits_of}
use Rattle.pit_board.specs.Prefixes.{AreLawful}

-- what a prefix keeps of the opening history and the entries that were added: how many commits there are in all, how many entries were added, and that
-- the commits are lawful
pub record IsPrefixKept (pit : Pit) (opening later : List Answered) (commits added : ℕ) : Type 0 where
  pub count : commits ≡ length (commits_of (opening ++ later))
  pub later_count : added ≡ length later
  pub lawful : AreLawful pit (commits_of (opening ++ later))

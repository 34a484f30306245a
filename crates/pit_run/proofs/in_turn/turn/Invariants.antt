use Rattle.std.proofs.Common.{length}
use Rattle.pit_share.specs.declared.new_session.TheConstants.{PLANNERS_MAX}
use Rattle.pit_run.proofs.in_turn.turn.Given as goal

-- the count of a new session
abbrev pub ghosts-turn_in-S-Ledger : goal.ghosts-turn_in-S-Ledger
ghosts-turn_in-S-Ledger g a = record { name = a.new_session.ledger; parts = PLANNERS_MAX }

-- its list, the desk that is at hand, and as many planners as scripts
abbrev pub ghosts-turn_in-S-Session : goal.ghosts-turn_in-S-Session
ghosts-turn_in-S-Session g a = record {
  book = a.new_session.book;
  instance = a.desk.plan.pit;
  opening = a.desk.history;
  max_entries = a.desk.max_entries;
  planners = length a.runner.now.scripts;
}

use Rattle.pit_share.specs.declared.new_session.TheConstants.{PLANNERS_MAX}
use Rattle.test_surface.proofs.tests.share.shared.Given as goal

-- the count of a new session
abbrev pub ghosts-play-S-Ledger : goal.ghosts-play-S-Ledger
ghosts-play-S-Ledger g a = record { name = a.new_session.ledger; parts = PLANNERS_MAX }

-- its list, and the desk that is at hand
abbrev pub ghosts-play-S-Session : goal.ghosts-play-S-Session
ghosts-play-S-Session g a = record { book = a.new_session.book; instance = a.desk.plan.pit; opening = a.desk.history; max_entries = a.desk.max_entries; planners = a.planners }

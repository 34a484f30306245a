use Rattle.pit_share.specs.declared.new_session.TheConstants.{PLANNERS_MAX}
use Rattle.pit_live.proofs.engine.live_on.Given as goal

-- the count of a new session
abbrev pub ghosts-live_in-S-Ledger : goal.ghosts-live_in-S-Ledger
ghosts-live_in-S-Ledger g a = record { name = a.new_session.ledger; parts = PLANNERS_MAX }

-- its list, and the desk that is at hand
abbrev pub ghosts-live_in-S-Session : goal.ghosts-live_in-S-Session
ghosts-live_in-S-Session g a = record { book = a.new_session.book; instance = a.desk.plan.pit; opening = a.desk.history; max_entries = a.desk.max_entries; planners = a.planners }

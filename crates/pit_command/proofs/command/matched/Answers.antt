use Rattle.clap.specs.Simple.{app_of}
use Rattle.pit_command.proofs.CommandLemmas.{pit_asks, pit_fails, pit_finds, pit_gives}
use Rattle.pit_command.proofs.command.matched.Goals as goal

pub returns-clause-whole : goal.returns-clause-whole
returns-clause-whole g c =
    pit_asks (app_of c.in_ok-pit.pit) _ c.try_get_matches_from.result c.in_ok-pit.ensures.app
    c.try_get_matches_from.ensures.kinds c.try_get_matches_from.ensures.matches

pub returns-clause-asked : goal.returns-clause-asked
returns-clause-asked g c =
    pit_finds (app_of c.in_ok-pit.pit) _ c.try_get_matches_from.result c.in_ok-pit.ensures.app c.try_get_matches_from.ensures.matches

pub returns-clause-fails : goal.returns-clause-fails
returns-clause-fails g c =
    pit_fails (app_of c.in_ok-pit.pit) _ c.try_get_matches_from.result c.in_ok-pit.ensures.app c.try_get_matches_from.ensures.kinds

pub returns-clause-given : goal.returns-clause-given
returns-clause-given g c =
    pit_gives (app_of c.in_ok-pit.pit) _ c.try_get_matches_from.result c.in_ok-pit.ensures.app c.try_get_matches_from.ensures.matches

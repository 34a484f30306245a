use Rattle.pit_step.specs.declared.input.Input.TheVariants.{Schedule}
use Rattle.pit_step.specs.declared.status.Status.TheVariants.{Fine}
use Rattle.pit_step.specs.Devices.{reading_of}
use Rattle.pit_state.proofs.CallerLemmas.{viewed}
use Rattle.pit_table.specs.CsvText.{table_answer}
use Rattle.pit_table.proofs.engine.read_table.Goals as goal

pub table_of-requires : goal.table_of-requires
table_of-requires g c = record { commits = c.in-Ok.ensures.2.commits; leaves = c.in-Ok.ensures.2.leaves }

pub returns-in-Ok : goal.returns-in-Ok
returns-in-Ok g c =
    let read = reading_of (g.S.Source.remaining c.args.schedule.now) (g.S.Source.remaining c.read_state.new.schedule) (g.S.Source.has_failed c.read_state.new.schedule) in
    viewed table_answer Schedule read c.args.pit c.in-Ok.plan (λ text. (text.items, Fine)) c.table_of.result c.in-Ok.ensures c.table_of.ensures

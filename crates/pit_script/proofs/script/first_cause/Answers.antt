use Rattle.pit_text.specs.Left.{fields_left}
use Rattle.pit_script.proofs.FirstLine.{first-wants, first-fails}
use Rattle.pit_script.proofs.script.first_cause.Goals as goal

pub returns-in-Ok : goal.returns-in-Ok
returns-in-Ok g c = first-wants c.args.pit.now (fields_left c.args.fields) c.ranged_fact.result c.in-Ok.field-0 c.ranged_fact.ensures.value c.in-Ok.is c.in-Ok.ensures.stands

pub returns-in-Err : goal.returns-in-Err
returns-in-Err g c = first-fails c.args.pit.now (fields_left c.args.fields) c.ranged_fact.result c.in-Err.fault c.from.result c.ranged_fact.ensures.value c.in-Err.is c.from.ensures

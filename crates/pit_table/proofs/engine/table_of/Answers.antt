use Rattle.std.proofs.Common.{ℕ, List, ◌++◌, Result, Ok, Err, IsOk, OnOk, ap, ◌∙◌}
use Rattle.std.proofs.lemmas.Bool.{false≢true}
use Rattle.pit_plan.specs.Schedule.{held_period, limit_of}
use Rattle.pit_step.specs.declared.status.Status.TheVariants.{Fine}
use Rattle.pit_table.specs.CsvText.{table_text}
use Rattle.pit_table.proofs.engine.table_of.Goals as goal

on_ok : {X E P : Type 0} (result : Result X E) → IsOk result → OnOk result P → P
on_ok (Ok x) is p = p
on_ok (Err e) is p = absurd (false≢true is)

pub returns : goal.returns
returns g c = λ commits stands.
    let is = c.in_ok-gathered.ensures in
    ap (λ (xs : List ℕ). (xs, Fine))
    (is.1
    ∙ (on_ok c.write_table-written.result is.0 c.write_table-written.ensures commits stands
    ∙ ap (λ (xs : List ℕ). xs ++ table_text c.args.plan.now.pit (held_period commits) (limit_of c.args.plan.now.pit commits)) c.empty_text-text.ensures))

use Rattle.pit_text.specs.Inside.Plain.{IsListThen}
use Rattle.pit_text.proofs.Standing.{some_of}
use Rattle.pit_text.proofs.Plain.{no_preds, some_preds}
use Rattle.pit_text.proofs.cutting.plain.counted_line.Goals as goal

pub returns-in-Some-eq0-default : goal.returns-in-Some-eq0-default
returns-in-Some-eq0-default g c =
    no_preds c.args.text.now c.in-Some.behind.now c.in-Some-eq0-default.rest.now c.in-Some.first c.in-Some-eq0-default.field-0-0 c.clear.new.self.items c.in-Some.ensures c.in-Some-eq0-default.ensures c.in-Some-eq0-default.field-0-0-test c.clear.ensures.items

pub returns-in-Some-2 : goal.returns-in-Some-2
returns-in-Some-2 g c =
    let next = c.in-Some-whole_before.behind.now in
    let listed = some_of c.in_ok-rest.field-0 c.in-Some-2.rest (λ r. IsListThen next c.in-Some-whole_before.count c.listed_line.new.listed.items r.now) c.in-Some-2.is c.in_ok-rest.ensures in
    some_preds c.args.text.now c.in-Some.behind.now next c.in-Some-2.rest.now c.in-Some.first c.in-Some-whole_before.count c.listed_line.new.listed.items c.in-Some.ensures c.in-Some-whole_before.ensures listed

use Rattle.std.proofs.Common.{◌∙◌, ◌∷◌, List, ℕ, ap}
use Rattle.pit_text.specs.Precedence.{preds_line}
use Rattle.pit_text.specs.Inside.Plain.{SaysPreds}
use Rattle.pit_text.proofs.Standing.{some_of}
use Rattle.pit_text.proofs.cutting.lines.Lines.plain_listed.Goals as goal

pub returns-in-Ok-Some-clause-says : goal.returns-in-Ok-Some-clause-says
returns-in-Ok-Some-clause-says g c =
    let said = some_of c.in-Ok-Some.field-0 (c.in-Ok-Some.block, c.in-Ok-Some.rest) (λ read. SaysPreds c.args.self.now.rest.now read.0 c.counted_line.new.listed.items read.1.now) c.in-Ok-Some.field-0-is c.in-Ok-Some.ensures in
    ap (λ (fs : List (List ℕ)). preds_line fs) (c.take_line-line.ensures.fields (said.0 ∷ said.1) said.2) ∙ said.3

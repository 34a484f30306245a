use Rattle.std.proofs.Common.{◌≡◌, ◌∙◌, List, ℕ, ◌∷◌}
use Rattle.pit_text.specs.Left.{fields_left}
use Rattle.pit_text.proofs.Plain.{line_seen, plain_cut, plain_end}
use Rattle.pit_text.proofs.cutting.lines.Lines.take_line.Goals as goal

pub returns-clause-steps : goal.returns-clause-steps
returns-clause-steps c =
    let text = c.args.self.now.rest.now in
    let rest = c.args.rest.now in
    let field : List ℕ = c.requires.plain.0 in
    let fields : List (List ℕ) = c.requires.plain.1 in
    let is = c.requires.plain.2 in
    let seen : fields_left c.in_front-fields.result ≡ field ∷ fields = c.in_front-fields.ensures ∙ line_seen text rest (field ∷ fields) is in (
      plain_cut text rest field fields (fields_left c.in_front-fields.result) c.args.self.now.number c.args.self.now.has_ended c.requires.goes_on is seen,
      plain_end text rest (field ∷ fields) c.args.self.now.number c.args.self.now.has_ended c.requires.goes_on is,
      tt,
    )

use Rattle.std.proofs.Common.{List, ℕ, ◌∷◌, sym, subst}
use Rattle.pit_text.specs.Inside.PlainFacts.{IsSaid, SaysFact}
use Rattle.pit_text.proofs.model.plain.plain_said.Goals as goal

pub returns-clause-says : goal.returns-clause-says
returns-clause-says c =
    let text = c.in_ok-text.ensures.0 in
    let read = subst (λ (l : List ℕ). SaysFact c.args.section l c.in_ok-fact.fact c.in_ok-fact.rest.now) text c.in_ok-fact.ensures in
    subst (λ (fs : List (List ℕ)). IsSaid c.args.section fs c.in_ok-fact.fact) (sym (c.take_line-line.ensures.fields (read.0 ∷ read.1) read.2)) read.3

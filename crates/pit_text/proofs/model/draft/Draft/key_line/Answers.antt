use Rattle.std.proofs.Common.{◌≡◌, ◌++◌, ◌∷◌, [], ℕ, List, Some, None, Ok, ap, sym, ◌∙◌, subst, set}
use Rattle.pit_text.specs.Left.{fields_left}
use Rattle.pit_text.specs.Header.{value_of_key}
use Rattle.pit_text.specs.Model.{header, header_value, key_line}
use Rattle.pit_text.specs.Inside.Draft.{IsDraft}
use Rattle.pit_text.proofs.Drafts.{draft-header, value-range}
use Rattle.pit_text.proofs.ModelLines.{new_key}
use Rattle.pit_text.proofs.Standing.{is_none}
use Rattle.pit_text.proofs.model.draft.Draft.key_line.Goals as goal

pub returns-clause-keeps : goal.returns-clause-keeps
returns-clause-keeps c = λ facts is.
    let key = c.args.key in
    let n : ℕ = c.in_ok-n.n in
    let value : List ℕ = c.in-Some-None.value.now in
    let number : value_of_key key value ≡ Ok n = sym c.value_of_key.ensures ∙ c.in_ok-n.was in
    let empty : c.value.result ≡ None = is_none c.value.result (sym c.is_some.ensures ∙ c.if-is_some.false) in
    let none : header_value facts key ≡ None = is.values key ∙ sym c.value.ensures ∙ empty in
    let one : fields_left c.args.values ≡ value ∷ [] = c.in-Some-None.ensures.steps ∙ ap (λ fs. value ∷ fs) c.in-Some-None.ensures'.steps.0 in (
      n,
      ap (λ fs. key_line facts key fs) one ∙ new_key facts key value n none number,
      subst (λ (k : ℕ). IsDraft (facts ++ header key n ∷ []) (record c.args.self.now { values = set c.args.self.now.values k (Some n) })) (sym c.number.ensures)
          (draft-header facts key n c.args.self.now none (value-range key value n number) is),
    )

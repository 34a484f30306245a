use Rattle.std.proofs.Common.{◌≡◌, ◌++◌, ◌∷◌, [], ℕ, Bool, true, false, cond, Some, None, Ok, Err, ap, sym, ◌∙◌, subst, set, slice_index_or}
use Rattle.std.specs.List.{list_any}
use Rattle.pit_text.specs.declared.error.Fault.TheVariants.{SectionTwice}
use Rattle.pit_text.specs.Keys.{same_section}
use Rattle.pit_text.specs.Model.{section, sections, missing_key, section_after}
use Rattle.pit_text.specs.Inside.Draft.{IsDraft}
use Rattle.pit_text.proofs.Drafts.{missing_key-draft, draft-section}
use Rattle.pit_text.proofs.model.draft.Draft.start.Goals as goal

pub returns-in-Some : goal.returns-in-Some
returns-in-Some c = λ facts is.
    let wanting : missing_key facts ≡ Some c.in-Some.key = missing_key-draft facts c.args.self.now is ∙ sym c.missing_key.ensures ∙ c.in-Some.is in
    ap (λ k. section_after facts c.args.begun k) wanting

pub returns-then-self-number : goal.returns-then-self-number
returns-then-self-number c = λ facts is.
    let whole : missing_key facts ≡ None = missing_key-draft facts c.args.self.now is ∙ sym c.missing_key.ensures ∙ c.in_default.is in
    let again : list_any (same_section c.args.begun) (sections facts) ≡ true =
    is.seen c.args.begun ∙ ap (λ (n : ℕ). slice_index_or c.args.self.now.seen n false) (sym c.number.ensures) ∙ c.if-self-number.true in
    ap (λ k. section_after facts c.args.begun k) whole ∙ ap (λ (b : Bool). cond b (Err SectionTwice) (Ok (section c.args.begun))) again

pub returns : goal.returns
returns c = λ facts is.
    let whole : missing_key facts ≡ None = missing_key-draft facts c.args.self.now is ∙ sym c.missing_key.ensures ∙ c.in_default.is in
    let fresh : list_any (same_section c.args.begun) (sections facts) ≡ false =
    is.seen c.args.begun ∙ ap (λ (n : ℕ). slice_index_or c.args.self.now.seen n false) (sym c.number.ensures) ∙ c.if-self-number.false in (
      ap (λ k. section_after facts c.args.begun k) whole ∙ ap (λ (b : Bool). cond b (Err SectionTwice) (Ok (section c.args.begun))) fresh,
      subst (λ (n : ℕ). IsDraft (facts ++ section c.args.begun ∷ []) (record c.args.self.now { section = Some c.args.begun; seen = set c.args.self.now.seen n true })) (sym c.number-2.ensures)
          (draft-section facts c.args.begun c.args.self.now is),
      whole,
    )

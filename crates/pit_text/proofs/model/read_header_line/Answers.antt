use Rattle.std.proofs.Common.{ap, sym, ◌∙◌, refl}
use Rattle.pit_text.specs.Left.{fields_left}
use Rattle.pit_text.specs.Model.{skipped, header, section, sections, last_of, model_line}
use Rattle.pit_text.proofs.Facts.{sections-more, last_of-push}
use Rattle.pit_text.proofs.Drafts.{draft-same}
use Rattle.pit_text.proofs.ModelLines.{line_empty, line_section, line_key, line_unlisted, match_map}
use Rattle.pit_text.proofs.model.read_header_line.Goals as goal

pub returns-in_default : goal.returns-in_default
returns-in_default c = λ facts is.
    (skipped, ap (λ fs. model_line facts fs) c.in_default.ensures.steps.0 ∙ line_empty facts, draft-same facts skipped c.args.draft.now (λ key. refl) refl is, c.requires)

pub returns-in-Some-section_of : goal.returns-in-Some-section_of
returns-in-Some-section_of c = λ facts is.
    let s = c.in-Some-section_of.section in
    let line = ap (λ fs. model_line facts fs) c.in-Some.ensures.steps ∙ line_section facts c.in-Some.first.now (fields_left c.next.new.self) s (sym c.section_of.ensures ∙ c.in-Some-section_of.is) in
    match_map c.start.result
    (λ _ ok. (section s, line ∙ ok.0, ok.1, (sym ok.1.section ∙ (ap (λ ss. last_of ss) (sections-more facts (section s)) ∙ last_of-push (sections facts) s), ok.2)))
    (λ cause err. line ∙ err)
    (c.start.ensures facts is)

pub returns-in-Some-key_of : goal.returns-in-Some-key_of
returns-in-Some-key_of c = λ facts is.
    let key = c.in-Some-key_of.key in
    let line = ap (λ fs. model_line facts fs) c.in-Some.ensures.steps
    ∙ line_key facts c.in-Some.first.now (fields_left c.next.new.self) key (sym c.section_of.ensures ∙ c.in_default-section_of.is) (is.section ∙ c.requires) (sym c.key_of.ensures ∙ c.in-Some-key_of.is) in
    match_map c.key_line.result
    (λ _ ok. (header key ok.0, line ∙ ok.1, ok.2, c.key_line.ensures.section ∙ c.requires))
    (λ cause err. line ∙ err)
    (c.key_line.ensures.keeps facts is)

pub returns-in-None : goal.returns-in-None
returns-in-None c = λ facts is. (
  skipped,
  ap (λ fs. model_line facts fs) c.in-Some.ensures.steps
      ∙ line_unlisted facts c.in-Some.first.now (fields_left c.next.new.self) (sym c.section_of.ensures ∙ c.in_default-section_of.is) (is.section ∙ c.requires) (sym c.key_of.ensures ∙ c.in-None.is),
  draft-same facts skipped c.args.draft.now (λ key. refl) refl is,
  c.requires,
)

use Rattle.std.proofs.Common.{◌≡◌, ◌<◌, ℕ, Option, Some, None, Ok, is_some, true, inl, inr, refl, ap, sym, ◌∙◌, slice_index_or, List}
use Rattle.pit_model.specs.declared.error.BuildError.TheVariants.{Repeated}
use Rattle.pit_text.specs.declared.error.Fault.TheVariants.{Build}
use Rattle.pit_text.specs.Left.{fields_left}
use Rattle.pit_text.specs.Solution.{period_in}
use Rattle.pit_text.specs.Inside.Solution.{AreSlots}
use Rattle.pit_text.proofs.Standing.{some_of, slots_made, slots_more, slots_same, slot_is, is_none, line_none, line_new, line_again, line_bad}
use Rattle.pit_text.proofs.solution.judge_line.Goals as goal

pub returns-in-Ok-None : goal.returns-in-Ok-None
returns-in-Ok-None g c = λ facts are. (
  None,
  line_none c.args.blocks c.args.periods facts (fields_left c.args.fields) (sym c.scheduled_pair.ensures.value ∙ c.in-Ok-None.is ∙ ap (λ o. Ok o) c.in-Ok-None.field-0-is),
  slots_same c.args.blocks facts c.args.slots.now.items are,
)

pub returns-in-Err : goal.returns-in-Err
returns-in-Err g c = λ facts are. inr (c.in-Err.fault, c.from.ensures, line_bad c.args.blocks c.args.periods facts (fields_left c.args.fields) c.in-Err.fault (sym c.scheduled_pair.ensures.value ∙ c.in-Err.is))

pub returns-in_default : goal.returns-in_default
returns-in_default g c = λ facts are.
    let b : ℕ = c.in-Ok-Some.pair.0 in
    let within : b < c.args.blocks = (some_of c.in-Ok-Some.field-0 c.in-Ok-Some.pair (λ pair. (pair.0 < c.args.blocks) × (pair.1 < c.args.periods)) c.in-Ok-Some.field-0-is c.in-Ok-Some.ensures.in_range).0 in
    let none : period_in facts b ≡ None = sym (are.each b within) ∙ ap (λ (os : List (Option ℕ)). slice_index_or os b None) c.in_default.ensures.refused in
    inl (
      refl,
      (c.in-Ok-Some.pair, line_new c.args.blocks c.args.periods facts (fields_left c.args.fields) b c.in-Ok-Some.pair.1 (sym c.scheduled_pair.ensures.value ∙ c.in-Ok-Some.is ∙ ap (λ o. Ok o) c.in-Ok-Some.field-0-is) none),
    )

pub returns-then-is_some : goal.returns-then-is_some
returns-then-is_some g c = λ facts are.
    let b : ℕ = c.in-Ok-Some.pair.0 in
    let within : b < c.args.blocks = (some_of c.in-Ok-Some.field-0 c.in-Ok-Some.pair (λ pair. (pair.0 < c.args.blocks) × (pair.1 < c.args.periods)) c.in-Ok-Some.field-0-is c.in-Ok-Some.ensures.in_range).0 in
    let made : AreSlots c.args.blocks facts c.make_slots.new.slots.items = slots_made c.args.blocks facts c.args.slots.now.items c.make_slots.new.slots.items are c.in-Ok.ensures.count c.make_slots.ensures.same in
    let period : c.index.result.now ≡ period_in facts b = slot_is c.args.blocks facts c.make_slots.new.slots.items b c.index.result.now made c.in-Ok.ensures.count within c.index.ensures in
    let some : is_some (period_in facts b) ≡ true = ap (λ (o : Option ℕ). is_some o) (sym period) ∙ sym c.if-is_some.ensures in
    inr (Build Repeated, refl, line_again c.args.blocks c.args.periods facts (fields_left c.args.fields) b c.in-Ok-Some.pair.1 (sym c.scheduled_pair.ensures.value ∙ c.in-Ok-Some.is ∙ ap (λ o. Ok o) c.in-Ok-Some.field-0-is) some)

pub returns : goal.returns
returns g c = λ facts are.
    let b : ℕ = c.in-Ok-Some.pair.0 in
    let within : b < c.args.blocks = (some_of c.in-Ok-Some.field-0 c.in-Ok-Some.pair (λ pair. (pair.0 < c.args.blocks) × (pair.1 < c.args.periods)) c.in-Ok-Some.field-0-is c.in-Ok-Some.ensures.in_range).0 in
    let t : ℕ = c.in-Ok-Some.pair.1 in
    let made : AreSlots c.args.blocks facts c.make_slots.new.slots.items = slots_made c.args.blocks facts c.args.slots.now.items c.make_slots.new.slots.items are c.in-Ok.ensures.count c.make_slots.ensures.same in
    let period : c.index.result.now ≡ period_in facts b = slot_is c.args.blocks facts c.make_slots.new.slots.items b c.index.result.now made c.in-Ok.ensures.count within c.index.ensures in
    let none : period_in facts b ≡ None = sym period ∙ is_none c.index.result.now (sym c.if-is_some.ensures) in
    let empty : slice_index_or c.make_slots.new.slots.items b None ≡ None = made.each b within ∙ none in (
      Some (b, t),
      line_new c.args.blocks c.args.periods facts (fields_left c.args.fields) b t (sym c.scheduled_pair.ensures.value ∙ c.in-Ok-Some.is ∙ ap (λ o. Ok o) c.in-Ok-Some.field-0-is) none,
      slots_more c.args.blocks facts c.make_slots.new.slots.items b t made c.in-Ok.ensures.count within empty,
    )

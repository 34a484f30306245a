use Rattle.std.proofs.Common.{◌≡◌, ℕ, ℤ, ◌+◌, ◌<◌, ◌^◌, ◌+ℤ◌, to_z, of_z, FitsSigned, None, Some, sym, ap, subst, ◌∙◌, arith, rules}
use Rattle.std.specs.Int.{w128}
use Rattle.std.proofs.lemmas.Int.{to_z-of_z}
use Rattle.std.proofs.lemmas.List.{get_or_default}
use Rattle.pit_model.specs.Pit.{Pit, IsSound}
use Rattle.pit_plan.specs.Schedule.{earned_in}
use Rattle.pit_plan.specs.Standing.{period_of}
use Rattle.pit_table.specs.declared.mined.Mined.{Mined}
use Rattle.pit_table.specs.Inside.Mined.{mined_at, nothing_mined}
use Rattle.pit_table.proofs.OneMore.{mined-none, mined-one, count-room, value-room}
use Rattle.pit_table.proofs.mined.add_block.Goals as goal

pub returns-in_default : goal.returns-in_default
returns-in_default g c =
    let none : period_of c.args.plan.now c.args.b ≡ None = search rules in
    mined-none c.args.plan.now.pit (period_of c.args.plan.now) c.args.b c.args.mined.now.items none c.requires.before

pub with_block-requires-clause-blocks : goal.with_block-requires-clause-blocks
with_block-requires-clause-blocks g c =
    let pit = c.args.plan.now.pit in
    let items = c.args.mined.now.items in
    let t = c.in-Some.t in
    let here : mined_at items t ≡ c.index.result.now = get_or_default items t nothing_mined c.index.result.now (omega (arith, c.requires.before.each, c.in-Some.ensures.in_range)) ∙ sym c.index.ensures in
    subst (λ (m : Mined). m.blocks + 1 < 2 ^ 32) here
    (count-room pit (period_of c.args.plan.now) c.args.b items t (subst IsSound c.deposit.ensures c.shows_sound.ensures) c.in-Some.ensures.in_range c.requires.known c.requires.before)

pub with_block-requires-clause-value : goal.with_block-requires-clause-value
with_block-requires-clause-value g c =
    let pit = c.args.plan.now.pit in
    let items = c.args.mined.now.items in
    let t = c.in-Some.t in
    let here : mined_at items t ≡ c.index.result.now = get_or_default items t nothing_mined c.index.result.now (omega (arith, c.requires.before.each, c.in-Some.ensures.in_range)) ∙ sym c.index.ensures in
    let some : period_of c.args.plan.now c.args.b ≡ Some t = search rules in
    let earned : to_z w128 (of_z w128 c.earned-earned.result) ≡ earned_in pit c.args.b (Some t) =
    to_z-of_z w128 c.earned-earned.result (search rules) ∙ c.earned-earned.ensures ∙ ap (λ (p : Pit). earned_in p c.args.b (Some t)) c.deposit-2.ensures in
    rw earned
    (subst (λ (m : Mined). FitsSigned w128 (m.value +ℤ earned_in pit c.args.b (Some t))) here
    (value-room pit (period_of c.args.plan.now) c.args.b items t (subst IsSound c.deposit.ensures c.shows_sound.ensures) c.in-Some.ensures.in_range c.requires.known some c.requires.before))

pub returns : goal.returns
returns g c =
    let pit = c.args.plan.now.pit in
    let items = c.args.mined.now.items in
    let t = c.in-Some.t in
    let here : mined_at items t ≡ c.index.result.now = get_or_default items t nothing_mined c.index.result.now (omega (arith, c.requires.before.each, c.in-Some.ensures.in_range)) ∙ sym c.index.ensures in
    let some : period_of c.args.plan.now c.args.b ≡ Some t = search rules in
    let earned : to_z w128 (of_z w128 c.earned-earned.result) ≡ earned_in pit c.args.b (Some t) =
    to_z-of_z w128 c.earned-earned.result (search rules) ∙ c.earned-earned.ensures ∙ ap (λ (p : Pit). earned_in p c.args.b (Some t)) c.deposit-2.ensures in
    mined-one pit (period_of c.args.plan.now) c.args.b items t c.with_block.result some c.in-Some.ensures.in_range c.requires.before
    (c.with_block.ensures.blocks ∙ ap {B = ℕ} (λ (m : Mined). m.blocks + 1) (sym here))
    (c.with_block.ensures.value ∙ ap (λ (z : ℤ). c.index.result.now.value +ℤ z) earned ∙ ap (λ (m : Mined). m.value +ℤ earned_in pit c.args.b (Some t)) (sym here))

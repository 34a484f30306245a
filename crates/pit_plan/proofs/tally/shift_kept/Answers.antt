use Rattle.std.proofs.Common.{◌≡◌, false, true, Result, Ok, Err, sym, ◌∙◌, ap, length, pos}
use Rattle.std.specs.Prelude.{IfErr, OnOk}
use Rattle.std.proofs.lemmas.Bool.{true≢false}
use Rattle.std.proofs.lemmas.List.{length-replicate}
use Rattle.pit_plan.proofs.tally.shift_kept.Goals as goal

-- what holds of a result that isn't refused
unrefused : {T E : Type 0} (r : Result T E) (P : Type 0) → IfErr r (λ e. false ≡ true) → OnOk r P → P
unrefused (Ok x) P refused is = is
unrefused (Err e) P refused is = absurd (true≢false (sym refused))

pub shift-never_refused-requires-clause-cells : goal.shift-never_refused-requires-clause-cells
shift-never_refused-requires-clause-cells g c = length-replicate (length c.args.loads.now.items) (pos 0) ∙ c.requires.len

pub returns-clause-len : goal.returns-clause-len
returns-clause-len g c =
    let same = unrefused c.shift-never_refused.result _ c.shift-never_refused.ensures.refused c.shift-never_refused.ensures.stays in
    sym (length-replicate (length c.shift-never_refused.new.loads.items) (pos 0)) ∙ (ap length same ∙ length-replicate (length c.args.loads.now.items) (pos 0))

pub returns-clause-moves : goal.returns-clause-moves
returns-clause-moves g c = unrefused c.shift-never_refused.result _ c.shift-never_refused.ensures.refused c.shift-never_refused.ensures.moves

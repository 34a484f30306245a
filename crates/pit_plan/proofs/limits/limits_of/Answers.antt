use Rattle.std.proofs.Common.{ℕ, ◌+◌, ◌*◌, ◌/◌, ◌%◌, ◌<◌, ◌≡◌, ℤ, Option, None, [], ◌∷◌, ◌++◌, length, get_or, sym, ap, ap₂, ◌∙◌, arith}
use Rattle.std.proofs.Math.Nat.{div-add-mod}
use Rattle.std.proofs.lemmas.List.{map_more}
use Rattle.pit_plan.proofs.limits.limits_of.Goals as goal

pub loop-cell-preserved : goal.loop-cell-preserved
loop-cell-preserved g c =
    let pit = c.args.pit.now in
    let cell = c.loop-cell.cell in
    let each = c.shows_sound.ensures.each_bound in
    let cells : c.periods.result * c.resources.result ≡ pit.periods * pit.resources = ap₂ ◌*◌ c.periods.ensures c.resources.ensures in
    let within : cell < length pit.bounds = omega (arith, cells, each) in
    let here : cell / c.resources-in-loop-cell-2.result * pit.resources + cell % c.resources-in-loop-cell.result ≡ cell =
    rw (c.resources-in-loop-cell.ensures, c.resources-in-loop-cell-2.ensures) (omega (arith, div-add-mod cell pit.resources)) in
    c.in_ok-push.ensures.items
    ∙ ap₂ ◌++◌ c.loop-cell.invariant (ap (λ (limit : Option ℤ). limit ∷ []) (c.upper.ensures ∙ ap (λ (n : ℕ). (get_or pit.bounds n (None, None)).1) here))
    ∙ sym (map_more (λ (bounds : Option ℤ × Option ℤ). bounds.1) pit.bounds cell (None, None) within)

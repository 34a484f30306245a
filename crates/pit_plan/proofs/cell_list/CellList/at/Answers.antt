use Rattle.std.proofs.Common.{◌≡◌, ◌<◌, ℕ, ℤ, pos, List, ◌++◌, length, Some, get_or, ap, subst, sym, ◌∙◌, arith, rules}
use Rattle.std.specs.Prelude.{nat_eq}
use Rattle.std.specs.Map.{lookup}
use Rattle.std.specs.Int.{w128}
use Rattle.std.proofs.lemmas.Int.{to_z-of_z}
use Rattle.std.proofs.lemmas.List.{length-append, get_or_append_left}
use Rattle.pit_plan.proofs.CellLists.{behind-list, found-at}
use Rattle.pit_plan.proofs.cell_list.CellList.at.Goals as goal

pub returns-then-i-len-clause-load : goal.returns-then-i-len-clause-load
returns-then-i-len-clause-load g c =
    let few = c.self.inside.few.items in
    let others = c.self.inside.others.entries in
    let d : ℕ × ℤ = c.index.result.now in
    let within : c.args.i < length few = omega (arith, c.if-i-len.true, c.len.ensures) in
    let all : c.args.i < length (few ++ others) = omega (arith, within, length-append few others) in
    let here : d ≡ get_or (few ++ others) c.args.i d = c.index.ensures ∙ sym (get_or_append_left few others d c.args.i within) in
    subst (λ (cs : List (ℕ × ℤ)). lookup (nat_eq d.0) cs ≡ Some d.1) c.self.view_is
    (subst (λ (p : ℕ × ℤ). lookup (nat_eq p.0) (few ++ others) ≡ Some p.1) (sym here) (found-at (few ++ others) c.args.i d c.self.invariant all))

pub returns-clause-cell : goal.returns-clause-cell
returns-clause-cell g c =
    let few = c.self.inside.few.items in
    let others = c.self.inside.others.entries in
    let here = behind-list few others c.args.i c.len-2.result (c.in-Some.cell.now, c.in-Some.load.now) (omega (arith, c.len-2.ensures)) (omega (arith, c.if-i-len.false, c.len.ensures, c.len-2.ensures)) (sym c.in-Some.ensures.entry) in
    sym (ap (λ (cs : List (ℕ × ℤ)). (get_or cs c.args.i (0, pos 0)).0) (sym c.self.view_is) ∙ ap (λ (p : ℕ × ℤ). p.0) here)

pub returns-clause-load : goal.returns-clause-load
returns-clause-load g c =
    let few = c.self.inside.few.items in
    let others = c.self.inside.others.entries in
    let here = behind-list few others c.args.i c.len-2.result (c.in-Some.cell.now, c.in-Some.load.now) (omega (arith, c.len-2.ensures)) (omega (arith, c.if-i-len.false, c.len.ensures, c.len-2.ensures)) (sym c.in-Some.ensures.entry) in
    let all : c.args.i < length (few ++ others) = subst (λ (cs : List (ℕ × ℤ)). c.args.i < length cs) (sym c.self.view_is) c.requires in
    subst (λ (cs : List (ℕ × ℤ)). lookup (nat_eq c.in-Some.cell.now) cs ≡ Some c.in-Some.load.now) c.self.view_is
    (subst (λ (p : ℕ × ℤ). lookup (nat_eq p.0) (few ++ others) ≡ Some p.1) here (found-at (few ++ others) c.args.i (0, pos 0) c.self.invariant all))
    ∙ sym (ap (λ (v : ℤ). Some v) (to_z-of_z w128 c.in-Some.load.now (search rules)))

use Rattle.std.proofs.Common.{◌≡◌, ℕ, ℤ, pos, List, Some, None, ap, subst, sym, ◌∙◌, rules}
use Rattle.std.specs.Prelude.{nat_eq}
use Rattle.std.specs.Map.{lookup}
use Rattle.std.specs.Int.{w128}
use Rattle.std.proofs.lemmas.Int.{to_z-of_z}
use Rattle.std.proofs.lemmas.List.{get_or_default}
use Rattle.pit_plan.specs.Inside.CellLists.{IsFirstOf}
use Rattle.pit_plan.proofs.CellLists.{first-found, absent-found}
use Rattle.pit_plan.proofs.cell_list.CellList.load.Goals as goal

pub returns-in-Some : goal.returns-in-Some
returns-in-Some g c =
    let few = c.self.inside.few.items in
    let others = c.self.inside.others.entries in
    let first = subst (λ (cs : List (ℕ × ℤ)). IsFirstOf cs c.args.cell c.in-Some.i) c.deref.ensures.value c.in-Some.ensures.some in
    ap (λ (v : ℤ). Some v) (to_z-of_z w128 c.index.result.now.1 (search rules))
    ∙ (ap (λ (p : ℕ × ℤ). Some p.1) (c.index.ensures ∙ get_or_default few c.in-Some.i c.index.result.now (0, pos 0) first.0)
    ∙ (sym (first-found few others c.args.cell c.in-Some.i first) ∙ ap (λ (cs : List (ℕ × ℤ)). lookup (nat_eq c.args.cell) cs) c.self.view_is))

pub returns : goal.returns
returns g c =
    let few = c.self.inside.few.items in
    let others = c.self.inside.others.entries in
    let absent : lookup (nat_eq c.args.cell) few ≡ None = subst (λ (cs : List (ℕ × ℤ)). lookup (nat_eq c.args.cell) cs ≡ None) c.deref.ensures.value c.in_default.ensures.none in
    let found : c.copied.result ≡ lookup (nat_eq c.args.cell) others = search rules in
    found ∙ (sym (absent-found few others c.args.cell absent) ∙ ap (λ (cs : List (ℕ × ℤ)). lookup (nat_eq c.args.cell) cs) c.self.view_is)

use Rattle.std.proofs.Common.{◌≡◌, ℕ, ℤ, List, [], ◌∷◌, ◌++◌, None, ap, subst, sym, ◌∙◌, rules}
use Rattle.std.specs.Prelude.{nat_eq, slice_set}
use Rattle.std.specs.Map.{lookup}
use Rattle.std.specs.Int.{w128}
use Rattle.std.proofs.lemmas.Int.{to_z-of_z}
use Rattle.indexmap.specs.IndexMap.{insert_entry}
use Rattle.pit_plan.specs.Inside.CellLists.{IsFirstOf, AreOnce}
use Rattle.pit_plan.specs.Inside.Touched.{SetsCell}
use Rattle.pit_plan.proofs.Touched.{sets-written}
use Rattle.pit_plan.proofs.CellLists.{first-written, absent-written, absent-pushed, once-written, nothing}
use Rattle.pit_plan.proofs.cell_list.CellList.set.Goals as goal

pub invariant_of-self : goal.invariant_of-self
invariant_of-self g c =
    let few = c.self.inside.few.items in
    let others = c.self.inside.others.entries in
    subst AreOnce (sym (ap (λ (v : ℤ). slice_set few c.in-Some.i (c.args.cell, v) ++ others) (to_z-of_z w128 c.args.load (search rules))
    ∙ first-written few others c.args.cell c.in-Some.i c.args.load (subst (λ (cs : List (ℕ × ℤ)). IsFirstOf cs c.args.cell c.in-Some.i) c.deref.ensures.value c.in-Some.ensures.some)))
    (once-written (few ++ others) c.args.cell c.args.load c.self.invariant)

pub returns-in-Some : goal.returns-in-Some
returns-in-Some g c =
    let few = c.self.inside.few.items in
    let others = c.self.inside.others.entries in
    subst (λ (new : List (ℕ × ℤ)). SetsCell c.args.self.now c.args.cell c.args.load new) (sym (ap (λ (v : ℤ). slice_set few c.in-Some.i (c.args.cell, v) ++ others) (to_z-of_z w128 c.args.load (search rules))
    ∙ (first-written few others c.args.cell c.in-Some.i c.args.load (subst (λ (cs : List (ℕ × ℤ)). IsFirstOf cs c.args.cell c.in-Some.i) c.deref.ensures.value c.in-Some.ensures.some)
    ∙ ap (λ (cs : List (ℕ × ℤ)). insert_entry nat_eq cs c.args.cell c.args.load) c.self.view_is)))
    (sets-written c.args.self.now c.args.cell c.args.load)

pub invariant_of-self-then-is_empty : goal.invariant_of-self-then-is_empty
invariant_of-self-then-is_empty g c =
    let few = c.self.inside.few.items in
    let others = c.self.inside.others.entries in
    let absent : lookup (nat_eq c.args.cell) few ≡ None = subst (λ (cs : List (ℕ × ℤ)). lookup (nat_eq c.args.cell) cs ≡ None) c.deref.ensures.value c.in_default.ensures.none in
    let empty : others ≡ [] = nothing others (c.is_empty.ensures.0 c.if-is_empty.true) in
    subst AreOnce (sym (ap (λ (cs : List (ℕ × ℤ)). cs ++ others) c.in_ok-push.ensures.items ∙ (ap (λ (v : ℤ). (few ++ (c.args.cell, v) ∷ []) ++ others) (to_z-of_z w128 c.args.load (search rules))
    ∙ absent-pushed few others c.args.cell c.args.load empty absent)))
    (once-written (few ++ others) c.args.cell c.args.load c.self.invariant)

pub returns-then-is_empty : goal.returns-then-is_empty
returns-then-is_empty g c =
    let few = c.self.inside.few.items in
    let others = c.self.inside.others.entries in
    let absent : lookup (nat_eq c.args.cell) few ≡ None = subst (λ (cs : List (ℕ × ℤ)). lookup (nat_eq c.args.cell) cs ≡ None) c.deref.ensures.value c.in_default.ensures.none in
    let empty : others ≡ [] = nothing others (c.is_empty.ensures.0 c.if-is_empty.true) in
    subst (λ (new : List (ℕ × ℤ)). SetsCell c.args.self.now c.args.cell c.args.load new) (sym (ap (λ (cs : List (ℕ × ℤ)). cs ++ others) c.in_ok-push.ensures.items ∙ (ap (λ (v : ℤ). (few ++ (c.args.cell, v) ∷ []) ++ others) (to_z-of_z w128 c.args.load (search rules))
    ∙ (absent-pushed few others c.args.cell c.args.load empty absent ∙ ap (λ (cs : List (ℕ × ℤ)). insert_entry nat_eq cs c.args.cell c.args.load) c.self.view_is))))
    (sets-written c.args.self.now c.args.cell c.args.load)

pub invariant_of-self-2 : goal.invariant_of-self-2
invariant_of-self-2 g c =
    let few = c.self.inside.few.items in
    let others = c.self.inside.others.entries in
    let absent : lookup (nat_eq c.args.cell) few ≡ None = subst (λ (cs : List (ℕ × ℤ)). lookup (nat_eq c.args.cell) cs ≡ None) c.deref.ensures.value c.in_default.ensures.none in
    subst AreOnce (sym (ap (λ (cs : List (ℕ × ℤ)). few ++ cs) (c.in_ok-insert.ensures.entries ∙ ap (λ (v : ℤ). insert_entry nat_eq others c.args.cell v) (to_z-of_z w128 c.args.load (search rules)))
    ∙ absent-written few others c.args.cell c.args.load absent))
    (once-written (few ++ others) c.args.cell c.args.load c.self.invariant)

pub returns : goal.returns
returns g c =
    let few = c.self.inside.few.items in
    let others = c.self.inside.others.entries in
    let absent : lookup (nat_eq c.args.cell) few ≡ None = subst (λ (cs : List (ℕ × ℤ)). lookup (nat_eq c.args.cell) cs ≡ None) c.deref.ensures.value c.in_default.ensures.none in
    subst (λ (new : List (ℕ × ℤ)). SetsCell c.args.self.now c.args.cell c.args.load new) (sym (ap (λ (cs : List (ℕ × ℤ)). few ++ cs) (c.in_ok-insert.ensures.entries ∙ ap (λ (v : ℤ). insert_entry nat_eq others c.args.cell v) (to_z-of_z w128 c.args.load (search rules)))
    ∙ (absent-written few others c.args.cell c.args.load absent ∙ ap (λ (cs : List (ℕ × ℤ)). insert_entry nat_eq cs c.args.cell c.args.load) c.self.view_is)))
    (sets-written c.args.self.now c.args.cell c.args.load)

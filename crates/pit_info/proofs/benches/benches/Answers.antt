use Rattle.pit_info.proofs.Heights.{is_member-more}
use Rattle.std.proofs.Common.{rules, ◌≡◌, ℕ, ℤ, List, OnOk, ap, ◌∙◌, sym, subst, map-id, arith}
use Rattle.std.specs.BTreeSet.{InsertsAll}
use Rattle.std.specs.Ordering.{int_cmp, int_eq}
use Rattle.std.specs.Prelude.{option_to_list}
use Rattle.std.specs.Set.{distinct_count}
use Rattle.std.proofs.lemmas.Cmp.{int_cmp_total}
use Rattle.std.proofs.lemmas.Iterator.Adapters.{YieldsList-from_once, fact_from_extend}
use Rattle.std.proofs.lemmas.Map.Views.{btree_set_len-from_list}
use Rattle.pit_info.specs.Figures.{height_of, heights_in}
use Rattle.pit_info.proofs.benches.benches.Goals as goal

pub loop-b-preserved : goal.loop-b-preserved
loop-b-preserved g c =
    let here = height_of c.args.pit.now c.loop-b.b in
    let extends : OnOk c.extend.result (InsertsAll int_cmp c.loop-b.heights (option_to_list here) c.extend.new.self) =
    fact_from_extend (λ (x : ℤ). x) c.extend.result c.extend.ensures.ran (λ it made. YieldsList-from_once here (made.0 ∙ c.height.ensures)) (λ xs same inserts. subst (λ (ys : List ℤ). InsertsAll int_cmp c.loop-b.heights ys c.extend.new.self) (sym (map-id xs) ∙ same) inserts) in
    is_member-more c.args.pit.now c.loop-b.b c.loop-b.heights c.extend.new.self c.loop-b.invariant (search rules)

pub returns : goal.returns
returns g c =
    let end : c.loop-b.b ≡ c.args.pit.now.blocks = omega (arith, c.loop-b-test.false, c.loop-b.auto.b-end, c.blocks-b-end.ensures.count) in
    c.len.ensures.len ∙ btree_set_len-from_list int_cmp_total (heights_in c.args.pit.now c.loop-b.b) c.loop-b.heights (c.loop-b.invariant, c.len.ensures.ordered)
    ∙ ap (λ (n : ℕ). distinct_count int_eq (heights_in c.args.pit.now n)) end

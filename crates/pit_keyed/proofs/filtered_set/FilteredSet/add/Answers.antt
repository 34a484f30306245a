use Rattle.std.proofs.Common.{◌≡◌, [], ◌∷◌, ◌++◌, None, nat_eq, sym, ap, subst, ◌∙◌}
use Rattle.std.specs.Prelude.{is_some}
use Rattle.pit_keyed.specs.Keyed.{at_key}
use Rattle.pit_keyed.specs.Inside.Filter.{AreFiltersOf}
use Rattle.pit_keyed.proofs.Absent.{insert_entry-absent}
use Rattle.pit_keyed.proofs.Filters.{filters-push}
use Rattle.pit_keyed.proofs.filtered_set.FilteredSet.add.Goals as goal

pub invariant_of-self-2 : goal.invariant_of-self-2
invariant_of-self-2 g c =
    let pairs = c.self.inside.map.entries in
    let absent : at_key nat_eq pairs c.args.key ≡ None = ap (λ ps. at_key nat_eq ps c.args.key) c.self.view_is ∙ c.requires in
    let added : c.insert.new.map.entries ≡ pairs ++ (c.args.key, c.args.value) ∷ [] =
    c.in_ok-insert.ensures.ok ∙ insert_entry-absent nat_eq pairs c.args.key c.args.value (ap is_some absent) in (
      c.insert.ensures.kept,
      subst (λ ps. AreFiltersOf ps c.with_bit-self-inside.result c.with_bit-self-inside-2.result) (sym added)
          (filters-push pairs c.args.key c.args.value c.self.inside.low c.self.inside.high c.with_bit-self-inside.result c.with_bit-self-inside-2.result
          c.self.invariant.1 c.with_bit-self-inside.ensures c.with_bit-self-inside-2.ensures),
    )

pub returns-clause-ok : goal.returns-clause-ok
returns-clause-ok g c =
    let pairs = c.self.inside.map.entries in
    let absent : at_key nat_eq pairs c.args.key ≡ None = ap (λ ps. at_key nat_eq ps c.args.key) c.self.view_is ∙ c.requires in
    let added : c.insert.new.map.entries ≡ pairs ++ (c.args.key, c.args.value) ∷ [] =
    c.in_ok-insert.ensures.ok ∙ insert_entry-absent nat_eq pairs c.args.key c.args.value (ap is_some absent) in
    added ∙ ap (λ ps. ps ++ (c.args.key, c.args.value) ∷ []) c.self.view_is

use Rattle.std.proofs.Common.{rules, ◌≡◌, ◌+◌, ◌*◌, ℕ, List, replicate, refl, sym, subst}
use Rattle.pit_plan.specs.Standing.{period_of}
use Rattle.pit_diff.specs.Changes.{moved}
use Rattle.pit_diff.specs.Inside.Table.{IsTableOf}
use Rattle.pit_diff.proofs.Counting.{counts-none}
use Rattle.pit_diff.proofs.counts.counts_of.Goals as goal

pub count_all-requires-clause-none : goal.count_all-requires-clause-none
count_all-requires-clause-none g c =
    let periods = c.args.old.now.pit.periods in
    let items : c.in_ok-counts.counts.items ≡ replicate ((periods + 1) * (periods + 1)) 0 = search rules in
    subst (λ (xs : List ℕ). IsTableOf periods xs (moved 0 (period_of c.args.old.now) (period_of c.args.new.now))) (sym items)
    (counts-none (period_of c.args.old.now) (period_of c.args.new.now) periods _ refl)

-- A schedule has at most one first breach.
use Rattle.std.proofs.Common.{◌≡◌, ℕ, ℤ, Option, None, Some, refl, sym, ap, ◌∙◌}
use Rattle.std.proofs.lemmas.Option.{same_Some}
use Rattle.pit_num.specs.Least.{ComesBefore}
use Rattle.pit_num.proofs.CallerLemmas.{total-pairs, one-least_of}
use Rattle.pit_model.specs.Pit.{Pit}
use Rattle.pit_plan.specs.Schedule.{load_of}
use Rattle.pit_plan.specs.Breaches.{IsOutOfOrder, IsOverLimit, IsFirstOver, IsFirstBreach}
use Rattle.pit_plan.specs.declared.breach.Breach.{Breach}
use Rattle.pit_plan.specs.declared.breach.Breach.TheVariants.{Precedence, Over}
use Rattle.pit_plan.proofs.Good.{none-from_ordered, none-from_within}

same_over : (pit : Pit) (schedule : ℕ → Option ℕ) (limit : ℕ → ℕ → Option ℤ) (r t s u : ℕ) (load top other_load other_top : ℤ)
    → IsFirstOver pit schedule limit r t load top → IsFirstOver pit schedule limit s u other_load other_top → Over r t load top ≡ Over s u other_load other_top
same_over pit schedule limit r t s u load top other_load other_top first other =
    let same : (t, r) ≡ (u, s) = one-least_of ComesBefore (IsOverLimit pit schedule limit) (t, r) (u, s) total-pairs first.least other.least in
    let loads : load ≡ other_load = first.load_is ∙ (ap (λ (p : ℕ × ℕ). load_of pit schedule p.1 p.0) same ∙ sym other.load_is) in
    let tops : top ≡ other_top = same_Some top other_top (sym first.limit_is ∙ (ap (λ (p : ℕ × ℕ). limit p.1 p.0) same ∙ other.limit_is)) in
    rw (loads, tops) (ap (λ (p : ℕ × ℕ). Over p.1 p.0 other_load other_top) same)

pub one_first : (pit : Pit) (schedule : ℕ → Option ℕ) (limit : ℕ → ℕ → Option ℤ) (breach other : Option Breach)
    → IsFirstBreach pit schedule limit breach → IsFirstBreach pit schedule limit other → breach ≡ other
one_first pit schedule limit None None good also = refl
one_first pit schedule limit None (Some (Precedence b a)) good first = absurd (none-from_ordered pit schedule good.ordered (b, a) first.passes)
one_first pit schedule limit (Some (Precedence b a)) None first good = absurd (none-from_ordered pit schedule good.ordered (b, a) first.passes)
one_first pit schedule limit None (Some (Over r t load top)) good first = absurd (none-from_within pit schedule limit good.within (t, r) first.least.passes)
one_first pit schedule limit (Some (Over r t load top)) None first good = absurd (none-from_within pit schedule limit good.within (t, r) first.least.passes)
one_first pit schedule limit (Some (Precedence b a)) (Some (Precedence x y)) first other =
    ap (λ (p : ℕ × ℕ). Some (Precedence p.0 p.1)) (one-least_of ComesBefore (IsOutOfOrder pit schedule) (b, a) (x, y) total-pairs first other)
one_first pit schedule limit (Some (Precedence b a)) (Some (Over r t load top)) first over = absurd (none-from_ordered pit schedule over.ordered (b, a) first.passes)
one_first pit schedule limit (Some (Over r t load top)) (Some (Precedence b a)) over first = absurd (none-from_ordered pit schedule over.ordered (b, a) first.passes)
one_first pit schedule limit (Some (Over r t load top)) (Some (Over s u other_load other_top)) first other =
    ap Some (same_over pit schedule limit r t s u load top other_load other_top first other)

-- What fits: a schedule as writes, and nothing; and when two pairs are one.
use Rattle.std.proofs.Common.{◌≡◌, ◌≢◌, ℕ, ◌<◌, List, [], map, length, Option, Some, IfSome, Decides, ap, ◌∙◌, nat_eq, arith}
use Rattle.std.specs.List.{AllPairs}
use Rattle.std.proofs.lemmas.List.{get_or-map, length-map}
use Rattle.std.proofs.lemmas.Bool.Decides.{Decides-and, Decides-eqb}
use Rattle.std.proofs.lemmas.List.Elements.{All-map, All-nil}
use Rattle.std.proofs.lemmas.List.Kept.{AllPairs-from_increasing}
use Rattle.pit_model.specs.Fitting.{AreKeyed, Fits, IsSchedule, pair_eq, writes_of}

once : (schedule : List (ℕ × ℕ)) → AllPairs (λ x y. x < y) (map (λ pair. pair.0) schedule) → AllPairs (λ v w. v.0 ≢ w.0) (writes_of schedule)
once schedule rising = λ i j d before behind.
    let within : j < length schedule = omega (arith, behind, length-map {B = ℕ × Option ℕ} schedule (λ pair. (pair.0, Some pair.1))) in
    let less = rising i j 0 before (omega (arith, within, length-map {B = ℕ} schedule (λ pair. pair.0))) in
    let one = ap (λ w. w.0) (get_or-map (λ pair. (pair.0, Some pair.1)) schedule i (0, 0) d (omega (arith, before, within))) in
    let other = ap (λ w. w.0) (get_or-map (λ pair. (pair.0, Some pair.1)) schedule j (0, 0) d within) in
    let first = get_or-map (λ pair. pair.0) schedule i (0, 0) 0 (omega (arith, before, within)) in
    let second = get_or-map (λ pair. pair.0) schedule j (0, 0) 0 within in
    λ same. omega (arith, less, one, other, first, second, same)

-- it fits
pub writes_of-fits : (block_count period_count : ℕ) (schedule : List (ℕ × ℕ)) → IsSchedule block_count period_count schedule → Fits block_count period_count (writes_of schedule)
writes_of-fits block_count period_count schedule is = record {
  keys = All-map (λ w. w.0 < block_count) (λ pair. (pair.0, Some pair.1)) schedule is.blocks;
  values = All-map (λ w. IfSome w.1 (λ t. t < period_count)) (λ pair. (pair.0, Some pair.1)) schedule is.periods;
  once = once schedule (AllPairs-from_increasing (map (λ pair. pair.0) schedule) is.rising);
}

-- no pairs are keyed
pub AreKeyed-nil : {K V : Type 0} (IsKey : K → Type 0) (IsValue : V → Type 0) → AreKeyed IsKey IsValue []
AreKeyed-nil {K} {V} IsKey IsValue = record {
  keys = All-nil (λ (p : K × V). IsKey p.0);
  values = All-nil (λ (p : K × V). IsValue p.1);
  once = λ i j d before behind. absurd (omega (arith, behind));
}

-- the test tells whether they are one
pub Decides-pair_eq : (p q : ℕ × ℕ) → Decides (pair_eq p q) (p ≡ q)
Decides-pair_eq p q =
    let both = Decides-and (nat_eq p.0 q.0) (nat_eq p.1 q.1) (Decides-eqb p.0 q.0) (Decides-eqb p.1 q.1) in (
      λ told. ap (λ (x : ℕ). (x, p.1)) (both.0 told).0 ∙ ap (λ (y : ℕ). (q.0, y)) (both.0 told).1,
      λ same. both.1 (ap (λ (r : ℕ × ℕ). r.0) same, ap (λ (r : ℕ × ℕ). r.1) same),
    )

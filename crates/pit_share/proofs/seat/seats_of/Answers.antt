use Rattle.std.proofs.Common.{◌≡◌, ℕ, zero, suc, ◌+◌, ◌<◌, List, [], ◌∷◌, ◌++◌, length, subst, sym, ◌∙◌, arith}
use Rattle.std.specs.Prelude.{slice_index}
use Rattle.pit_share.proofs.seat.seats_of.Goals as goal

-- numbers in a row, and the next one
row-more : (xs : List ℕ) (x first : ℕ) → ((k : ℕ) → k < length xs → slice_index xs k ≡ first + k) → x ≡ first + length xs
    → (k : ℕ) → k < length xs + 1 → slice_index (xs ++ x ∷ []) k ≡ first + k
row-more [] x first row is zero below = omega (arith, is)
row-more [] x first row is (suc k) below = absurd (omega (arith, below))
row-more (y ∷ ys) x first row is zero below = row zero (omega arith)
row-more (y ∷ ys) x first row is (suc k) below =
    let rest = row-more ys x (first + 1) (λ j less. omega (arith, row (suc j) (omega (arith, less)))) (omega (arith, is)) k (omega (arith, below)) in
    omega (arith, rest)

pub loop-before-preserved : goal.loop-before-preserved
loop-before-preserved g c =
    let kept = c.loop-before.invariant in
    let seats : List ℕ = c.loop-before.seats.items in
    let items : c.push.new.self.items ≡ seats ++ c.in-Ok.seat ∷ [] = c.in-Ok-push.ensures.items in
    let many : length seats ≡ c.loop-before.before = omega (arith, kept.many) in
    let row = row-more seats c.in-Ok.seat 1 (λ j less. omega (arith, kept.each j (omega (arith, less, many)))) (omega (arith, c.in-Ok.ensures.seat, many)) in
    record {
      publisher = c.seat_of.ensures.publisher ∙ kept.publisher;
      parts = omega (arith, c.in-Ok.ensures.parts, kept.parts);
      none_left = c.seat_of.ensures.none_left;
      many = omega (arith, c.in-Ok-push.ensures.len, kept.many);
      each = λ k less. subst (λ (xs : List ℕ). slice_index xs k ≡ k + 1) (sym items) (omega (arith, row k (omega (arith, less, many))));
    }

pub returns-clause-seats : goal.returns-clause-seats
returns-clause-seats g c =
    let kept = c.loop-before.invariant in
    let end : c.loop-before.before ≡ c.args.planners = omega (arith, c.loop-before.auto.before-end, c.loop-before-test.false) in
    let many : length c.loop-before.seats.items ≡ c.args.planners = omega (arith, kept.many, end) in
    record { many = many; each = λ k less. kept.each k (omega (arith, less, end)) }

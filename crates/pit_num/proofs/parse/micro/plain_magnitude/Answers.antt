use Rattle.std.proofs.Common.{arith, ◌≡◌, ◌+◌, ◌-◌, ◌*◌, ◌^◌, ℕ, ap}
use Rattle.pit_num.proofs.Plain.{plain_bound}
use Rattle.pit_num.proofs.parse.micro.plain_magnitude.Goals as goal

-- what is computed
computed : (whole fraction q r : ℕ) → r ≡ q → whole * 1000000 + fraction * r ≡ whole * 10 ^ 6 + fraction * q
computed whole fraction q r is = ap (λ (n : ℕ). whole * 1000000 + fraction * n) is

pub overflow_add-result : goal.overflow_add-result
overflow_add-result c = omega (arith, computed c.args.whole c.args.fraction (10 ^ (6 - c.args.places)) c.place_value.result c.place_value.ensures, plain_bound c.args.whole c.args.fraction c.args.places c.requires.whole c.requires.fraction c.requires.places)

pub returns-clause-value : goal.returns-clause-value
returns-clause-value c = computed c.args.whole c.args.fraction (10 ^ (6 - c.args.places)) c.place_value.result c.place_value.ensures

pub returns-clause-bound : goal.returns-clause-bound
returns-clause-bound c = omega (arith, computed c.args.whole c.args.fraction (10 ^ (6 - c.args.places)) c.place_value.result c.place_value.ensures, plain_bound c.args.whole c.args.fraction c.args.places c.requires.whole c.requires.fraction c.requires.places)

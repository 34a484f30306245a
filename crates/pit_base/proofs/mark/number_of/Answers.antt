use Rattle.std.proofs.Common.{rules, ◌≡◌, ℕ, Result, Ok, decimal, sym, ap, ◌∙◌, arith}
use Rattle.std.proofs.lemmas.Fmt.{parse-decimal}
use Rattle.pit_base.proofs.mark.number_of.Goals as goal

ok-once : {E : Type 0} (r : Result ℕ E) (m n : ℕ) → r ≡ Ok m → r ≡ Ok n → m ≡ n
ok-once r m n one other = cc (one, other)

pub returns-in_default : goal.returns-in_default
returns-in_default c = λ n few same. absurd (cc (parse-decimal 32 n c.args.word.now c.parse.result (omega (arith, few)) (omega (arith, few)) same c.parse.ensures.value.0))

pub returns-then-ne : goal.returns-then-ne
returns-then-ne c = λ n few same.
    let is : c.in-Ok.n ≡ n = ok-once c.parse.result c.in-Ok.n n c.in-Ok.is (parse-decimal 32 n c.args.word.now c.parse.result (omega (arith, few)) (omega (arith, few)) same c.parse.ensures.value.0) in
    let text : c.format.result.now ≡ c.args.word.now = c.format.ensures.text ∙ (ap decimal is ∙ sym same) in
    search rules

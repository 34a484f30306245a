use Rattle.std.proofs.Common.{rules, ◌≡◌, ℕ, ℤ, pos, negsuc, ◌<ℤ◌, ◌+◌, List, [], ◌∷◌, ◌++◌, subst, refl, arith}
use Rattle.std.proofs.lemmas.Int.{ints}
use Rattle.pit_num.specs.Printed.{unsigned_text, fixed_text, AppendsFront}
use Rattle.pit_num.proofs.Written.{front_more, failed_early}
use Rattle.pit_num.proofs.print.write_fixed.Goals as goal

-- a negative number begins with its sign
signed : (k : ℕ) (z : ℤ) → z <ℤ pos 0 → (ys : List ℕ) × ((45 ∷ []) ++ ys ≡ fixed_text k z)
signed k (pos n) h = absurd (omega (arith, ints))
signed k (negsuc n) h = (unsigned_text k (n + 1), refl)

pub returns-in_err-write_text : goal.returns-in_err-write_text
returns-in_err-write_text g c =
    let negative : c.args.value <ℤ pos 0 = search rules in let text = signed c.args.places c.args.value negative in
    failed_early _ _ _ _ _ c.from_residual.result c.from_residual.ensures.0
    (subst (λ (xs : List ℕ). AppendsFront (g.W.Sink.contents c.args.w.now) (g.W.Sink.contents c.write_text.new.w) xs) text.1 (front_more _ _ _ _ c.in_err-write_text.ensures.err))
    c.in_err-write_text.ensures.fault

use Rattle.std.proofs.Common.{rules, ◌≡◌, ℕ, List, [], ◌∷◌, ◌++◌, ◌≤◌, length, drop, decimal, ap, ◌∙◌, arith, slice_set, length-set}
use Rattle.pit_text.proofs.SolutionTexts.{ten_digits, twenty_digits, set_before, set_last}
use Rattle.pit_text.proofs.solution_text.write_line.Goals as goal

pub write_digits-space-requires : goal.write_digits-space-requires
write_digits-space-requires c =
    let few : length (decimal c.args.period) ≤ 10 = ten_digits c.args.period (search rules) in
    (omega arith, omega (arith, length-set {A = ℕ}))

pub overflow_sub-space : goal.overflow_sub-space
overflow_sub-space c =
    let few : length (decimal c.args.period) ≤ 10 = ten_digits c.args.period (search rules) in
    omega arith

pub write_digits-requires : goal.write_digits-requires
write_digits-requires c =
    let few : length (decimal c.args.period) ≤ 10 = ten_digits c.args.period (search rules) in
    let few_first : length (decimal c.args.block) ≤ 20 = twenty_digits c.args.block (search rules) in
    (omega arith, omega (arith, length-set {A = ℕ}))

pub returns-clause-written : goal.returns-clause-written
returns-clause-written c =
    let few : length (decimal c.args.period) ≤ 10 = ten_digits c.args.period (search rules) in
    let within : c.write_digits-space.result ≤ length c.write_digits-space.new.buf = omega (arith, length-set {A = ℕ}) in
    let end : drop 31 (slice_set c.args.buffer.now 31 10) ≡ 10 ∷ [] = set_last c.args.buffer.now 31 10 (omega arith) in
    c.write_digits.ensures.written
    ∙ ap (λ (xs : List ℕ). decimal c.args.block ++ xs) (set_before c.write_digits-space.new.buf c.write_digits-space.result 32 (omega arith) within
    ∙ ap (λ (xs : List ℕ). 32 ∷ xs) (c.write_digits-space.ensures.written ∙ ap (λ (xs : List ℕ). decimal c.args.period ++ xs) end))

use Rattle.std.proofs.Common.{rules, arith, ℕ, ◌-◌, ◌≤◌, sym, subst, ◌∙◌, ap, length, take, drop}
use Rattle.pit_script.specs.Inside.Kept.{end_at}
use Rattle.pit_script.proofs.Kept.{job-at, job-within}
use Rattle.pit_script.proofs.script.part_at.Goals as goal

pub returns : goal.returns
returns c =
    let ends = c.args.ends.now in
    let i = c.args.i in
    job-at c.args.steps.now 0 ends i c.requires.below
    ∙ ap (λ (n : ℕ). record { steps = take ((end_at ends i).0 - n) (drop n c.args.steps.now); end = (end_at ends i).1 }) (sym c.start_of-low.ensures)

pub slice_bounds-result-start : goal.slice_bounds-result-start
slice_bounds-result-start c =
    subst (λ (n : ℕ). n ≤ (end_at c.args.ends.now c.args.i).0) (sym c.start_of-low.ensures) (job-within 0 (length c.args.steps.now) c.args.ends.now c.args.i c.requires.ends c.requires.below).0

pub slice_bounds-result-end : goal.slice_bounds-result-end
slice_bounds-result-end c = (job-within 0 (length c.args.steps.now) c.args.ends.now c.args.i c.requires.ends c.requires.below).1

pub slice_bounds-result-count : goal.slice_bounds-result-count
slice_bounds-result-count c =
    subst (λ (n : ℕ). n ≤ (end_at c.args.ends.now c.args.i).0) (sym c.start_of-low.ensures) (job-within 0 (length c.args.steps.now) c.args.ends.now c.args.i c.requires.ends c.requires.below).0

pub offset_bounds-steps-low : goal.offset_bounds-steps-low
offset_bounds-steps-low c =
    let within = job-within 0 (length c.args.steps.now) c.args.ends.now c.args.i c.requires.ends c.requires.below in
    let start = c.start_of-low.ensures in
    let low : c.start_of-low.result ≤ length c.args.steps.now = omega (arith, within.0, within.1, start) in
    search rules

use Rattle.std.proofs.Common.{◌≡◌, ℕ, List, Option, None, inl, inr, refl, ap, sym, ◌∙◌, slice_index_or, length, subst, IsSome}
use Rattle.pit_model.specs.Fitting.{IsSchedule}
use Rattle.pit_text.specs.Cutting.{cut_of}
use Rattle.pit_text.specs.Stands.{StandsFor}
use Rattle.pit_text.specs.Solution.{schedule_of, period_in, solution_line}
use Rattle.pit_text.specs.Inside.Solution.{AreSlots}
use Rattle.pit_text.proofs.Standing.{schedule_of-slots, slots-some}
use Rattle.pit_text.proofs.Solutions.{period-range, schedule_of-is_schedule}
use Rattle.pit_text.proofs.solution.read_solution_of.Goals as goal

-- the lines, for the pit's own numbers
stands_of : (text : List ℕ) (b blocks p periods : ℕ) (facts : List (Option (ℕ × ℕ))) → b ≡ blocks → p ≡ periods → StandsFor (solution_line b p) (cut_of text) facts → StandsFor (solution_line blocks periods) (cut_of text) facts
stands_of text b blocks p periods facts same_blocks same_periods stands =
    subst (λ (n : ℕ). StandsFor (solution_line n periods) (cut_of text) facts) same_blocks (subst (λ (n : ℕ). StandsFor (solution_line b n) (cut_of text) facts) same_periods stands)

-- what is read, by the slots
by_slots : (b blocks : ℕ) (slots seen : List (Option ℕ)) (facts : List (Option (ℕ × ℕ))) (solution : List (ℕ × ℕ)) → b ≡ blocks → AreSlots b facts slots
    → seen ≡ slots → solution ≡ schedule_of (length seen) (λ k. slice_index_or seen k None) → solution ≡ schedule_of blocks (period_in facts)
by_slots b blocks slots seen facts solution same_blocks are same made =
    made
    ∙ ap (λ (os : List (Option ℕ)). schedule_of (length os) (λ k. slice_index_or os k None)) same
    ∙ schedule_of-slots b facts slots are
    ∙ ap (λ (n : ℕ). schedule_of n (period_in facts)) same_blocks

pub returns-in-Ok-clause-result : goal.returns-in-Ok-clause-result
returns-in-Ok-clause-result g c =
    let read = c.in_ok-slots.ensures in
    let pit = c.args.pit.now in (
      read.0,
      stands_of c.args.text.now _ pit.blocks _ pit.periods read.0 c.blocks-2.ensures.count c.periods.ensures read.1,
      by_slots _ pit.blocks c.in_ok-slots.slots.items c.deref.result.now read.0 c.in-Ok.solution.items c.blocks-2.ensures.count read.2 c.deref.ensures.value c.in-Ok.ensures.solution,
    )

pub returns-in-Ok-clause-fits : goal.returns-in-Ok-clause-fits
returns-in-Ok-clause-fits g c =
    let read = c.in_ok-slots.ensures in
    let pit = c.args.pit.now in
    let stands = stands_of c.args.text.now _ pit.blocks _ pit.periods read.0 c.blocks-2.ensures.count c.periods.ensures read.1 in
    let is = by_slots _ pit.blocks c.in_ok-slots.slots.items c.deref.result.now read.0 c.in-Ok.solution.items c.blocks-2.ensures.count read.2 c.deref.ensures.value c.in-Ok.ensures.solution in
    subst (λ (ps : List (ℕ × ℕ)). IsSchedule pit.blocks pit.periods ps) (sym is)
    (schedule_of-is_schedule pit.blocks pit.periods (period_in read.0) (period-range pit.blocks pit.periods _ read.0 (cut_of c.args.text.now) stands))

pub returns-clause-result : goal.returns-clause-result
returns-clause-result g c =
    let read = c.in_ok-slots.ensures in
    let pit = c.args.pit.now in
    let scheduled = c.in-Err.ensures.memory in
    let some = subst (λ (os : List (Option ℕ)). IsSome (slice_index_or os scheduled.0 None)) c.deref.ensures.value scheduled.1 in
    inl (
      refl,
      (
        read.0,
        inr (stands_of c.args.text.now _ pit.blocks _ pit.periods read.0 c.blocks-2.ensures.count c.periods.ensures read.1, read.3),
        (scheduled.0, slots-some _ read.0 c.in_ok-slots.slots.items scheduled.0 read.2 some),
      ),
    )

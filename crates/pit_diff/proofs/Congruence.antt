-- The text of schedules and limits that are the same where it looks at them.
use Rattle.std.proofs.Common.{◌≡◌, ℕ, zero, suc, ◌+◌, ◌<◌, ℤ, Bool, List, [], ◌∷◌, ◌++◌, map, Option, Some, None, cond, refl, sym, ap, ◌∙◌, arith}
use Rattle.std.specs.Prelude.{flat_map}
use Rattle.std.specs.List.{range_with_len}
use Rattle.std.proofs.lemmas.List.{append-nil}
use Rattle.std.proofs.lemmas.List.Concat.{flat_map-append}
use Rattle.std.proofs.lemmas.List.Folds.{flat_map-map}
use Rattle.pit_model.specs.Pit.{Pit}
use Rattle.pit_plan.specs.Schedule.{Commit, held_period, limit_of, value_of}
use Rattle.pit_plan.specs.Standing.{Standing, IsPlanOf, period_of}
use Rattle.pit_diff.specs.Changes.{change_at, changes_of, goes, moved, move_of, periods_and_none, moves_from, moves_by, moves_of}
use Rattle.pit_diff.specs.DiffText.{changes_text, moves_text, limits_text, loads_text, value_change, diff_text}
use Rattle.pit_diff.specs.Inside.Table.{table_number, IsPeriodOrNone, IsTableOf}
use Rattle.pit_diff.proofs.Ranges.{flat_map-below}
use Rattle.pit_diff.proofs.Counting.{moved-none, moved-more}

module _ (s u old new : ℕ → Option ℕ) where
  pub changes-same : (n : ℕ) → ((b : ℕ) → b < n → s b ≡ old b) → ((b : ℕ) → b < n → u b ≡ new b) → changes_of n s u ≡ changes_of n old new
  unfolding changes_of
  changes-same n is also =
      flat_map-below (change_at s u) (change_at old new) n (λ b below. rw (is b below, also b below) refl)

  pub moved-same : (n : ℕ) (from to : Option ℕ) → ((b : ℕ) → b < n → s b ≡ old b) → ((b : ℕ) → b < n → u b ≡ new b) → moved n s u from to ≡ moved n old new from to
  moved-same zero from to is also = moved-none s u from to ∙ sym (moved-none old new from to)
  moved-same (suc n) from to is also =
      let one : ◌≡◌ {A = ℕ} (n + 1) (suc n) = omega arith in
      let less = moved-same n from to (λ b below. is b (omega (arith, below))) (λ b below. also b (omega (arith, below))) in
      let last : goes s u from to n ≡ goes old new from to n = rw (is n (omega arith), also n (omega arith)) refl in
      ap (λ (k : ℕ). moved k s u from to) (sym one)
      ∙ (moved-more s u n from to
      ∙ (ap (λ (k : ℕ). k + cond (goes s u from to n) 1 0) less
      ∙ (ap (λ (b : Bool). moved n old new from to + cond b 1 0) last
      ∙ (sym (moved-more old new n from to) ∙ ap (λ (k : ℕ). moved k old new from to) one))))

-- ---- of each period, and of none

periods_and_none-of : {X : Type 0} (f : Option ℕ → List X) (periods : ℕ) → flat_map f (periods_and_none periods) ≡ flat_map (λ (t : ℕ). f (Some t)) (range_with_len 0 periods) ++ f None
unfolding periods_and_none
periods_and_none-of {X} f periods =
    flat_map-append f (map Some (range_with_len 0 periods)) (None ∷ [])
    ∙ (ap (λ (xs : List X). xs ++ flat_map f (None ∷ [])) (flat_map-map f Some (range_with_len 0 periods))
    ∙ ap (λ (xs : List X). flat_map (λ (t : ℕ). f (Some t)) (range_with_len 0 periods) ++ xs) (append-nil (f None)))

periods_and_none-same : {X : Type 0} (f g : Option ℕ → List X) (periods : ℕ) → ((p : Option ℕ) → IsPeriodOrNone periods p → f p ≡ g p) → flat_map f (periods_and_none periods) ≡ flat_map g (periods_and_none periods)
periods_and_none-same {X} f g periods same =
    periods_and_none-of f periods
    ∙ (ap (λ (xs : List X). xs ++ f None) (flat_map-below (λ (t : ℕ). f (Some t)) (λ (t : ℕ). g (Some t)) periods (λ t below. same (Some t) below))
    ∙ (ap (λ (xs : List X). flat_map (λ (t : ℕ). g (Some t)) (range_with_len 0 periods) ++ xs) (same None tt) ∙ sym (periods_and_none-of g periods)))

pub moves-same : (periods : ℕ) (f g : Option ℕ → Option ℕ → ℕ) → ((from to : Option ℕ) → IsPeriodOrNone periods from → IsPeriodOrNone periods to → f from to ≡ g from to) → moves_by periods f ≡ moves_by periods g
unfolding moves_by
moves-same periods f g same =
    periods_and_none-same (moves_from periods f) (moves_from periods g) periods
    (λ from is. periods_and_none-same (λ to. move_of from to (f from to)) (λ to. move_of from to (g from to)) periods (λ to also. ap (move_of from to) (same from to is also)))

-- ---- the text of two plans is that of the commits they stand for

pub text-of-plans : (old new : Standing) (before after : List Commit) (counts : List ℕ) (value worth : ℤ) → new.pit ≡ old.pit → IsPlanOf old before → IsPlanOf new after
    → IsTableOf old.pit.periods counts (moved old.pit.blocks (period_of old) (period_of new)) → value ≡ value_of old.pit (held_period before) → worth ≡ value_of new.pit (held_period after)
    → changes_text (changes_of old.pit.blocks (period_of old) (period_of new))
    ++ (moves_text (moves_by old.pit.periods (table_number old.pit.periods counts))
    ++ (limits_text old.pit (limit_of old.pit before) (limit_of old.pit after)
    ++ (loads_text old.pit (held_period before) (held_period after)
    ++ value_change value worth)))
    ≡ diff_text old.pit before after
unfolding diff_text
text-of-plans old new before after counts value worth same stands also right value_is worth_is =
    let pit = old.pit in
    let blocks : new.pit.blocks ≡ pit.blocks = ap (λ (p : Pit). p.blocks) same in
    let is : (b : ℕ) → b < pit.blocks → period_of old b ≡ held_period before b = stands.period in
    let is_new : (b : ℕ) → b < pit.blocks → period_of new b ≡ held_period after b = λ b below. also.period b (omega (arith, below, blocks)) in
    let changes : changes_of pit.blocks (period_of old) (period_of new) ≡ changes_of pit.blocks (held_period before) (held_period after) =
    changes-same (period_of old) (period_of new) (held_period before) (held_period after) pit.blocks is is_new in
    let moves : moves_by pit.periods (table_number pit.periods counts) ≡ moves_of pit.blocks pit.periods (held_period before) (held_period after) =
    moves-same pit.periods (table_number pit.periods counts) (moved pit.blocks (held_period before) (held_period after))
    (λ from to lf lt. right from to lf lt ∙ moved-same (period_of old) (period_of new) (held_period before) (held_period after) pit.blocks from to is is_new) in
    let worth_too : worth ≡ value_of pit (held_period after) = worth_is ∙ ap (λ (p : Pit). value_of p (held_period after)) same in
    rw (changes, moves, value_is, worth_too) refl

-- What the lines of a schedule state, and what the schedule leaves.
use Rattle.std.proofs.Common.{◌≡◌, ◌≢◌, ℕ, zero, suc, ◌+◌, ◌<◌, ◌≤◌, ◌^◌, ◌==◌, inl, inr, nat_eq, nat_le, true, false, List, [], ◌∷◌, ◌++◌, length, map, decimal, Option, Some, None, IfSome, Ok, refl, sym, ap, subst, ◌∙◌, arith, append_assoc}
use Rattle.std.specs.Prelude.{unwrap_or}
use Rattle.std.specs.List.{flat_map, filter_map, cons_option, range_with_len}
use Rattle.std.specs.Option.{option_map}
use Rattle.std.specs.Map.{lookup}
use Rattle.std.proofs.lemmas.Bool.{ne_eqb}
use Rattle.std.proofs.lemmas.Bool.Decides.{nat_tests, eqb_tells}
use Rattle.std.proofs.lemmas.Fmt.{decimal_nonempty}
use Rattle.std.proofs.lemmas.List.{append-nil}
use Rattle.std.proofs.lemmas.List.Elements.{All-head, filter_map-append}
use Rattle.pit_text.specs.Cutting.{Cut, lines_of, cut_from, cut_of}
use Rattle.pit_text.proofs.CallerLemmas.{schedule_of-same, period-range}
use Rattle.pit_state.specs.States.{is_ink, is_history}
use Rattle.pit_base.specs.Again.{IsLeadingComment}
use Rattle.pit_model.specs.Fitting.{writes_of}
use Rattle.pit_text.specs.Numbers.{whole_field}
use Rattle.pit_text.specs.Stands.{StatesAfter, StandsFor}
use Rattle.pit_text.specs.Earlier.{first_of}
use Rattle.pit_text.specs.Solution.{scheduled_pair, period_in_fact, period_in, solution_line, pair_of, schedule_of}
use Rattle.pit_text.specs.SolutionText.{line_text, solution_text}
use Rattle.pit_base.proofs.Lines.{IsDigit, AreDigits, decimal-digits, line-cut, comment-cut}

-- ---- lines

abbrev pub Fact : Type 0
Fact = Option (ℕ × ℕ)

pair-stated : (blocks periods b t : ℕ) (earlier : List Fact) (first second : List ℕ) → b < blocks → t < periods → period_in earlier b ≡ None → whole_field first ≡ Ok b
    → whole_field second ≡ Ok t → solution_line blocks periods earlier (first ∷ second ∷ []) ≡ Ok (Some (b, t))
unfolding solution_line scheduled_pair
pair-stated blocks periods b t earlier first second below early none one other =
    let past : nat_le blocks b ≡ false = grind (arith, nat_tests) in
    let late : nat_le periods t ≡ false = grind (arith, nat_tests) in
    simp (one, other, past, late, none)

-- another block
still-new : (earlier : List Fact) (a t b : ℕ) → a ≢ b → period_in earlier b ≡ None → period_in (earlier ++ Some (a, t) ∷ []) b ≡ None
still-new earlier a t b other none =
    let apart : (a == b) ≡ false = ne_eqb a b other in
    let says : period_in_fact b (Some (a, t)) ≡ None = simp apart in
    ap first_of (filter_map-append (period_in_fact b) earlier (Some (a, t) ∷ [])
    ∙ (ap (λ (o : Option ℕ). filter_map (period_in_fact b) earlier ++ cons_option o []) says ∙ append-nil (filter_map (period_in_fact b) earlier)))
    ∙ none

nothing-cut : (number : ℕ) → cut_from number (lines_of []) ≡ []
unfolding cut_from lines_of
nothing-cut number = refl

-- a block with its period, if it has one, and the pairs behind it
abbrev with_first : ℕ → Option ℕ → List (ℕ × ℕ) → List (ℕ × ℕ)
with_first a o more = cons_option (option_map (λ t. (a, t)) o) more

-- those of so many blocks from one on
abbrev pairs_from : (ℕ → Option ℕ) → ℕ → ℕ → List (ℕ × ℕ)
pairs_from period a n = filter_map (pair_of period) (range_with_len a n)

abbrev pub as_facts : List (ℕ × ℕ) → List Fact
as_facts pairs = map (λ pair. Some pair) pairs

module _ (blocks periods : ℕ) where
  abbrev AreStated : ℕ → List Fact → List (ℕ × ℕ) → Type 0
  AreStated number earlier pairs = StatesAfter (solution_line blocks periods) earlier (cut_from number (lines_of (flat_map line_text pairs))) (as_facts pairs)

  module _ (period : ℕ → Option ℕ) (few : blocks ≤ 2 ^ 32) (short : periods ≤ 2 ^ 32) (in_range : (b : ℕ) → b < blocks → IfSome (period b) (λ t. t < periods)) where
    first-stated : (a number : ℕ) (earlier : List Fact) (o : Option ℕ) (more : List (ℕ × ℕ)) → a < blocks → IfSome o (λ t. t < periods) → period_in earlier a ≡ None
        → AreStated number earlier more → ((t : ℕ) → AreStated (number + 1) (earlier ++ Some (a, t) ∷ []) more) → AreStated number earlier (with_first a o more)
    first-stated a number earlier None more below early new without behind = without
    first-stated a number earlier (Some t) more below early new without behind =
        let cut = line-cut number a t (flat_map line_text more) (omega (arith, below, few)) (omega (arith, early, short)) in
        subst (λ (cuts : List Cut). StatesAfter (solution_line blocks periods) earlier cuts (Some (a, t) ∷ as_facts more)) (sym cut.4)
        (pair-stated blocks periods a t earlier cut.0 cut.1 below early new cut.2 cut.3, behind t)

    stated-from : (a n number : ℕ) (earlier : List Fact) → a + n ≤ blocks → ((b : ℕ) → a ≤ b → period_in earlier b ≡ None) → AreStated number earlier (pairs_from period a n)
    stated-from a zero number earlier within new = subst (λ (cuts : List Cut). StatesAfter (solution_line blocks periods) earlier cuts []) (sym (nothing-cut number)) refl
    stated-from a (suc n) number earlier within new =
        let below : a < blocks = omega (arith, within) in
        first-stated a number earlier (period a) (pairs_from period (a + 1) n) below (in_range a below) (new a (omega arith))
        (stated-from (a + 1) n number earlier (omega (arith, within)) (λ b from. new b (omega (arith, from))))
        (λ t. stated-from (a + 1) n (number + 1) (earlier ++ Some (a, t) ∷ []) (omega (arith, within))
        (λ b from. still-new earlier a t b (λ same. omega (arith, from, same)) (new b (omega (arith, from)))))

    -- whatever the number of the first line
    schedule-stated : (number : ℕ) → AreStated number [] (schedule_of blocks period)
    unfolding schedule_of
    schedule-stated number = stated-from 0 blocks number [] (omega arith) (λ b from. refl)

-- ---- periods

module _ (a b : ℕ) (more : List (ℕ × ℕ)) where
  first-apart : (o : Option ℕ) → a ≢ b → period_in (as_facts (with_first a o more)) b ≡ period_in (as_facts more) b
  first-apart None apart = refl
  first-apart (Some t) apart = let other : (a == b) ≡ false = ne_eqb a b apart in simp other

  first-same : (o : Option ℕ) → a == b ≡ true → period_in (as_facts more) b ≡ None → period_in (as_facts (with_first a o more)) b ≡ o
  first-same None same none = none
  first-same (Some t) same none = simp same

module _ (period : ℕ → Option ℕ) where
  period-before : (a n b : ℕ) → b < a → period_in (as_facts (pairs_from period a n)) b ≡ None
  period-before a zero b before = refl
  period-before a (suc n) b before =
      first-apart a b (pairs_from period (a + 1) n) (period a) (λ same. omega (arith, before, same)) ∙ period-before (a + 1) n b (omega (arith, before))

  period-from : (a n b : ℕ) → a ≤ b → b < a + n → period_in (as_facts (pairs_from period a n)) b ≡ period b
  period-from a zero b from below = absurd (omega (arith, from, below))
  period-from a (suc n) b from below =
      elim (eqb_tells a b) [
        | inl here ↦ first-same a b (pairs_from period (a + 1) n) (period a) here.0 (period-before (a + 1) n b (omega (arith, here.1))) ∙ ap period here.1
        | inr there ↦
            first-apart a b (pairs_from period (a + 1) n) (period a) there.1 ∙ period-from (a + 1) n b (omega (arith, from, there.1)) (omega (arith, below))
      ]

-- the pairs of a schedule give each block its period
pub period-written : (blocks : ℕ) (period : ℕ → Option ℕ) (b : ℕ) → b < blocks → period_in (as_facts (schedule_of blocks period)) b ≡ period b
unfolding schedule_of
period-written blocks period b below = period-from period 0 blocks b (omega arith) (omega (arith, below))

-- as the commit of a schedule gives it
pub lookup-written : (pairs : List (ℕ × ℕ)) (b : ℕ) → unwrap_or (lookup (nat_eq b) (writes_of pairs)) None ≡ period_in (as_facts pairs) b
lookup-written [] b = refl
lookup-written (pair ∷ more) b =
    elim (eqb_tells b pair.0) [
      | inl here ↦ let back : (pair.0 == b) ≡ true = grind (arith, nat_tests) in simp (here.0, back)
      | inr there ↦ let back : (pair.0 == b) ≡ false = ne_eqb pair.0 b (λ same. there.1 (sym same)) in simp (there.0, back) (lookup-written more b)
    ]

-- a period that lines state is in time
pub stated-in_time : (blocks periods : ℕ) (earlier : List Fact) (lines : List Cut) (facts : List Fact) (b : ℕ) → StatesAfter (solution_line blocks periods) earlier lines facts
    → IfSome (period_in facts b) (λ t. t < periods)
stated-in_time blocks periods earlier lines facts b states = by (period_in facts b) refl
  where
    by : (o : Option ℕ) → period_in facts b ≡ o → IfSome o (λ t. t < periods)
    by None is = tt
    by (Some t) is = period-range blocks periods earlier facts lines states b t is

-- ---- no history

digits-no-history : (ds rest : List ℕ) → AreDigits ds → 0 < length ds → is_history (ds ++ rest) ≡ false
digits-no-history [] rest digits some = absurd (omega (arith, some))
digits-no-history (d ∷ ds) rest digits some =
    let first : IsDigit d = All-head IsDigit d ds digits in
    let ink : is_ink d ≡ true = grind (arith, nat_tests) in
    let other : (d == 123) ≡ false = ne_eqb d 123 (λ same. omega (arith, first.1, same)) in
    simp (ink, other)

kind-from : (period : ℕ → Option ℕ) (a n : ℕ) → a + n ≤ 2 ^ 32 → is_history (flat_map line_text (pairs_from period a n)) ≡ false
kind-from period a zero few = refl
kind-from period a (suc n) few = by (period a) (kind-from period (a + 1) n (omega (arith, few)))
  where
    by : (o : Option ℕ) → is_history (flat_map line_text (pairs_from period (a + 1) n)) ≡ false → is_history (flat_map line_text (with_first a o (pairs_from period (a + 1) n))) ≡ false
    by None more = more
    by (Some t) more =
        let small : a < 2 ^ 64 = omega (arith, few) in
        let behind : List ℕ = 32 ∷ (decimal t ++ 10 ∷ []) in
        ap is_history (append_assoc (decimal a) behind (flat_map line_text (pairs_from period (a + 1) n)))
        ∙ digits-no-history (decimal a) (behind ++ flat_map line_text (pairs_from period (a + 1) n)) (decimal-digits a small) (decimal_nonempty a small)

-- ---- the whole text

module _ (blocks periods : ℕ) (period : ℕ → Option ℕ) (few : blocks ≤ 2 ^ 32) where
  pub written-kind : (comment : List ℕ) → IsLeadingComment comment → is_history (comment ++ solution_text (schedule_of blocks period)) ≡ false
  unfolding solution_text schedule_of
  written-kind comment (inl none) =
      ap (λ (c : List ℕ). is_history (c ++ flat_map line_text (pairs_from period 0 blocks))) none ∙ kind-from period 0 blocks (omega (arith, few))
  written-kind comment (inr (words, is, one)) = ap (λ (c : List ℕ). is_history (c ++ flat_map line_text (pairs_from period 0 blocks))) is

  module _ (short : periods ≤ 2 ^ 32) (in_range : (b : ℕ) → b < blocks → IfSome (period b) (λ t. t < periods)) where
    pub written-stands : (comment : List ℕ) → IsLeadingComment comment → StandsFor (solution_line blocks periods) (cut_of (comment ++ solution_text (schedule_of blocks period))) (as_facts (schedule_of blocks period))
    unfolding solution_text
    written-stands comment (inl none) =
        let text = flat_map line_text (schedule_of blocks period) in
        subst (λ (c : List ℕ). StandsFor (solution_line blocks periods) (cut_of (c ++ text)) (as_facts (schedule_of blocks period))) (sym none)
        (schedule-stated blocks periods period few short in_range 1)
    written-stands comment (inr (words, is, one)) =
        let text = flat_map line_text (schedule_of blocks period) in
        let cuts : cut_of (comment ++ text) ≡ cut_from 2 (lines_of text) =
        ap (λ (c : List ℕ). cut_of (c ++ text)) is
        ∙ (ap (λ (l : List ℕ). cut_of (37 ∷ l)) (append_assoc words (10 ∷ []) text) ∙ comment-cut 1 words text one) in
        subst (λ (cs : List Cut). StandsFor (solution_line blocks periods) cs (as_facts (schedule_of blocks period))) (sym cuts)
        (schedule-stated blocks periods period few short in_range 2)

-- the facts that it stands for give the schedule
pub schedule-written : (blocks : ℕ) (period : ℕ → Option ℕ) → schedule_of blocks (period_in (as_facts (schedule_of blocks period))) ≡ schedule_of blocks period
schedule-written blocks period = schedule_of-same blocks (period_in (as_facts (schedule_of blocks period))) period (period-written blocks period)

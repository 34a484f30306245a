-- The pairs of a solution are in range, and rise.
use Rattle.std.proofs.Common.{◌≡◌, ℕ, ℤ, pos, negsuc, zero, suc, ◌+◌, ◌≤◌, ◌<◌, ◌^◌, nat_eq, nat_le, subst, Bool, true, false, cond, List, [], ◌∷◌, ◌++◌, Option, Some, None, is_some, ◌⊎◌, inl, inr, Result, Ok, Err, ap, sym, ◌∙◌, refl, arith, map, slice_index}
use Rattle.std.specs.List.{filter_map, range_with_len, cons_option, AllByRecursion}
use Rattle.std.specs.List.Sorted.{IsStrictlyIncreasing}
use Rattle.std.proofs.lemmas.List.Elements.{All-from_recursion}
use Rattle.std.specs.Option.{option_map}
use Rattle.std.proofs.lemmas.Bool.Decides.{nat_tests}
use Rattle.pit_model.specs.Fitting.{IsSchedule}
use Rattle.pit_text.specs.declared.error.Fault.{Fault}
use Rattle.pit_text.specs.declared.error.Fault.TheVariants.{Build, PartBlock, Unsupported}
use Rattle.pit_text.specs.declared.model.key.Key.TheVariants.{Destinations}
use Rattle.pit_model.specs.declared.error.BuildError.TheVariants.{Repeated}
use Rattle.pit_text.specs.Cutting.{Cut}
use Rattle.pit_text.specs.Numbers.{whole_field, decimal_field}
use Rattle.pit_text.specs.Stands.{◌>>=◌, StatesAfter}
use Rattle.pit_text.specs.Inside.Plain.{ArePair}
use Rattle.pit_text.specs.Solution.{pair_in_range, whole_or_none, mined_pair, scheduled_pair, period_in, new_to, solution_line, pair_of, schedule_of}

-- ---- in range

abbrev IsInRange : ℕ → ℕ → ℕ × ℕ → Type 0
IsInRange blocks periods pair = (pair.0 < blocks) × (pair.1 < periods)

ranged : (blocks periods b t : ℕ) (pair : ℕ × ℕ) → pair_in_range blocks periods b t ≡ Ok pair → IsInRange blocks periods pair
ranged blocks periods b t pair is = by_tests (nat_le blocks b) (nat_le periods t) refl refl is
  where
    by_tests : (past late : Bool) → nat_le blocks b ≡ past → nat_le periods t ≡ late → pair_in_range blocks periods b t ≡ Ok pair → IsInRange blocks periods pair
    by_tests true late e f is = grind (arith, nat_tests)
    by_tests false true e f is = grind (arith, nat_tests)
    by_tests false false e f is =
        let whole : pair_in_range blocks periods b t ≡ Ok (b, t) = grind (arith, nat_tests) in
        let same : (b, t) ≡ pair = cc in
        let block : b ≡ pair.0 = ap (λ (p : ℕ × ℕ). p.0) same in
        let period : t ≡ pair.1 = ap (λ (p : ℕ × ℕ). p.1) same in
        let below : b < blocks = grind (arith, nat_tests) in
        let early : t < periods = grind (arith, nat_tests) in
        (omega (arith, block, below), omega (arith, period, early))

bound : {A B : Type 0} (P : B → Type 0) (r : Result A Fault) (f : A → Result B Fault) (x : B) → ((a : A) → f a ≡ Ok x → P x) → (r >>= f) ≡ Ok x → P x
bound P (Ok a) f x h is = h a is
bound P (Err e) f x h is = cc

abbrev IsFactInRange : ℕ → ℕ → Option (ℕ × ℕ) → Type 0
IsFactInRange blocks periods None = Unit {0}
IsFactInRange blocks periods (Some pair) = IsInRange blocks periods pair

whole-range : (blocks periods : ℕ) (part : ℤ) (pair : ℕ × ℕ) (fact : Option (ℕ × ℕ)) → IsInRange blocks periods pair → whole_or_none part pair ≡ Ok fact → IsFactInRange blocks periods fact
whole-range blocks periods (negsuc n) pair fact within is = cc
whole-range blocks periods (pos n) pair fact within is = by_tests (nat_eq n 0) (nat_eq n (10 ^ 6)) is
  where
    by_tests : (nothing whole : Bool) → cond nothing (Ok None) (cond whole (Ok (Some pair)) (Err PartBlock)) ≡ Ok fact → IsFactInRange blocks periods fact
    by_tests true whole is = let same : None ≡ fact = cc in subst (λ (f : Option (ℕ × ℕ)). IsFactInRange blocks periods f) same tt
    by_tests false true is = let same : Some pair ≡ fact = cc in subst (λ (f : Option (ℕ × ℕ)). IsFactInRange blocks periods f) same within
    by_tests false false is = cc

mined_pair-range : (blocks periods destination : ℕ) (part : ℤ) (pair : ℕ × ℕ) (fact : Option (ℕ × ℕ)) → IsInRange blocks periods pair → mined_pair destination part pair ≡ Ok fact → IsFactInRange blocks periods fact
mined_pair-range blocks periods destination part pair fact within is = by_test (nat_eq destination 0) is
  where
    by_test : (first : Bool) → cond first (whole_or_none part pair) (Err (Unsupported Destinations)) ≡ Ok fact → IsFactInRange blocks periods fact
    by_test true is = whole-range blocks periods part pair fact within is
    by_test false is = cc

scheduled_pair-range : (blocks periods : ℕ) (fields : List (List ℕ)) (fact : Option (ℕ × ℕ)) → scheduled_pair blocks periods fields ≡ Ok fact → IsFactInRange blocks periods fact
unfolding scheduled_pair
scheduled_pair-range blocks periods [] fact is = cc
scheduled_pair-range blocks periods (b ∷ []) fact is = cc
scheduled_pair-range blocks periods (b ∷ t ∷ []) fact is =
    bound (IsFactInRange blocks periods) (whole_field b) (λ block. whole_field t >>= (λ period. pair_in_range blocks periods block period >>= (λ pair. Ok (Some pair)))) fact
    (λ block e. bound (IsFactInRange blocks periods) (whole_field t) (λ period. pair_in_range blocks periods block period >>= (λ pair. Ok (Some pair))) fact
    (λ period f. pair_range block period (pair_in_range blocks periods block period) refl f) e) is
  where
    pair_range : (block period : ℕ) (r : Result (ℕ × ℕ) Fault) → pair_in_range blocks periods block period ≡ r → (r >>= (λ pair. Ok (Some pair))) ≡ Ok fact → IsFactInRange blocks periods fact
    pair_range block period (Ok pair) e f = let same : Some pair ≡ fact = cc in subst (λ (o : Option (ℕ × ℕ)). IsFactInRange blocks periods o) same (ranged blocks periods block period pair e)
    pair_range block period (Err c) e f = cc
scheduled_pair-range blocks periods (b ∷ d ∷ t ∷ []) fact is = cc
scheduled_pair-range blocks periods (b ∷ d ∷ t ∷ y ∷ []) fact is =
    bound (IsFactInRange blocks periods) (whole_field b) (λ block. whole_field d >>= (λ destination. whole_field t >>= (λ period. decimal_field y >>= (λ part. pair_in_range blocks periods block period >>= mined_pair destination part)))) fact
    (λ block e. bound (IsFactInRange blocks periods) (whole_field d) (λ destination. whole_field t >>= (λ period. decimal_field y >>= (λ part. pair_in_range blocks periods block period >>= mined_pair destination part))) fact
    (λ destination f. bound (IsFactInRange blocks periods) (whole_field t) (λ period. decimal_field y >>= (λ part. pair_in_range blocks periods block period >>= mined_pair destination part)) fact
    (λ period g. bound (IsFactInRange blocks periods) (decimal_field y) (λ part. pair_in_range blocks periods block period >>= mined_pair destination part) fact
    (λ part h. mined_pair_range block destination period part (pair_in_range blocks periods block period) refl h) g) f) e) is
  where
    mined_pair_range : (block destination period : ℕ) (part : ℤ) (r : Result (ℕ × ℕ) Fault) → pair_in_range blocks periods block period ≡ r → (r >>= mined_pair destination part) ≡ Ok fact → IsFactInRange blocks periods fact
    mined_pair_range block destination period part (Ok pair) e f = mined_pair-range blocks periods destination part pair fact (ranged blocks periods block period pair e) f
    mined_pair_range block destination period part (Err c) e f = cc
scheduled_pair-range blocks periods (b ∷ d ∷ t ∷ y ∷ more ∷ fields) fact is = cc

new_is : (o : Option ℕ) (pair : ℕ × ℕ) (fact : Option (ℕ × ℕ)) → cond (is_some o) (Err (Build Repeated)) (Ok (Some pair)) ≡ Ok fact → Some pair ≡ fact
new_is None pair fact is = cc
new_is (Some t) pair fact is = cc

line-range : (blocks periods : ℕ) (earlier : List (Option (ℕ × ℕ))) (fields : List (List ℕ)) (fact : Option (ℕ × ℕ)) (r : Result (Option (ℕ × ℕ)) Fault) → scheduled_pair blocks periods fields ≡ r → (r >>= new_to earlier) ≡ Ok fact → IsFactInRange blocks periods fact
line-range blocks periods earlier fields fact (Ok None) e is = let same : None ≡ fact = cc in subst (λ (f : Option (ℕ × ℕ)). IsFactInRange blocks periods f) same tt
line-range blocks periods earlier fields fact (Ok (Some p)) e is = scheduled_pair-range blocks periods fields fact (e ∙ ap (λ q. Ok q) (new_is (period_in earlier p.0) p fact is))
line-range blocks periods earlier fields fact (Err c) e is = cc

solution-range : (blocks periods : ℕ) (earlier : List (Option (ℕ × ℕ))) (fields : List (List ℕ)) (fact : Option (ℕ × ℕ)) → solution_line blocks periods earlier fields ≡ Ok fact → IsFactInRange blocks periods fact
unfolding solution_line
solution-range blocks periods earlier fields fact is = line-range blocks periods earlier fields fact (scheduled_pair blocks periods fields) refl is

period_by : (pair : ℕ × ℕ) (more : List (Option (ℕ × ℕ))) (b t : ℕ) (c : Bool) → nat_eq pair.0 b ≡ c → period_in (Some pair ∷ more) b ≡ Some t → (pair.1 ≡ t) ⊎ (period_in more b ≡ Some t)
period_by pair more b t true e is = let here : period_in (Some pair ∷ more) b ≡ Some pair.1 = simp e in inl cc
period_by pair more b t false e is = let there : period_in (Some pair ∷ more) b ≡ period_in more b = simp e in inr (sym there ∙ is)

-- the period that a line gives is in range
pub period-range : (blocks periods : ℕ) (earlier facts : List (Option (ℕ × ℕ))) (lines : List Cut) → StatesAfter (solution_line blocks periods) earlier lines facts → (b t : ℕ) → period_in facts b ≡ Some t → t < periods
period-range blocks periods earlier [] lines states b t is = cc
period-range blocks periods earlier (fact ∷ facts) [] states b t is = cc
period-range blocks periods earlier (None ∷ facts) (line ∷ lines) states b t is = period-range blocks periods (earlier ++ None ∷ []) facts lines states.1 b t is
period-range blocks periods earlier (Some pair ∷ facts) (line ∷ lines) states b t is =
    elim (period_by pair facts b t (nat_eq pair.0 b) refl is) [
      | inl here ↦ omega (arith, here, (solution-range blocks periods earlier line.fields (Some pair) states.0).1)
      | inr there ↦ period-range blocks periods (earlier ++ Some pair ∷ []) facts lines states.1 b t there
    ]

-- ---- rising

-- from a least block on, the blocks rise, and blocks and periods are in range
abbrev RisesFrom : ℕ → ℕ → ℕ → List (ℕ × ℕ) → Type 0
RisesFrom least blocks periods [] = Unit {0}
RisesFrom least blocks periods (pair ∷ more) =
    (least ≤ pair.0) × (pair.0 < blocks) × (pair.1 < periods) × RisesFrom (pair.0 + 1) blocks periods more

rises-lower : (least lower blocks periods : ℕ) (pairs : List (ℕ × ℕ)) → lower ≤ least → RisesFrom least blocks periods pairs → RisesFrom lower blocks periods pairs
rises-lower least lower blocks periods [] h rises = tt
rises-lower least lower blocks periods (p ∷ more) h rises = (omega (arith, rises.0), rises.1, rises.2, rises.3)

rises_by : (a blocks periods : ℕ) (o : Option ℕ) (more : List (ℕ × ℕ)) → a < blocks → ((t : ℕ) → o ≡ Some t → t < periods) → RisesFrom (a + 1) blocks periods more
    → RisesFrom a blocks periods (cons_option (option_map (λ t. (a, t)) o) more)
rises_by a blocks periods None more below in_time rises = rises-lower (a + 1) a blocks periods more (omega arith) rises
rises_by a blocks periods (Some t) more below in_time rises = (omega arith, below, in_time t refl, rises)

rises_on : (a n blocks periods : ℕ) (period : ℕ → Option ℕ) → a + n ≤ blocks → ((b t : ℕ) → period b ≡ Some t → t < periods) → RisesFrom a blocks periods (filter_map (pair_of period) (range_with_len a n))
rises_on a zero blocks periods period few in_time = tt
rises_on a (suc n) blocks periods period few in_time =
    rises_by a blocks periods (period a) (filter_map (pair_of period) (range_with_len (a + 1) n)) (omega arith) (λ t e. in_time a t e) (rises_on (a + 1) n blocks periods period (omega arith) in_time)

blocks-rise : (least blocks periods : ℕ) (pairs : List (ℕ × ℕ)) → RisesFrom least blocks periods pairs → IsStrictlyIncreasing (map (λ pair. pair.0) pairs)
blocks-rise least blocks periods [] rises k within = absurd (omega arith)
blocks-rise least blocks periods (p ∷ []) rises k within = absurd (omega arith)
blocks-rise least blocks periods (p ∷ q ∷ more) rises zero within = let less : p.0 < q.0 = omega (arith, rises.3.0) in less
blocks-rise least blocks periods (p ∷ q ∷ more) rises (suc k) within =
    let behind : List ℕ = map (λ pair. pair.0) (q ∷ more) in
    let next : suc k + 1 ≡ suc (k + 1) = omega arith in
    subst (λ (n : ℕ). slice_index behind k < slice_index (p.0 ∷ behind) n) (sym next) (blocks-rise (p.0 + 1) blocks periods (q ∷ more) rises.3 k (omega arith))

blocks-below : (least blocks periods : ℕ) (pairs : List (ℕ × ℕ)) → RisesFrom least blocks periods pairs → AllByRecursion (λ pair. pair.0 < blocks) pairs
blocks-below least blocks periods [] rises = tt
blocks-below least blocks periods (p ∷ more) rises = (rises.1, blocks-below (p.0 + 1) blocks periods more rises.3)

periods-below : (least blocks periods : ℕ) (pairs : List (ℕ × ℕ)) → RisesFrom least blocks periods pairs → AllByRecursion (λ pair. pair.1 < periods) pairs
periods-below least blocks periods [] rises = tt
periods-below least blocks periods (p ∷ more) rises = (rises.2, periods-below (p.0 + 1) blocks periods more rises.3)

schedule-from_rising : (blocks periods : ℕ) (pairs : List (ℕ × ℕ)) → RisesFrom 0 blocks periods pairs → IsSchedule blocks periods pairs
schedule-from_rising blocks periods pairs rises = record {
  rising = blocks-rise 0 blocks periods pairs rises;
  blocks = All-from_recursion (λ pair. pair.0 < blocks) pairs (blocks-below 0 blocks periods pairs rises);
  periods = All-from_recursion (λ pair. pair.1 < periods) pairs (periods-below 0 blocks periods pairs rises);
}

pub schedule_of-is_schedule : (blocks periods : ℕ) (period : ℕ → Option ℕ) → ((b t : ℕ) → period b ≡ Some t → t < periods) → IsSchedule blocks periods (schedule_of blocks period)
unfolding schedule_of
schedule_of-is_schedule blocks periods period in_time = schedule-from_rising blocks periods (filter_map (pair_of period) (range_with_len 0 blocks)) (rises_on 0 blocks blocks periods period (omega arith) in_time)

-- ---- a plain line

-- two fields schedule what their numbers say, if that is in range
pub pair-schedules : (blocks periods : ℕ) (fields : List (List ℕ)) (b t : ℕ) (r : Result (ℕ × ℕ) Fault) → ArePair fields b t → r ≡ pair_in_range blocks periods b t → (r >>= (λ pair. Ok (Some pair))) ≡ scheduled_pair blocks periods fields
unfolding scheduled_pair
pair-schedules blocks periods fields b t r are is =
    let said : ℕ → ℕ → Result (Option (ℕ × ℕ)) Fault = λ block period. pair_in_range blocks periods block period >>= (λ pair. Ok (Some pair)) in
    ap (λ (p : Result (ℕ × ℕ) Fault). p >>= (λ pair. Ok (Some pair))) is
    ∙ sym (ap (λ (n : Result ℕ Fault). n >>= (λ period. said b period)) are.other)
    ∙ sym (ap (λ (n : Result ℕ Fault). n >>= (λ block. whole_field are.second >>= (λ period. said block period))) are.one)
    ∙ sym (ap (λ (fs : List (List ℕ)). scheduled_pair blocks periods fs) are.two)

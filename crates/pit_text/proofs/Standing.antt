-- Lines that stand for facts.
use Rattle.std.proofs.Common.{◌≡◌, ◌≢◌, ℕ, zero, suc, ◌+◌, ◌<◌, nat_eq, ◌⊎◌, inl, inr, is_some, IsSome, Bool, true, false, true≢false, cond, List, [], ◌∷◌, ◌++◌, length, Ok, Err, Option, Some, None, IfSome, subst, ap, sym, ◌∙◌, refl, arith, add-one, zero-add, set, slice_index_or}
use Rattle.std.specs.List.{filter_map, range_with_len, cons_option}
use Rattle.std.proofs.lemmas.List.Elements.{filter_map-append}
use Rattle.std.specs.Option.{option_to_list, option_map}
use Rattle.std.proofs.Math.ListN.{length-set}
use Rattle.std.proofs.lemmas.Bool.{cases_eq}
use Rattle.pit_text.specs.declared.error.Fault.{Fault}
use Rattle.pit_text.specs.declared.error.Fault.TheVariants.{Build}
use Rattle.pit_model.specs.declared.error.BuildError.TheVariants.{Repeated}
use Rattle.pit_text.specs.Stands.{◌>>=◌}
use Rattle.std.proofs.lemmas.Bool.Decides.{nat_tests}
use Rattle.std.proofs.lemmas.List.{get_or-set_same, get_or-set_other, get_or_default}
use Rattle.pit_text.specs.Solution.{period_in, period_in_fact, scheduled_pair, new_to, solution_line, pair_of, schedule_of}
use Rattle.pit_text.specs.Inside.Solution.{AreSlots}
use Rattle.pit_text.proofs.Firsts.{or_else, or_else-none, first_value-more}

-- ---- solutions

period_here : (facts : List (Option (ℕ × ℕ))) (b t : ℕ) → period_in facts b ≡ None → period_in (facts ++ Some (b, t) ∷ []) b ≡ Some t
period_here facts b t none =
    let same : nat_eq b b ≡ true = grind (arith, nat_tests) in
    first_value-more (period_in_fact b) facts (Some (b, t)) ∙ ap (λ o. or_else o (period_in_fact b (Some (b, t)))) none ∙ simp same

period_elsewhere : (facts : List (Option (ℕ × ℕ))) (b t k : ℕ) → k ≢ b → period_in (facts ++ Some (b, t) ∷ []) k ≡ period_in facts k
period_elsewhere facts b t k other =
    let differs : nat_eq b k ≡ false = grind (arith, nat_tests) in
    let none : period_in_fact k (Some (b, t)) ≡ None = simp differs in
    first_value-more (period_in_fact k) facts (Some (b, t)) ∙ ap (λ o. or_else (period_in facts k) o) none ∙ or_else-none (period_in facts k)

-- a slot that is filled
pub slots_more : (blocks : ℕ) (facts : List (Option (ℕ × ℕ))) (slots : List (Option ℕ)) (b t : ℕ) → AreSlots blocks facts slots → length slots ≡ blocks → b < blocks → slice_index_or slots b None ≡ None
    → AreSlots blocks (facts ++ Some (b, t) ∷ []) (set slots b (Some t))
slots_more blocks facts slots b t are count within empty = record {
  count = inr (length-set slots b (Some t) ∙ count);
  each = λ k h. at_each k h (cases_eq k b);
}
  where
    at_each : (k : ℕ) → k < blocks → (k ≡ b) ⊎ (k ≢ b) → slice_index_or (set slots b (Some t)) k None ≡ period_in (facts ++ Some (b, t) ∷ []) k
    at_each k h (inl same) =
        let none : period_in facts b ≡ None = sym (are.each b within) ∙ empty in
        let in_slots : b < length slots = omega (arith, count) in
        ap (λ (n : ℕ). slice_index_or (set slots b (Some t)) n None) same ∙ get_or-set_same slots b (Some t) None in_slots ∙ sym (period_here facts b t none) ∙ ap (λ (n : ℕ). period_in (facts ++ Some (b, t) ∷ []) n) (sym same)
    at_each k h (inr other) = get_or-set_other slots b k (Some t) None other ∙ are.each k h ∙ sym (period_elsewhere facts b t k other)

-- no line yet
pub slots_none : (blocks : ℕ) (slots : List (Option ℕ)) → slots ≡ [] → AreSlots blocks [] slots
slots_none blocks slots none = record {
  count = inl none;
  each = λ b below. ap (λ (os : List (Option ℕ)). slice_index_or os b None) none;
}

-- the slots of all blocks are made
pub slots_made : (blocks : ℕ) (facts : List (Option (ℕ × ℕ))) (old new : List (Option ℕ)) → AreSlots blocks facts old → length new ≡ blocks
    → ((b : ℕ) → slice_index_or new b None ≡ slice_index_or old b None) → AreSlots blocks facts new
slots_made blocks facts old new are count same = record {
  count = inr count;
  each = λ b below. same b ∙ are.each b below;
}

-- a line that schedules nothing
pub slots_same : (blocks : ℕ) (facts : List (Option (ℕ × ℕ))) (slots : List (Option ℕ)) → AreSlots blocks facts slots → AreSlots blocks (facts ++ None ∷ []) slots
slots_same blocks facts slots are = record {
  count = are.count;
  each = λ k h. are.each k h ∙ sym (first_value-more (period_in_fact k) facts None ∙ or_else-none (period_in facts k));
}

-- the judgement of a line, by what it schedules
pub line_none : (blocks periods : ℕ) (facts : List (Option (ℕ × ℕ))) (fields : List (List ℕ)) → scheduled_pair blocks periods fields ≡ Ok None → solution_line blocks periods facts fields ≡ Ok None
unfolding solution_line
line_none blocks periods facts fields is = ap (λ r. r >>= new_to facts) is

pub line_new : (blocks periods : ℕ) (facts : List (Option (ℕ × ℕ))) (fields : List (List ℕ)) (b t : ℕ) → scheduled_pair blocks periods fields ≡ Ok (Some (b, t)) → period_in facts b ≡ None
    → solution_line blocks periods facts fields ≡ Ok (Some (b, t))
unfolding solution_line
line_new blocks periods facts fields b t is none =
    ap (λ r. r >>= new_to facts) is ∙ ap (λ (c : Bool). cond c (Err (Build Repeated)) (Ok (Some (b, t)))) (ap (λ (o : Option ℕ). is_some o) none)

pub line_again : (blocks periods : ℕ) (facts : List (Option (ℕ × ℕ))) (fields : List (List ℕ)) (b t : ℕ) → scheduled_pair blocks periods fields ≡ Ok (Some (b, t)) → is_some (period_in facts b) ≡ true
    → solution_line blocks periods facts fields ≡ Err (Build Repeated)
unfolding solution_line
line_again blocks periods facts fields b t is some =
    ap (λ r. r >>= new_to facts) is ∙ ap (λ (c : Bool). cond c (Err (Build Repeated)) (Ok (Some (b, t)))) some

pub line_bad : (blocks periods : ℕ) (facts : List (Option (ℕ × ℕ))) (fields : List (List ℕ)) (e : Fault) → scheduled_pair blocks periods fields ≡ Err e → solution_line blocks periods facts fields ≡ Err e
unfolding solution_line
line_bad blocks periods facts fields e is = ap (λ r. r >>= new_to facts) is

-- what is read from a slot
pub slot_is : (blocks : ℕ) (facts : List (Option (ℕ × ℕ))) (slots : List (Option ℕ)) (b : ℕ) (o : Option ℕ) → AreSlots blocks facts slots → length slots ≡ blocks → b < blocks → o ≡ slice_index_or slots b o → o ≡ period_in facts b
slot_is blocks facts slots b o are count within read =
    let in_slots : b < length slots = omega (arith, count) in
    read ∙ get_or_default slots b o None in_slots ∙ are.each b within

-- what holds of an option that is there
pub some_of : {X : Type 0} (o : Option X) (x : X) (P : X → Type 0) → o ≡ Some x → IfSome o P → P x
some_of None x P is h = cc
some_of (Some y) x P is h = let same : y ≡ x = cc in subst P same h

-- an option that isn't there
pub is_none : (o : Option ℕ) → is_some o ≡ false → o ≡ None
is_none None h = refl
is_none (Some x) h = cc

-- ---- rising blocks

range_push : (a n : ℕ) → range_with_len a (suc n) ≡ range_with_len a n ++ (a + n) ∷ []
range_push a zero = ap (λ (k : ℕ). k ∷ []) (omega arith)
range_push a (suc n) = ap (λ (ks : List ℕ). a ∷ ks) (range_push (a + 1) n ∙ ap (λ (k : ℕ). range_with_len (a + 1) n ++ k ∷ []) (omega arith))

one_kept : {X : Type 0} (o : Option X) → cons_option o [] ≡ option_to_list o
one_kept None = refl
one_kept (Some x) = refl

pub schedule_of-none : (period : ℕ → Option ℕ) → schedule_of 0 period ≡ []
unfolding schedule_of
schedule_of-none period = refl

pub schedule_of-more : (n : ℕ) (period : ℕ → Option ℕ) → schedule_of (n + 1) period ≡ schedule_of n period ++ option_to_list (pair_of period n)
unfolding schedule_of
schedule_of-more n period =
    ap (λ (k : ℕ). filter_map (pair_of period) (range_with_len 0 k)) (add-one n)
    ∙ ap (λ (ks : List ℕ). filter_map (pair_of period) ks) (range_push 0 n ∙ ap (λ (k : ℕ). range_with_len 0 n ++ k ∷ []) (zero-add n))
    ∙ filter_map-append (pair_of period) (range_with_len 0 n) (n ∷ [])
    ∙ ap (λ (ps : List (ℕ × ℕ)). filter_map (pair_of period) (range_with_len 0 n) ++ ps) (one_kept (pair_of period n))

-- periods that agree
agree_from : (a n : ℕ) (f g : ℕ → Option ℕ) → ((b : ℕ) → b < a + n → f b ≡ g b) → filter_map (pair_of f) (range_with_len a n) ≡ filter_map (pair_of g) (range_with_len a n)
agree_from a zero f g h = refl
agree_from a (suc n) f g h =
    ap (λ (o : Option ℕ). cons_option (option_map (λ t. (a, t)) o) (filter_map (pair_of f) (range_with_len (a + 1) n))) (h a (omega arith))
    ∙ ap (λ (ps : List (ℕ × ℕ)). cons_option (pair_of g a) ps) (agree_from (a + 1) n f g (λ b below. h b (omega arith)))

pub schedule_of-same : (n : ℕ) (f g : ℕ → Option ℕ) → ((b : ℕ) → b < n → f b ≡ g b) → schedule_of n f ≡ schedule_of n g
unfolding schedule_of
schedule_of-same n f g h = agree_from 0 n f g (λ b below. h b (omega arith))

nothing_from : (a n : ℕ) → filter_map (pair_of (λ b. None)) (range_with_len a n) ≡ []
nothing_from a zero = refl
nothing_from a (suc n) = nothing_from (a + 1) n

-- no block has a period
schedule_of-nothing : (n : ℕ) (period : ℕ → Option ℕ) → ((b : ℕ) → b < n → period b ≡ None) → schedule_of n period ≡ []
unfolding schedule_of
schedule_of-nothing n period none = agree_from 0 n period (λ b. None) (λ b below. none b (omega arith)) ∙ nothing_from 0 n

by_count : (blocks : ℕ) (facts : List (Option (ℕ × ℕ))) (slots : List (Option ℕ)) → AreSlots blocks facts slots → (slots ≡ []) ⊎ (length slots ≡ blocks)
    → schedule_of (length slots) (λ b. slice_index_or slots b None) ≡ schedule_of blocks (period_in facts)
by_count blocks facts slots are (inl none) =
    ap (λ (os : List (Option ℕ)). schedule_of (length os) (λ b. slice_index_or os b None)) none
    ∙ schedule_of-none (λ b. slice_index_or [] b None)
    ∙ sym (schedule_of-nothing blocks (period_in facts) (λ b below. sym (are.each b below) ∙ ap (λ (os : List (Option ℕ)). slice_index_or os b None) none))
by_count blocks facts slots are (inr count) =
    ap (λ (n : ℕ). schedule_of n (λ b. slice_index_or slots b None)) count ∙ schedule_of-same blocks (λ b. slice_index_or slots b None) (period_in facts) are.each

-- the slots give the schedule of the lines
pub schedule_of-slots : (blocks : ℕ) (facts : List (Option (ℕ × ℕ))) (slots : List (Option ℕ)) → AreSlots blocks facts slots
    → schedule_of (length slots) (λ b. slice_index_or slots b None) ≡ schedule_of blocks (period_in facts)
schedule_of-slots blocks facts slots are = by_count blocks facts slots are are.count

-- a slot that has a period
some-within : (slots : List (Option ℕ)) (b : ℕ) → IsSome (slice_index_or slots b None) → b < length slots
some-within [] b some = absurd (true≢false (sym some))
some-within (o ∷ os) zero some = omega arith
some-within (o ∷ os) (suc b) some = omega (arith, some-within os b some)

pub slots-some : (blocks : ℕ) (facts : List (Option (ℕ × ℕ))) (slots : List (Option ℕ)) (b : ℕ) → AreSlots blocks facts slots → IsSome (slice_index_or slots b None)
    → IsSome (period_in facts b)
slots-some blocks facts slots b are some = by are.count
  where
    within : b < length slots
    within = some-within slots b some

    by : (slots ≡ []) ⊎ (length slots ≡ blocks) → IsSome (period_in facts b)
    by (inl none) = absurd (omega (arith, ap (λ (os : List (Option ℕ)). length os) none, within))
    by (inr count) = ap (λ (o : Option ℕ). is_some o) (sym (are.each b (omega (arith, count, within)))) ∙ some

-- a line that schedules a block
some_either : (o : Option ℕ) (t : ℕ) → is_some (or_else o (Some t)) ≡ true
some_either None t = refl
some_either (Some x) t = refl

pub schedules_some : (facts : List (Option (ℕ × ℕ))) (pair : ℕ × ℕ) → (b : ℕ) × IsSome (period_in (facts ++ Some pair ∷ []) b)
schedules_some facts pair =
    let same : nat_eq pair.0 pair.0 ≡ true = grind (arith, nat_tests) in
    let said : period_in_fact pair.0 (Some pair) ≡ Some pair.1 = simp same in (
      pair.0,
      ap (λ (o : Option ℕ). is_some o) (first_value-more (period_in_fact pair.0) facts (Some pair) ∙ ap (λ (o : Option ℕ). or_else (period_in facts pair.0) o) said)
          ∙ some_either (period_in facts pair.0) pair.1,
    )

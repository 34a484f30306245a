-- The lines of a solution, and how they follow each other.
use Rattle.std.proofs.Common.{◌≡◌, ℕ, zero, suc, ◌+◌, ◌-◌, ◌<◌, ◌≤◌, ◌^◌, Bool, List, [], ◌∷◌, ◌++◌, length, length-append, length-take-le, take, drop, set, decimal, Option, Some, None, Result, Ok, ap, sym, ◌∙◌, refl, subst, arith, append_assoc, lit<, add-zero}
use Rattle.std.proofs.lemmas.Fmt.{length-decimal-le}
use Rattle.std.proofs.lemmas.List.{append-nil, drop-set, drop_all}
use Rattle.std.proofs.lemmas.List.Concat.{flat_map-append}
use Rattle.std.specs.Option.{option_to_list, option_map}
use Rattle.std.specs.List.{flat_map}
use Rattle.std.specs.Io.KnownBytes.{Appends}
use Rattle.pit_num.specs.Printed.{AppendsFront, WritesIfAny}
use Rattle.pit_num.proofs.CallerLemmas.{appends_nothing, appends_more, front_more, front_after, map_ok, map_err}
use Rattle.pit_text.specs.Solution.{schedule_of, pair_of}
use Rattle.pit_text.specs.SolutionText.{line_text, solution_text}
use Rattle.pit_text.specs.Inside.SolutionText.{slot_text, Gathers}
use Rattle.pit_text.proofs.Standing.{schedule_of-none, schedule_of-more}

pub ten_digits : (n : ℕ) → n < 2 ^ 32 → length (decimal n) ≤ 10
ten_digits n h =
    let few : n < 10 ^ 10 = omega arith in
    length-decimal-le 10 n (lit< tt) few (omega arith)

pub twenty_digits : (n : ℕ) → n < 2 ^ 64 → length (decimal n) ≤ 20
twenty_digits n h =
    let few : n < 10 ^ 20 = omega arith in
    length-decimal-le 20 n (lit< tt) few (omega arith)

-- a byte that stands before what was written
pub set_before : (xs : List ℕ) (at byte : ℕ) → 0 < at → at ≤ length xs → drop (at - 1) (set xs (at - 1) byte) ≡ byte ∷ drop at xs
set_before xs at byte some within =
    let back : at - 1 + 1 ≡ at = omega arith in
    drop-set xs (at - 1) byte (omega arith) ∙ ap (λ (n : ℕ). byte ∷ drop n xs) back

-- a byte at the end
pub set_last : (xs : List ℕ) (at byte : ℕ) → at + 1 ≡ length xs → drop at (set xs at byte) ≡ byte ∷ []
set_last xs at byte end = drop-set xs at byte (omega arith) ∙ ap (λ (ys : List ℕ). byte ∷ ys) (drop_all (at + 1) xs (omega arith))

pub text_none : (period : ℕ → Option ℕ) → solution_text (schedule_of 0 period) ≡ []
unfolding solution_text
text_none period = ap (λ (ps : List (ℕ × ℕ)). flat_map line_text ps) (schedule_of-none period)

slot_lines : (block : ℕ) (slot : Option ℕ) → flat_map line_text (option_to_list (option_map (λ t. (block, t)) slot)) ≡ slot_text block slot
slot_lines block None = refl
slot_lines block (Some t) = append-nil (line_text (block, t))

pub text_more : (n : ℕ) (period : ℕ → Option ℕ) → solution_text (schedule_of (n + 1) period) ≡ solution_text (schedule_of n period) ++ slot_text n (period n)
unfolding solution_text
text_more n period =
    ap (λ (ps : List (ℕ × ℕ)). flat_map line_text ps) (schedule_of-more n period)
    ∙ flat_map-append line_text (schedule_of n period) (option_to_list (pair_of period n))
    ∙ ap (λ (xs : List ℕ). flat_map line_text (schedule_of n period) ++ xs) (slot_lines n (period n))

-- a text of fewer blocks stands at the front
text_grows_by : (d n : ℕ) (period : ℕ → Option ℕ) → (rest : List ℕ) × (solution_text (schedule_of (n + d) period) ≡ solution_text (schedule_of n period) ++ rest)
text_grows_by zero n period = ([], ap (λ (k : ℕ). solution_text (schedule_of k period)) (add-zero n) ∙ sym (append-nil (solution_text (schedule_of n period))))
text_grows_by (suc d) n period =
    let before = text_grows_by d n period in
    let next : n + suc d ≡ n + d + 1 = omega arith in (
      before.0 ++ slot_text (n + d) (period (n + d)),
      ap (λ (k : ℕ). solution_text (schedule_of k period)) next
          ∙ text_more (n + d) period
          ∙ ap (λ (xs : List ℕ). xs ++ slot_text (n + d) (period (n + d))) before.1
          ∙ append_assoc (solution_text (schedule_of n period)) before.0 (slot_text (n + d) (period (n + d))),
    )

pub text_grows : (n m : ℕ) (period : ℕ → Option ℕ) → n ≤ m → (rest : List ℕ) × (solution_text (schedule_of m period) ≡ solution_text (schedule_of n period) ++ rest)
text_grows n m period h =
    let grown = text_grows_by (m - n) n period in
    let sum : n + (m - n) ≡ m = omega arith in
    (grown.0, ap (λ (k : ℕ). solution_text (schedule_of k period)) (sym sum) ∙ grown.1)

-- ---- what was gathered

pub gathers_none : (a : Option (List ℕ)) (text : List ℕ) → text ≡ [] → Gathers a a [] text []
gathers_none a text none = record { given = []; appended = appends_nothing a; whole = none }

pub gathers_more : (a b c : Option (List ℕ)) (held text left more after : List ℕ) → Gathers a b held text left → Gathers b c left more after → Gathers a c held (text ++ more) after
gathers_more a b c held text left more after first second = record {
  given = first.given ++ second.given;
  appended = appends_more a b c first.given second.given first.appended second.appended;
  whole = sym (append_assoc held text more)
      ∙ ap (λ (xs : List ℕ). xs ++ more) first.whole
      ∙ append_assoc first.given left more
      ∙ ap (λ (xs : List ℕ). first.given ++ xs) second.whole
      ∙ sym (append_assoc first.given second.given after);
}

-- the device failed while it was given what was held
pub gathers_front : (a b c : Option (List ℕ)) (text left whole rest : List ℕ) → Gathers a b [] text left → AppendsFront b c left → whole ≡ text ++ rest → AppendsFront a c whole
gathers_front a b c text left whole rest gathered front is =
    subst (λ (xs : List ℕ). AppendsFront a c xs) (ap (λ (xs : List ℕ). xs ++ rest) (sym gathered.whole) ∙ sym is)
    (front_more a c (gathered.given ++ left) rest (front_after a b c gathered.given left gathered.appended front))

-- the device was given what was held at the end
pub last_written : {D E : Type 0} (contents : D → Option (List ℕ)) (has_failed : D → Bool) (old between new : D) (text left whole : List ℕ) (result : Result (Unit {0}) E)
    → Gathers (contents old) (contents between) [] text left → WritesIfAny contents has_failed between new left result → text ≡ whole
    → (0 < length whole → 0 < length left) → (whole ≡ [] → (left ≡ []) × (between ≡ old)) → WritesIfAny contents has_failed old new whole result
last_written contents has_failed old between new text left whole result gathered writes same held nothing =
    record {
      ok = map_ok result (λ after. subst (λ (xs : List ℕ). Appends (contents old) (contents new) xs) (sym gathered.whole ∙ same) (appends_more (contents old) (contents between) (contents new) gathered.given left gathered.appended after)) writes.ok;
      err = map_err result (λ front. gathers_front (contents old) (contents between) (contents new) text left whole [] gathered front (sym same ∙ sym (append-nil text))) writes.err;
      fault = writes.fault;
      sound = map_ok result (λ sound some. sound (held some)) writes.sound;
      empty = λ none. let given = writes.empty (nothing none).0 in (given.0, given.1 ∙ (nothing none).1);
    }

-- a text that has a line isn't empty
pub has_line : (whole text line rest : List ℕ) → 0 < length line → whole ≡ (text ++ line) ++ rest → whole ≡ [] → ⊥
has_line whole text line rest some is none =
    let long : length whole ≡ length text + length line + length rest = ap length is ∙ length-append (text ++ line) rest ∙ ap (λ (n : ℕ). n + length rest) (length-append text line) in
    let short : length whole ≡ 0 = ap length none in
    omega arith

pub line_some : (block t : ℕ) → 0 < length (line_text (block, t))
line_some block t = omega (arith, length-append (decimal block) (32 ∷ (decimal t ++ 10 ∷ [])))

-- where nothing is held, nothing was written
pub untouched_more : {W E : Type 0} (slot : Option ℕ) (block held end : ℕ) (text : List ℕ) (first before after : W) (result : Result ℕ E)
    → (slot ≡ None → (result ≡ Ok held) × (after ≡ before)) → result ≡ Ok end → (0 < length (slot_text block slot) → 0 < end)
    → (held ≡ 0 → (before ≡ first) × (text ≡ [])) → end ≡ 0 → (after ≡ first) × (text ++ slot_text block slot ≡ [])
untouched_more None block held end text first before after result none is some was zero_end =
    let same = none refl in
    let ends : held ≡ end = cc (same.0, is) in
    let then = was (ends ∙ zero_end) in
    (same.1 ∙ then.0, append-nil text ∙ then.1)
untouched_more (Some t) block held end text first before after result none is some was zero_end =
    let positive : 0 < end = some (line_some block t) in
    absurd (omega arith)

-- of an empty text nothing is held
pub none_held : (a b : Option (List ℕ)) (text chunk : List ℕ) (held : ℕ) → Gathers a b [] text (take held chunk) → text ≡ [] → held ≤ length chunk → held ≡ 0
none_held a b text chunk held gathered none within =
    let long : length text ≡ length gathered.given + length (take held chunk) = ap length gathered.whole ∙ length-append gathered.given (take held chunk) in
    let short : length text ≡ 0 = ap length none in
    omega (arith, length-take-le held chunk within)

-- of a text that isn't empty something is held
pub held_of_some : (held : ℕ) (chunk text whole : List ℕ) → held ≤ length chunk → (held ≡ 0 → text ≡ []) → text ≡ whole → 0 < length whole → 0 < length (take held chunk)
held_of_some zero chunk text whole within none same some =
    let short : length whole ≡ 0 = ap length (sym same ∙ none refl) in
    absurd (omega arith)
held_of_some (suc held) chunk text whole within none same some = omega (arith, length-take-le (suc held) chunk within)

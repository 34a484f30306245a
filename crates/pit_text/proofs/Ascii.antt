-- A text that is a number has no byte above 127.
use Rattle.std.proofs.Common.{◌≡◌, ℕ, ℤ, suc, ◌+◌, ◌≤◌, ◌&&◌, ◌||◌, not, nat_lt, Bool, true, false, cond, List, [], ◌∷◌, take, drop, length, Result, Ok, Err, ap, sym, ◌∙◌, refl, subst, arith}
use Rattle.std.specs.List.{before_first, after_first, position_or_len, list_any}
use Rattle.std.specs.Char.{is_ascii_digit}
use Rattle.std.proofs.lemmas.List.{take_all}
use Rattle.std.proofs.lemmas.List.Folds.{list_all-append}
use Rattle.std.proofs.lemmas.Bool.{false≢true, true≢false}
use Rattle.std.proofs.lemmas.Bool.Decides.{nat_tests}
use Rattle.pit_num.specs.declared.parse.NumError.{NumError}
use Rattle.pit_num.specs.Decimal.{are_digits, is_sign, is_point, is_e, after_sign, is_number, is_decimal, mantissa, whole_part, fraction_part, significand, has_exponent, signed_exponent, exponent, whole_of, micro_of}
use Rattle.pit_text.specs.Numbers.{is_ascii, whole_field, decimal_field}

both : (a b : Bool) → a ≡ true → b ≡ true → (a && b) ≡ true
both a b p q = ap (λ (c : Bool). c && b) p ∙ q

pub each : (a b : Bool) → (a && b) ≡ true → (a ≡ true) × (b ≡ true)
each true b h = (refl, h)
each false b h = absurd (false≢true h)

digits_ascii : (text : List ℕ) → are_digits text ≡ true → is_ascii text ≡ true
digits_ascii [] h = refl
digits_ascii (b ∷ bs) h =
    let parts = each (is_ascii_digit b) (are_digits bs) h in
    let small : nat_lt b 128 ≡ true = grind (arith, nat_tests, parts.0) in
    both (nat_lt b 128) (is_ascii bs) small (digits_ascii bs parts.1)

-- a text that is cut at a byte of a kind, where there is one
cut_by : (p : ℕ → Bool) (x : ℕ) (xs : List ℕ) (b : Bool) → p x ≡ b → (p x ≡ true → nat_lt x 128 ≡ true) → (is_ascii (before_first p xs) ≡ true → is_ascii (after_first p xs) ≡ true → is_ascii xs ≡ true)
    → is_ascii (before_first p (x ∷ xs)) ≡ true → is_ascii (after_first p (x ∷ xs)) ≡ true → is_ascii (x ∷ xs) ≡ true
cut_by p x xs true e mark rest front back =
    let at : position_or_len p (x ∷ xs) ≡ 0 = simp e in
    both (nat_lt x 128) (is_ascii xs) (mark e) (subst (λ (n : ℕ). is_ascii (drop (n + 1) (x ∷ xs)) ≡ true) at back)
cut_by p x xs false e mark rest front back =
    let at : position_or_len p (x ∷ xs) ≡ suc (position_or_len p xs) = simp e (omega arith) in
    let past : position_or_len p (x ∷ xs) + 1 ≡ suc (position_or_len p xs + 1) = omega (arith, at) in
    let parts = each (nat_lt x 128) (is_ascii (before_first p xs)) (subst (λ (n : ℕ). is_ascii (take n (x ∷ xs)) ≡ true) at front) in
    both (nat_lt x 128) (is_ascii xs) parts.0 (rest parts.1 (subst (λ (n : ℕ). is_ascii (drop n (x ∷ xs)) ≡ true) past back))

cut_ascii : (p : ℕ → Bool) → ((b : ℕ) → p b ≡ true → nat_lt b 128 ≡ true) → (text : List ℕ) → is_ascii (before_first p text) ≡ true → is_ascii (after_first p text) ≡ true → is_ascii text ≡ true
cut_ascii p mark [] front back = refl
cut_ascii p mark (x ∷ xs) front back = cut_by p x xs (p x) refl (mark x) (cut_ascii p mark xs) front back

sign_by : (b : ℕ) (bs : List ℕ) (c : Bool) → is_sign b ≡ c → is_ascii (cond c bs (b ∷ bs)) ≡ true → is_ascii (b ∷ bs) ≡ true
sign_by b bs true e h = let small : nat_lt b 128 ≡ true = grind (arith, nat_tests) in both (nat_lt b 128) (is_ascii bs) small h
sign_by b bs false e h = h

pub sign_ascii : (text : List ℕ) → is_ascii (after_sign text) ≡ true → is_ascii text ≡ true
sign_ascii [] h = refl
sign_ascii (b ∷ bs) h = sign_by b bs (is_sign b) refl h

no_mark : (p : ℕ → Bool) (text : List ℕ) → list_any p text ≡ false → length text ≤ position_or_len p text
no_mark p [] h = omega arith
no_mark p (x ∷ xs) h = no_mark_by p x xs (p x) refl h (no_mark p xs)
  where
    no_mark_by : (p : ℕ → Bool) (x : ℕ) (xs : List ℕ) (b : Bool) → p x ≡ b → (b || list_any p xs) ≡ false → (list_any p xs ≡ false → length xs ≤ position_or_len p xs) → length (x ∷ xs) ≤ position_or_len p (x ∷ xs)
    no_mark_by p x xs true e h rest = absurd (true≢false h)
    no_mark_by p x xs false e h rest = let at : position_or_len p (x ∷ xs) ≡ suc (position_or_len p xs) = simp e (omega arith) in omega (arith, at, rest h)

point_small : (b : ℕ) → is_point b ≡ true → nat_lt b 128 ≡ true
point_small b h = grind (arith, nat_tests)

e_small : (b : ℕ) → is_e b ≡ true → nat_lt b 128 ≡ true
e_small b h = grind (arith, nat_tests)

exponent_ascii : (text : List ℕ) (b : Bool) → has_exponent text ≡ b → is_ascii (mantissa text) ≡ true → (not b || is_number (exponent text)) ≡ true → is_ascii (after_sign text) ≡ true
exponent_ascii text true e front number =
    let digits = each (nat_lt 0 (length (exponent text))) (are_digits (exponent text)) number in
    cut_ascii is_e e_small (after_sign text) front (sign_ascii (signed_exponent text) (digits_ascii (exponent text) digits.1))
exponent_ascii text false e front number =
    subst (λ (bs : List ℕ). is_ascii bs ≡ true) (take_all (position_or_len is_e (after_sign text)) (after_sign text) (no_mark is_e (after_sign text) e)) front

decimal_ascii : (text : List ℕ) → is_decimal text ≡ true → is_ascii text ≡ true
decimal_ascii text h =
    let parts = each (is_number (significand text)) (not (has_exponent text) || is_number (exponent text)) h in
    let digits = each (nat_lt 0 (length (significand text))) (are_digits (significand text)) parts.0 in
    let halves = each (are_digits (whole_part text)) (are_digits (fraction_part text)) (sym (list_all-append is_ascii_digit (whole_part text) (fraction_part text)) ∙ digits.1) in
    let front = cut_ascii is_point point_small (mantissa text) (digits_ascii (whole_part text) halves.0) (digits_ascii (fraction_part text) halves.1) in
    sign_ascii text (exponent_ascii text (has_exponent text) refl front parts.1)

-- what is read passed the first test
pub passed : {X : Type 0} (good : Bool) (e : NumError) (r : Result X NumError) (x : X) → cond (not good) (Err e) r ≡ Ok x → good ≡ true
passed true e r x h = refl
passed false e r x h = cc

pub whole_ascii : (text : List ℕ) (n : ℕ) → whole_of text ≡ Ok n → is_ascii text ≡ true
unfolding whole_of
whole_ascii text n h = digits_ascii text (each (nat_lt 0 (length text)) (are_digits text) (passed (is_number text) _ _ n h)).1

pub micro_ascii : (text : List ℕ) (z : ℤ) → micro_of text ≡ Ok z → is_ascii text ≡ true
unfolding micro_of
micro_ascii text z h = decimal_ascii text (passed (is_decimal text) _ _ z h)

pub whole_read : (text : List ℕ) (n : ℕ) → whole_of text ≡ Ok n → whole_field text ≡ Ok n
unfolding whole_field
whole_read text n h = simp (whole_ascii text n h, h)

pub decimal_read : (text : List ℕ) (z : ℤ) → micro_of text ≡ Ok z → decimal_field text ≡ Ok z
unfolding decimal_field
decimal_read text z h = simp (micro_ascii text z h, h)

pub ruleset reads = (whole_read, decimal_read)

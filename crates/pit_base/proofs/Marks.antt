-- The line of a mark, which is cut at the first space of its number.
use Rattle.std.proofs.Common.{◌≡◌, ℕ, ◌<◌, ◌≤◌, ◌==◌, Bool, false, Some, List, [], ◌∷◌, ◌++◌, length, take, drop, decimal, codes, refl, sym, ap, subst, ◌∙◌, arith, length-append}
use Rattle.std.specs.List.{position, position_or_len}
use Rattle.std.specs.Str.Parse.{AllDigits}
use Rattle.std.proofs.lemmas.Bool.{ne_eqb, lt-ltb, cond-true}
use Rattle.std.proofs.lemmas.Fmt.{decimal_is_IsNumeral_wide}
use Rattle.std.proofs.lemmas.List.{append_cancel_left, take_at, drop_at}
use Rattle.std.proofs.lemmas.Option.{same_Some}
use Rattle.std.proofs.lemmas.Str.Parse.{digit_from_value}
use Rattle.pit_plan.specs.declared.plan.TheConstants.{COMMITS_MAX}
use Rattle.pit_base.specs.Marks.{first_line, AreSumDigits, IsMark}

-- ---- where the number ends

abbrev pub is_space : ℕ → Bool
is_space b = b == 32

-- digits have no space
space-len : (ds rest : List ℕ) → AllDigits 10 ds → position_or_len is_space (ds ++ 32 ∷ rest) ≡ length ds
space-len [] rest digits = refl
space-len (d ∷ ds) rest digits =
    let apart : (d == 32) ≡ false = ne_eqb d 32 (λ same. omega (arith, (digit_from_value d digits.0).0, same)) in
    rw apart (omega (arith, space-len ds rest digits.1))

first-space : (n : ℕ) (rest : List ℕ) → n ≤ COMMITS_MAX → position is_space (decimal n ++ 32 ∷ rest) ≡ Some (length (decimal n))
first-space n rest few =
    let len : position_or_len is_space (decimal n ++ 32 ∷ rest) ≡ length (decimal n) = space-len (decimal n) rest (decimal_is_IsNumeral_wide n (omega (arith, few))).0.1 in
    let within : position_or_len is_space (decimal n ++ 32 ∷ rest) < length (decimal n ++ 32 ∷ rest) = omega (arith, len, length-append (decimal n) (32 ∷ rest)) in
    cond-true _ _ _ (lt-ltb _ _ within) ∙ ap Some len

-- a number, and what stands behind it
abbrev pub numbered : ℕ → List ℕ → List ℕ
numbered n digits = decimal n ++ (codes " sum " ++ digits)

module _ (line : List ℕ) (n : ℕ) (digits : List ℕ) (few : n ≤ COMMITS_MAX) (is : line ≡ numbered n digits) where
  pub space-at : position is_space line ≡ Some (length (decimal n))
  space-at = ap (λ (l : List ℕ). position is_space l) is ∙ first-space n (codes "sum " ++ digits) few

  space-here : (at : ℕ) → Some at ≡ position is_space line → length (decimal n) ≡ at
  space-here at found = sym (same_Some at (length (decimal n)) (found ∙ space-at))

  pub number-is : (at : ℕ) → Some at ≡ position is_space line → take at line ≡ decimal n
  number-is at found = ap (λ (l : List ℕ). take at l) is ∙ take_at (decimal n) (codes " sum " ++ digits) at (space-here at found)

  pub behind-is : (at : ℕ) → Some at ≡ position is_space line → drop at line ≡ codes " sum " ++ digits
  behind-is at found = ap (λ (l : List ℕ). drop at l) is ∙ drop_at (decimal n) (codes " sum " ++ digits) at (space-here at found)

same-digits : (line : List ℕ) (m n : ℕ) (digits others : List ℕ) → m ≤ COMMITS_MAX → n ≤ COMMITS_MAX → line ≡ numbered m digits → line ≡ numbered n others → digits ≡ others
same-digits line m n digits others few also one other =
    let found = sym (space-at line m digits few one) in
    append_cancel_left (codes " sum ") digits others (sym (behind-is line m digits few one (length (decimal m)) found) ∙ behind-is line n others also other (length (decimal m)) found)

-- ---- the line

module _ (text line behind : List ℕ) (is : line ≡ first_line text) (cut : line ≡ codes "% commits " ++ behind) where
  -- behind `% commits `
  pub mark-behind : (mark : ℕ × List ℕ) → IsMark text mark → behind ≡ numbered mark.0 mark.1
  mark-behind mark mark_is = append_cancel_left (codes "% commits ") behind (numbered mark.0 mark.1) (sym cut ∙ (is ∙ mark_is.line))

  pub is-mark : (commits : ℕ) (digits : List ℕ) → commits ≤ COMMITS_MAX → behind ≡ numbered commits digits → AreSumDigits digits → IsMark text (commits, digits)
  is-mark commits digits few parts are = record {
    line = sym is ∙ (cut ∙ ap (λ (xs : List ℕ). codes "% commits " ++ xs) parts);
    few = few;
    digits = are;
  }

  -- a mark has these digits
  pub mark-digits : (commits : ℕ) (digits : List ℕ) (mark : ℕ × List ℕ) → commits ≤ COMMITS_MAX → behind ≡ numbered commits digits → IsMark text mark → AreSumDigits digits
  mark-digits commits digits mark few parts mark_is =
      let same = same-digits behind mark.0 commits mark.1 digits mark_is.few few (mark-behind mark mark_is) parts in
      subst AreSumDigits same mark_is.digits

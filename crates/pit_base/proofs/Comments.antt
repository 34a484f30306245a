-- The comment of a history, which is the line of a mark.
use Rattle.std.proofs.Common.{◌≡◌, ℕ, ◌≤◌, nat_le, true, false, inr, List, [], ◌∷◌, ◌++◌, length, take, decimal, codes, refl, sym, ap, ◌∙◌, arith, append_assoc}
use Rattle.std.specs.Prelude.{All}
use Rattle.std.specs.List.{list_all, position_or_len}
use Rattle.std.proofs.lemmas.Bool.Decides.{nat_tests}
use Rattle.std.proofs.lemmas.Fmt.{decimal_injective}
use Rattle.std.proofs.lemmas.List.{take_at, append_cancel_left}
use Rattle.std.proofs.lemmas.List.Elements.{All-head, All-tail, All-append, All-weaker}
use Rattle.std.proofs.lemmas.List.Sums.{AllPass-from_list_all}
use Rattle.pit_plan.specs.declared.plan.TheConstants.{COMMITS_MAX}
use Rattle.pit_text.specs.Cutting.{without_return}
use Rattle.pit_base.specs.Again.{IsLeadingComment}
use Rattle.pit_show.specs.ShowText.{comment_text}
use Rattle.pit_base.specs.Marks.{is_feed, first_line, is_hex, AreSumDigits, mark_line, IsMark}
use Rattle.pit_base.proofs.Lines.{decimal-digits, IsInLine, digits-in_line, HasNoFeed, no-feed, no-return}
use Rattle.pit_base.proofs.Marks.{numbered, space-at, number-is}

-- ---- its bytes

hex-in_line : (c : ℕ) → is_hex c ≡ true → IsInLine c
hex-in_line c is = grind (arith, nat_tests)

plain-bytes : (text : List ℕ) → list_all (λ c. nat_le 14 c) text ≡ true → All IsInLine text
plain-bytes text all = All-weaker (λ c. nat_le 14 c ≡ true) IsInLine (λ c is. grind (arith, nat_tests)) text (AllPass-from_list_all (λ c. nat_le 14 c) text all)

module _ (n : ℕ) (digits : List ℕ) (few : n ≤ COMMITS_MAX) (are : AreSumDigits digits) where
  mark-bytes : All IsInLine (mark_line (n, digits))
  mark-bytes =
      let number : All IsInLine (decimal n) = digits-in_line (decimal n) (decimal-digits n (omega (arith, few))) in
      let sum : All IsInLine digits = All-weaker (λ c. is_hex c ≡ true) IsInLine hex-in_line digits are.1 in
      let front : All IsInLine (codes "% commits ") = plain-bytes (codes "% commits ") refl in
      All-append IsInLine (codes "% commits ") (numbered n digits) front
      (All-append IsInLine (decimal n) (codes " sum " ++ digits) number (All-append IsInLine (codes " sum ") digits (plain-bytes (codes " sum ") refl) sum))

  -- the line of a mark, and its line feed
  comment-line : comment_text n digits ≡ mark_line (n, digits) ++ 10 ∷ []
  unfolding comment_text
  comment-line =
      ap (λ (xs : List ℕ). codes "% commits " ++ xs)
      (append_assoc (decimal n) (32 ∷ []) (codes "sum " ++ (digits ++ 10 ∷ [])) ∙ sym (append_assoc (decimal n) (codes " sum " ++ digits) (10 ∷ [])))

  pub comment-leads : IsLeadingComment (comment_text n digits)
  comment-leads =
      let words : List ℕ = codes " commits " ++ numbered n digits in
      inr (words, comment-line, no-feed words (All-tail IsInLine 37 words mark-bytes))

  -- ---- as a first line

  feed-at : (line rest : List ℕ) → HasNoFeed line → position_or_len is_feed (line ++ 10 ∷ rest) ≡ length line
  feed-at [] rest none = refl
  feed-at (c ∷ line) rest none =
      let IsOther : ℕ → Type 0 = λ b. is_feed b ≡ false in
      let more = feed-at line rest (All-tail IsOther c line none) in
      let here : is_feed c ≡ false = All-head IsOther c line none in
      rw here (omega (arith, more))

  first-is : (rest : List ℕ) → first_line (comment_text n digits ++ rest) ≡ mark_line (n, digits)
  first-is rest =
      let line : List ℕ = mark_line (n, digits) in
      let whole : comment_text n digits ++ rest ≡ line ++ 10 ∷ rest = ap (λ (xs : List ℕ). xs ++ rest) comment-line ∙ append_assoc line (10 ∷ []) rest in
      ap first_line whole
      ∙ (ap (λ (k : ℕ). without_return (take k (line ++ 10 ∷ rest))) (feed-at line rest (no-feed line mark-bytes))
      ∙ (ap without_return (take_at line (10 ∷ rest) (length line) refl) ∙ no-return line mark-bytes (omega arith)))

  pub comment-mark : (rest : List ℕ) → IsMark (comment_text n digits ++ rest) (n, digits)
  comment-mark rest = record { line = first-is rest; few = few; digits = are }

-- a text has one mark at most, as for the number
pub one-mark : (text : List ℕ) (mark other : ℕ × List ℕ) → IsMark text mark → IsMark text other → mark.0 ≡ other.0
one-mark text mark other one two =
    let same : numbered mark.0 mark.1 ≡ numbered other.0 other.1 = append_cancel_left (codes "% commits ") (numbered mark.0 mark.1) (numbered other.0 other.1) (sym one.line ∙ two.line) in
    let at = sym (space-at (numbered mark.0 mark.1) mark.0 mark.1 one.few refl) in
    decimal_injective mark.0 other.0 (omega (arith, one.few)) (omega (arith, two.few))
    (sym (number-is (numbered mark.0 mark.1) mark.0 mark.1 one.few refl (length (decimal mark.0)) at)
    ∙ number-is (numbered mark.0 mark.1) other.0 other.1 two.few same (length (decimal mark.0)) at)

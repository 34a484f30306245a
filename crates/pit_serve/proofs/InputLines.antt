-- How an input is cut into its lines, and which of them are answered.
use Rattle.std.proofs.Common.{◌≡◌, ◌≢◌, ℕ, ◌<◌, ◌==◌, Bool, false, List, [], ◌∷◌, ◌++◌, length, refl, ap, sym, ◌∙◌, arith}
use Rattle.std.specs.List.{All, slice_split}
use Rattle.std.proofs.lemmas.Bool.Decides.{nat_tests}
use Rattle.std.proofs.lemmas.List.Elements.{All-weaker}
use Rattle.std.proofs.lemmas.List.Splits.{slice_split_none, slice_split_at}
use Rattle.pit_num.specs.Lines.{without_empty_last}
use Rattle.pit_text.proofs.CallerLemmas.{has_parts}
use Rattle.pit_serve.specs.InputLines.{input_lines}

abbrev is_feed : ℕ → Bool
is_feed b = b == 10

not_feed : (b : ℕ) → b ≢ 10 → is_feed b ≡ false
not_feed b h = grind (arith, nat_tests)

are_no_feeds : (line : List ℕ) → All (λ b. b ≢ 10) line → All (λ b. is_feed b ≡ false) line
are_no_feeds line h = All-weaker (λ (b : ℕ). b ≢ 10) (λ (b : ℕ). is_feed b ≡ false) not_feed line h

in_front : (x y : List ℕ) (parts ys : List (List ℕ)) → parts ≡ y ∷ ys → without_empty_last (x ∷ parts) ≡ x ∷ without_empty_last parts
in_front x y parts ys e = ap (λ (ps : List (List ℕ)). without_empty_last (x ∷ ps)) e ∙ sym (ap (λ (ps : List (List ℕ)). x ∷ without_empty_last ps) e)

pub no_line : input_lines [] ≡ []
unfolding input_lines
no_line = refl

pub line_then : (line rest : List ℕ) → All (λ b. b ≢ 10) line → input_lines (line ++ 10 ∷ rest) ≡ line ∷ input_lines rest
unfolding input_lines
line_then line rest h =
    let parts = has_parts is_feed rest in
    ap (λ (ps : List (List ℕ)). without_empty_last ps) (slice_split_at is_feed line 10 rest (are_no_feeds line h) refl)
    ∙ in_front line parts.0 (slice_split is_feed rest) parts.1 parts.2

some_last : (line : List ℕ) → 0 < length line → without_empty_last (line ∷ []) ≡ line ∷ []
some_last line some = grind (arith, nat_tests)

pub line_alone : (line : List ℕ) → All (λ b. b ≢ 10) line → 0 < length line → input_lines line ≡ line ∷ []
unfolding input_lines
line_alone line h some = ap (λ (ps : List (List ℕ)). without_empty_last ps) (slice_split_none is_feed line (are_no_feeds line h)) ∙ some_last line some

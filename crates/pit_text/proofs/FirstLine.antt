-- What the first line adds to the lines that are read.
use Rattle.std.proofs.Common.{◌≡◌, ℕ, suc, ◌+◌, Bool, true, false, cond, List, [], ◌∷◌, take, map, filter, ap, ◌∙◌, refl, arith}
use Rattle.std.specs.List.{before_first, position_or_len, enumerate_from}
use Rattle.pit_text.specs.Cutting.{fields_of, is_last, is_read, cut_line, cut_from}

-- the lines before the last one
front_last : (line : List ℕ) (lines : List (List ℕ)) → is_last line ≡ true → before_first is_last (line ∷ lines) ≡ []
front_last line lines e = simp e

front_more : (line : List ℕ) (lines : List (List ℕ)) → is_last line ≡ false → before_first is_last (line ∷ lines) ≡ line ∷ before_first is_last lines
front_more line lines e =
    let at : position_or_len is_last (line ∷ lines) ≡ suc (position_or_len is_last lines) = simp e (omega arith) in
    ap (λ (n : ℕ). take n (line ∷ lines)) at

cut_more : (n : ℕ) (line : List ℕ) (lines : List (List ℕ)) (b : Bool) → is_last line ≡ false → is_read (n, line) ≡ b → cut_from n (line ∷ lines) ≡ cond b (cut_line (n, line) ∷ cut_from (n + 1) lines) (cut_from (n + 1) lines)
unfolding cut_from
cut_more n line lines true goes_on e = ap (λ (ls : List (List ℕ)). map cut_line (filter is_read (enumerate_from n ls))) (front_more line lines goes_on) ∙ simp e
cut_more n line lines false goes_on e = ap (λ (ls : List (List ℕ)). map cut_line (filter is_read (enumerate_from n ls))) (front_more line lines goes_on) ∙ simp e

pub last_line : (n : ℕ) (line : List ℕ) (lines : List (List ℕ)) → is_last line ≡ true → cut_from n (line ∷ lines) ≡ []
unfolding cut_from
last_line n line lines last = ap (λ (ls : List (List ℕ)). map cut_line (filter is_read (enumerate_from n ls))) (front_last line lines last)

pub read_line : (n : ℕ) (line : List ℕ) (lines : List (List ℕ)) → is_last line ≡ false → is_read (n, line) ≡ true → cut_from n (line ∷ lines) ≡ record { number = n; fields = fields_of line } ∷ cut_from (n + 1) lines
read_line n line lines other reads = cut_more n line lines true other reads

pub skipped_line : (n : ℕ) (line : List ℕ) (lines : List (List ℕ)) → is_last line ≡ false → is_read (n, line) ≡ false → cut_from n (line ∷ lines) ≡ cut_from (n + 1) lines
skipped_line n line lines other skips = cut_more n line lines false other skips

pub no_cuts : (n : ℕ) → cut_from n [] ≡ []
unfolding cut_from
no_cuts n = refl

-- how far the last line is
pub last_end : (line : List ℕ) (lines : List (List ℕ)) → is_last line ≡ true → position_or_len is_last (line ∷ lines) ≡ 0
last_end line lines last = simp last

pub other_end : (line : List ℕ) (lines : List (List ℕ)) → is_last line ≡ false → position_or_len is_last (line ∷ lines) ≡ position_or_len is_last lines + 1
other_end line lines other = simp other (omega arith)

pub ruleset reads = (last_line, read_line, skipped_line, no_cuts, last_end, other_end)

-- Prefixes of a list.
use Rattle.std.proofs.Common.{◌≡◌, ℕ, ◌≤◌, List, [], ◌∷◌, ◌++◌, length, take, drop, refl, sym, ap, ◌∙◌}
use Rattle.std.proofs.lemmas.List.{take-append-le}
use mathlib.Core.List.{IsPrefix}
use Rattle.pit_board.proofs.CallerLemmas.{length-prefix}

-- the first elements of a prefix are those of the whole
pub take-prefix : {A : Type 0} (n : ℕ) (xs ys : List A) → IsPrefix xs ys → n ≤ length xs → take n ys ≡ take n xs
take-prefix n xs ys begins within = ap (λ l. take n l) (sym begins.1) ∙ take-append-le n xs begins.0 within

-- the whole is a prefix, and then what it has behind so many
pub prefix_drop : {A : Type 0} (n : ℕ) (xs ys : List A) → IsPrefix xs ys → n ≡ length xs → ys ≡ xs ++ drop n ys
prefix_drop n [] ys begins is = rw is refl
prefix_drop n (x ∷ xs) [] begins is = absurd (cc (begins.1))
prefix_drop n (x ∷ xs) (y ∷ ys) begins is = rw is (cc (begins.1, prefix_drop (length xs) xs ys (begins.0, cc (begins.1)) refl))

-- of two lists each of which is a prefix of the other there is one
pub prefix_both : {A : Type 0} (xs ys : List A) → IsPrefix xs ys → IsPrefix ys xs → xs ≡ ys
prefix_both [] [] p q = refl
prefix_both [] (y ∷ ys) p q = absurd (cc (q.1))
prefix_both (x ∷ xs) [] p q = absurd (cc (p.1))
prefix_both (x ∷ xs) (y ∷ ys) p q = cc (q.1, prefix_both xs ys (p.0, cc (p.1)) (q.0, cc (q.1)))

-- what a list has behind a prefix of it
pub ruleset behind_prefix = (prefix_drop, length-prefix)

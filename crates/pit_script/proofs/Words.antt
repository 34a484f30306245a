-- A field that is a word has no byte above 127.
use Rattle.std.proofs.Common.{◌≡◌, ℕ, Bool, true, false, cond, List, [], ◌∷◌, Some, Ok, bytes_eq, sym, refl, subst}
use Rattle.std.specs.List.{list_all}
use Rattle.std.specs.Map.{lookup}
use Rattle.std.proofs.lemmas.Slice.Eq.{bytes_eq-Decides}
use Rattle.pit_text.specs.Numbers.{is_ascii}
use Rattle.pit_text.proofs.CallerLemmas.{each}
use Rattle.pit_script.specs.Words.{words, word_of, word_in}
use Rattle.pit_script.specs.declared.word.Word.{Word}

abbrev are_ascii : List (List ℕ × Word) → Bool
are_ascii rows = list_all (λ row. is_ascii row.0) rows

row_by : (field key : List ℕ) (said w : Word) (rows : List (List ℕ × Word)) (b : Bool) → bytes_eq field key ≡ b → is_ascii key ≡ true → (lookup (bytes_eq field) rows ≡ Some w → is_ascii field ≡ true)
    → cond b (Some said) (lookup (bytes_eq field) rows) ≡ Some w → is_ascii field ≡ true
row_by field key said w rows true same ascii rest found = subst (λ (bs : List ℕ). is_ascii bs ≡ true) (sym ((bytes_eq-Decides field key).0 same)) ascii
row_by field key said w rows false same ascii rest found = rest found

row_ascii : (field : List ℕ) (rows : List (List ℕ × Word)) (w : Word) → are_ascii rows ≡ true → lookup (bytes_eq field) rows ≡ Some w → is_ascii field ≡ true
row_ascii field [] w ascii found = cc
row_ascii field ((key, said) ∷ rows) w ascii found =
    let parts = each (is_ascii key) (are_ascii rows) ascii in
    row_by field key said w rows (bytes_eq field key) refl parts.0 (row_ascii field rows w parts.1) found

word_ascii : (field : List ℕ) (w : Word) → word_of field ≡ Some w → is_ascii field ≡ true
unfolding word_of
word_ascii field w found = row_ascii field words w refl found

pub word_read : (field : List ℕ) (w : Word) → word_of field ≡ Some w → word_in field ≡ Ok w
word_read field w found = simp (word_ascii field w found, found)

pub ruleset reads = (word_read)

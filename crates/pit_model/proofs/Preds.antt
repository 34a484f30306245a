-- What holds of the predecessors and of the successors of a block.
use Rattle.std.proofs.Common.{◌≡◌, ◌≢◌, ℕ, ◌+◌, ◌<◌, Bool, true, false, ◌==◌, ◌&&◌, not, List, [], length, get_or, Option, refl, ap, ◌∙◌, map, arith}
use Rattle.std.specs.List.{All, filter, list_any, range_with_len}
use Rattle.std.specs.List.Sorted.{IsStrictlyIncreasing}
use Rattle.std.proofs.lemmas.Bool.Decides.{nat_tests}
use Rattle.std.proofs.lemmas.List.Elements.{All-filter, filter_passes}
use Rattle.std.proofs.lemmas.List.Folds.{list_any_none}
use Rattle.std.proofs.lemmas.List.FromFn.{length-range_with_len, get_or-range_with_len, length-map-range_with_len, get_or-map-range_with_len}
use Rattle.std.proofs.lemmas.List.Kept.{IsStrictlyIncreasing-filter}
use Rattle.pit_model.specs.Pit.{ArePreds, preds_in, preds_from, succs_in}

rising-range : (n : ℕ) → IsStrictlyIncreasing (range_with_len 0 n)
rising-range n k within =
    let long = length-range_with_len 0 n in
    let here : get_or (range_with_len 0 n) k 0 ≡ 0 + k = get_or-range_with_len 0 n k 0 (omega arith) in
    let next : get_or (range_with_len 0 n) (k + 1) 0 ≡ 0 + (k + 1) = get_or-range_with_len 0 n (k + 1) 0 (omega arith) in
    omega arith

below-range : (n : ℕ) → All (λ a. a < n) (range_with_len 0 n)
below-range n k d within =
    let long = length-range_with_len 0 n in
    let here : get_or (range_with_len 0 n) k d ≡ 0 + k = get_or-range_with_len 0 n k d (omega arith) in
    omega arith

-- the numbers that pass a test that the block doesn't pass
pub ArePreds-filter : (n block : ℕ) (p : ℕ → Bool) → p block ≡ false → ArePreds n block (filter p (range_with_len 0 n))
ArePreds-filter n block p out = record {
  rising = IsStrictlyIncreasing-filter p (range_with_len 0 n) (rising-range n);
  in_range = All-filter p (λ a. a < n) (range_with_len 0 n) (below-range n);
  others = λ k d within same. let passes = filter_passes p (range_with_len 0 n) k d within in let said = ap p same in cc;
}

itself : (block : ℕ) → (block == block) ≡ true
itself block = grind (arith, nat_tests)

other : (a block : ℕ) → a ≢ block → (a == block) ≡ false
other a block apart = grind (arith, nat_tests, apart)

pub ArePreds-preds_from : (n block : ℕ) (listed : List ℕ) → ArePreds n block (preds_from n block listed)
unfolding preds_from
ArePreds-preds_from n block listed = ArePreds-filter n block (λ a. not (a == block) && list_any (λ b. b == a) listed) (rw (itself block) refl)

-- a block that isn't among its own predecessors isn't among its successors
pub ArePreds-succs_in : (preds : List (Option (List ℕ))) (block : ℕ) → ArePreds (length preds) block (preds_in preds block) → ArePreds (length preds) block (succs_in preds block)
unfolding succs_in
ArePreds-succs_in preds block sound =
    ArePreds-filter (length preds) block (λ later. list_any (λ a. a == block) (preds_in preds later))
    (list_any_none (λ a. a == block) (preds_in preds block) (λ k d within. other (get_or (preds_in preds block) k d) block (sound.others k d within)))

abbrev pub AreSuccs : List (Option (List ℕ)) → List (List ℕ) → Type 0
AreSuccs preds succs = succs ≡ map (succs_in preds) (range_with_len 0 (length preds))

pub length-succs : (preds : List (Option (List ℕ))) (succs : List (List ℕ)) → AreSuccs preds succs → length succs ≡ length preds
length-succs preds succs is = ap length is ∙ length-map-range_with_len (succs_in preds) 0 (length preds)

pub get_or-succs : (preds : List (Option (List ℕ))) (succs : List (List ℕ)) (block : ℕ) → AreSuccs preds succs → block < length preds → get_or succs block [] ≡ succs_in preds block
get_or-succs preds succs block is within = ap (λ rows. get_or rows block []) is ∙ get_or-map-range_with_len (succs_in preds) 0 (length preds) block block [] within (omega arith)

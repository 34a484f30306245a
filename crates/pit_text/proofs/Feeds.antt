-- Where the first line feed is.
use Rattle.std.proofs.Common.{◌≡◌, ℕ, ◌+◌, ◌<◌, ◌≤◌, not, nat_eq, nat_lt, Bool, true, false, Some, None, List, length, get_or, ap, sym, ◌∙◌, arith, inl, inr}
use Rattle.std.specs.List.{position, position_or_len, prefix_len}
use Rattle.std.proofs.lemmas.Bool.{cases_lt, cond-true, cond-false}
use Rattle.std.proofs.lemmas.Bool.Decides.{nat_tests}
use Rattle.std.proofs.lemmas.List.Sums.{position_or_len_is}
use Rattle.std.proofs.lemmas.Simd.{run_in_chunk_fails}
use lib.Lanes.{chunk}
use Rattle.pit_text.specs.Inside.Cutting.{HasNoFeedBefore}

abbrev pub is_feed : ℕ → Bool
is_feed b = nat_eq b 10

pub first_feed : (text : List ℕ) (at : ℕ) → at < length text → HasNoFeedBefore text at → nat_eq (get_or text at 0) 10 ≡ true → Some at ≡ position (λ b. nat_eq b 10) text
first_feed text at within before here =
    let is : position_or_len is_feed text ≡ at = position_or_len_is is_feed text at 0 (omega arith) before (λ _. here) in
    let test : nat_lt (position_or_len is_feed text) (length text) ≡ true = grind (arith, nat_tests) in
    sym (cond-true _ _ _ test ∙ ap Some is)

pub no_feed : (text : List ℕ) (n : ℕ) → length text ≤ n → HasNoFeedBefore text n → None ≡ position (λ b. nat_eq b 10) text
no_feed text n whole before =
    let is : position_or_len is_feed text ≡ length text = position_or_len_is is_feed text (length text) 0 (omega arith) (λ k below. before k (omega arith)) (λ below. absurd (omega arith)) in
    let test : nat_lt (position_or_len is_feed text) (length text) ≡ false = grind (arith, nat_tests) in
    sym (cond-false _ _ _ test)

-- none before, and none in the run of a load
pub no_feed_in_run : (text : List ℕ) (from n run : ℕ) → from + n ≤ length text → run ≡ prefix_len (λ b. not (nat_eq b 10)) (chunk from n text) → HasNoFeedBefore text from → HasNoFeedBefore text (from + run)
no_feed_in_run text from n run room counted before k below =
    elim (cases_lt k from) [
      | inl less ↦ before k less
      | inr more ↦ run_in_chunk_fails is_feed text from n run 0 room counted k more below
    ]

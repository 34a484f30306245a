-- What is read of sets of blocks, and of what is known of the blocks in them.
use Rattle.std.proofs.Common.{◌≡◌, ◌≢◌, ℕ, ◌+◌, ◌*◌, ◌/◌, ◌%◌, ◌<◌, ◌≤◌, ◌==◌, Bool, true, false, cond, List, ◌∷◌, length, drop, get_or, set, replicate, Option, Some, None, is_some, refl, sym, ap, ap₂, subst, add-one, ◌∙◌, inl, inr, arith, ext_get_or, length-set, get_or-set_same, get_or-set_other, eq-eqb}
use Rattle.std.specs.Int.{bit_at}
use Rattle.std.specs.List.{Contains}
use Rattle.std.proofs.Math.Seq.{drop-cons}
use Rattle.std.proofs.lemmas.Bool.{cases_eq, cases_lt, false≢true}
use Rattle.std.proofs.lemmas.Map.Made.{Contains-tail}
use Rattle.std.proofs.lemmas.List.{drop_all, length-replicate, get_or-replicate, get_or_past}
use Rattle.std.proofs.lemmas.List.FromFn.{length-map-range_with_len, get_or-map-range_with_len}
use Rattle.std.proofs.lemmas.Nat.Bits.{bit_at-zero}
use Rattle.pit_num.specs.Bits.{IsWithBit}
use Rattle.pit_model.specs.BlockSet.{has_block, blocks_in}
use Rattle.pit_model.specs.Inside.BlockSet.{member_value, member_values}

-- ---- the bits of a set

pub length-blocks_in : (words : List ℕ) → length (blocks_in words) ≡ 64 * length words
length-blocks_in words = length-map-range_with_len (has_block words) 0 (64 * length words)

-- no block past the last word is in a set
has_block-past : (words : List ℕ) (b : ℕ) → length words ≤ b / 64 → has_block words b ≡ false
has_block-past words b past = ap (λ (word : ℕ). bit_at word (b % 64) == 1) (get_or_past words (b / 64) 0 past) ∙ ap (λ (bit : ℕ). bit == 1) (bit_at-zero (b % 64))

pub get_or-blocks_in : (words : List ℕ) (b : ℕ) → get_or (blocks_in words) b false ≡ has_block words b
get_or-blocks_in words b = elim (cases_lt b (64 * length words)) [
  | inl within ↦ get_or-map-range_with_len (has_block words) 0 (64 * length words) b b false within (omega arith)
  | inr past ↦ get_or_past (blocks_in words) b false (omega (arith, length-blocks_in words)) ∙ sym (has_block-past words b (omega arith))
]

pub blocks_in-past : (words : List ℕ) (b : ℕ) → length words ≤ b / 64 → get_or (blocks_in words) b false ≡ false
blocks_in-past words b past = get_or-blocks_in words b ∙ has_block-past words b past

-- words that read alike
pub blocks_in-same : (words more : List ℕ) → ((i : ℕ) → get_or more i 0 ≡ get_or words i 0) → (b : ℕ) → get_or (blocks_in more) b false ≡ get_or (blocks_in words) b false
blocks_in-same words more same b = get_or-blocks_in more b ∙ ap (λ (word : ℕ). bit_at word (b % 64) == 1) (same (b / 64)) ∙ sym (get_or-blocks_in words b)

bit_elsewhere : (words : List ℕ) (b k word : ℕ) → b / 64 < length words → k ≢ b → IsWithBit (get_or words (b / 64) 0) (b % 64) word → bit_at (get_or (set words (b / 64) word) (k / 64) 0) (k % 64) ≡ bit_at (get_or words (k / 64) 0) (k % 64)
bit_elsewhere words b k word within other with = elim (cases_eq (k / 64) (b / 64)) [
  | inl same ↦
      ap (λ (i : ℕ). bit_at (get_or (set words (b / 64) word) i 0) (k % 64)) same
      ∙ ap (λ (w : ℕ). bit_at w (k % 64)) (get_or-set_same words (b / 64) word 0 within)
      ∙ with.others (k % 64) (λ e. other (omega arith))
      ∙ ap (λ (i : ℕ). bit_at (get_or words i 0) (k % 64)) (sym same)
  | inr apart ↦ ap (λ (w : ℕ). bit_at w (k % 64)) (get_or-set_other words (b / 64) (k / 64) word 0 apart)
]

-- a bit more is a block more
pub blocks_in-set : (words : List ℕ) (b word : ℕ) → b / 64 < length words → IsWithBit (get_or words (b / 64) 0) (b % 64) word → blocks_in (set words (b / 64) word) ≡ set (blocks_in words) b true
blocks_in-set words b word within with =
    let words' : List ℕ = set words (b / 64) word in
    let long : length words' ≡ length words = length-set words (b / 64) word in
    ext_get_or false (blocks_in words') (set (blocks_in words) b true)
    (length-blocks_in words' ∙ ap (λ (n : ℕ). 64 * n) long ∙ sym (length-set (blocks_in words) b true ∙ length-blocks_in words))
    (λ k _. get_or-blocks_in words' k
    ∙ (elim (cases_eq k b) as (λ _. has_block words' k ≡ get_or (set (blocks_in words) b true) k false) [
      | inl same ↦
          ap (has_block words') same
          ∙ eq-eqb (bit_at (get_or words' (b / 64) 0) (b % 64)) 1 (ap (λ (w : ℕ). bit_at w (b % 64)) (get_or-set_same words (b / 64) word 0 within) ∙ with.here)
          ∙ sym (ap (λ (i : ℕ). get_or (set (blocks_in words) b true) i false) same ∙ get_or-set_same (blocks_in words) b true false (omega (arith, length-blocks_in words)))
      | inr other ↦
          ap (λ (bit : ℕ). bit == 1) (bit_elsewhere words b k word within other with)
          ∙ sym (get_or-set_other (blocks_in words) b k true false other ∙ get_or-blocks_in words k)
    ]))

-- ---- one block more

pub record IsWithBlock (before after : List Bool) (b : ℕ) : Type 0 where
  pub here : get_or after b false ≡ true
  pub others : (k : ℕ) → k ≢ b → get_or after k false ≡ get_or before k false

-- room was made for so many first
pub IsWithBlock-insert : (blocks : ℕ) (before room after : List Bool) (b : ℕ) → b < blocks → ((k : ℕ) → get_or room k false ≡ get_or before k false) → blocks ≤ length room → after ≡ set room b true → IsWithBlock before after b
IsWithBlock-insert blocks before room after b below same wide is = record {
  here = ap (λ (l : List Bool). get_or l b false) is ∙ get_or-set_same room b true false (omega arith);
  others = λ k other. ap (λ (l : List Bool). get_or l k false) is ∙ get_or-set_other room b k true false other ∙ same k;
}

-- ---- taking all out

-- what is in a set whose word was cleared was in it, and isn't of that word
pub cleared-word : (words : List ℕ) (k c : ℕ) → k < length words → get_or (blocks_in (set words k 0)) c false ≡ true → (get_or (blocks_in words) c false ≡ true) × (c / 64 ≢ k)
cleared-word words k c within held =
    let is : has_block (set words k 0) c ≡ true = sym (get_or-blocks_in (set words k 0) c) ∙ held in
    elim (cases_eq (c / 64) k) [
      | inl same ↦
          absurd (false≢true (sym (ap (λ (i : ℕ). bit_at (get_or (set words k 0) i 0) (c % 64) == 1) same ∙ ap (λ (w : ℕ). bit_at w (c % 64) == 1) (get_or-set_same words k 0 0 within)
          ∙ ap (λ (bit : ℕ). bit == 1) (bit_at-zero (c % 64))) ∙ is))
      | inr apart ↦ (get_or-blocks_in words c ∙ ap (λ (w : ℕ). bit_at w (c % 64) == 1) (sym (get_or-set_other words k (c / 64) 0 0 apart)) ∙ is, apart)
    ]

-- what is in the set is among the blocks from i on, and the room is as it was
pub record IsClearedTo (old held : List Bool) (blocks : List ℕ) (i : ℕ) : Type 0 where
  pub room : length held ≡ length old
  pub left : (c : ℕ) → get_or held c false ≡ true → Contains (drop i blocks) c

from-here : (blocks : List ℕ) (i b : ℕ) → i < length blocks → get_or blocks i 0 ≡ b → drop i blocks ≡ b ∷ drop (i + 1) blocks
from-here blocks i b less at = rw (add-one, drop-cons blocks i 0, at)

pub cleared-more : (old held after : List Bool) (blocks : List ℕ) (i b : ℕ) → i < length blocks → get_or blocks i 0 ≡ b → ((c : ℕ) → get_or after c false ≡ true → (get_or held c false ≡ true) × (c ≢ b)) → length after ≡ length held
    → IsClearedTo old held blocks i → IsClearedTo old after blocks (i + 1)
cleared-more old held after blocks i b less at fewer room so_far = record {
  room = room ∙ so_far.room;
  left = λ c is.
      Contains-tail b (drop (i + 1) blocks) c (λ same. (fewer c is).1 (sym same)) (subst (λ (xs : List ℕ). Contains xs c) (from-here blocks i b less at) (so_far.left c (fewer c is).0));
}

pub cleared-all : (old held : List Bool) (blocks : List ℕ) (i b : ℕ) → length blocks ≤ i → IsClearedTo old held blocks i → get_or held b false ≡ false
cleared-all old held blocks i b past so_far = by (get_or held b false) refl
  where
    by : (x : Bool) → get_or held b false ≡ x → x ≡ false
    by false is = refl
    by true is = let among = subst (λ (xs : List ℕ). Contains xs b) (drop_all i blocks past) (so_far.left b is) in absurd (omega (arith, among.1))

-- ---- what is known of the blocks in a set

pub length-member_values : {X : Type 0} (blocks : ℕ) (set : List Bool) (value : ℕ → X) → length (member_values blocks set value) ≡ blocks
length-member_values blocks set value = length-map-range_with_len (member_value set value) 0 blocks

pub get_or-member_values : {X : Type 0} (blocks : ℕ) (set : List Bool) (value : ℕ → X) (b : ℕ) → b < blocks → get_or (member_values blocks set value) b None ≡ member_value set value b
get_or-member_values blocks set value b within = get_or-map-range_with_len (member_value set value) 0 blocks b b None within (omega arith)

pub member_values-none : {X : Type 0} (blocks : ℕ) (set : List Bool) (value : ℕ → X) → ((b : ℕ) → get_or set b false ≡ false) → member_values blocks set value ≡ replicate blocks None
member_values-none blocks set value none =
    ext_get_or None (member_values blocks set value) (replicate blocks None) (length-member_values blocks set value ∙ sym (length-replicate blocks None)) (λ k k_in.
    let within : k < blocks = omega (arith, length-member_values blocks set value) in
    get_or-member_values blocks set value k within ∙ ap (λ (c : Bool). cond c (Some (value k)) None) (none k) ∙ sym (get_or-replicate blocks k None None within))

pub member_values-same : {X : Type 0} (blocks : ℕ) (before after : List Bool) (value value' : ℕ → X) → ((k : ℕ) → get_or after k false ≡ get_or before k false) → ((k : ℕ) → value' k ≡ value k) → member_values blocks after value' ≡ member_values blocks before value
member_values-same {X = X} blocks before after value value' sets values =
    ext_get_or None (member_values blocks after value') (member_values blocks before value) (length-member_values blocks after value' ∙ sym (length-member_values blocks before value)) (λ k k_in.
    let within : k < blocks = omega (arith, length-member_values blocks after value') in
    get_or-member_values blocks after value' k within ∙ ap₂ (λ (c : Bool) (x : X). cond c (Some x) None) (sets k) (values k) ∙ sym (get_or-member_values blocks before value k within))

pub member_values-with : {X : Type 0} (blocks : ℕ) (before after : List Bool) (value value' : ℕ → X) (b : ℕ) (x : X) → b < blocks → IsWithBlock before after b → value' b ≡ x → ((k : ℕ) → k ≢ b → value' k ≡ value k) → member_values blocks after value' ≡ set (member_values blocks before value) b (Some x)
member_values-with {X = X} blocks before after value value' b x below with here others =
    let was : List (Option X) = member_values blocks before value in
    let long : length was ≡ blocks = length-member_values blocks before value in
    ext_get_or None (member_values blocks after value') (set was b (Some x)) (length-member_values blocks after value' ∙ sym (length-set was b (Some x) ∙ long)) (λ k k_in.
    let within : k < blocks = omega (arith, length-member_values blocks after value') in
    get_or-member_values blocks after value' k within
    ∙ (elim (cases_eq k b) as (λ _. member_value after value' k ≡ get_or (set was b (Some x)) k None) [
      | inl same ↦
          ap (member_value after value') same
          ∙ ap₂ (λ (c : Bool) (y : X). cond c (Some y) None) with.here here
          ∙ sym (ap (λ (i : ℕ). get_or (set was b (Some x)) i None) same ∙ get_or-set_same was b (Some x) None (omega (arith, long)))
      | inr other ↦
          ap₂ (λ (c : Bool) (y : X). cond c (Some y) None) (with.others k other) (others k other)
          ∙ sym (get_or-set_other was b k (Some x) None other ∙ get_or-member_values blocks before value k within)
    ]))

-- ---- what is read of a value that is shown

pub below-known : {X : Type 0} (blocks : ℕ) (set : List Bool) (value : ℕ → X) (shown : List (Option X)) (b : ℕ) → member_values blocks set value ≡ shown → b < length shown → b < blocks
below-known blocks set value shown b view_is within = omega (arith, ap length view_is, length-member_values blocks set value)

is_some-cond : {X : Type 0} (c : Bool) (x : X) → is_some (cond c (Some x) None) ≡ c
is_some-cond true x = refl
is_some-cond false x = refl

-- it has something of the blocks in the set
pub known-view : {X : Type 0} (blocks : ℕ) (set : List Bool) (value : ℕ → X) (shown : List (Option X)) (b : ℕ) → member_values blocks set value ≡ shown → b < length shown → get_or set b false ≡ is_some (get_or shown b None)
known-view {X = X} blocks set value shown b view_is within =
    sym (is_some-cond (get_or set b false) (value b))
    ∙ ap is_some (sym (get_or-member_values blocks set value b (below-known blocks set value shown b view_is within)) ∙ ap (λ (l : List (Option X)). get_or l b None) view_is)

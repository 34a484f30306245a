-- The digits of a sum.
use Rattle.std.proofs.Common.{◌≡◌, ℕ, zero, suc, ◌*◌, ◌/◌, ◌%◌, ◌<◌, ◌&&◌, Bool, true, List, [], ◌∷◌, inl, inr, refl, ap, ◌∙◌, arith}
use Rattle.std.specs.Prelude.{All, slice_index}
use Rattle.std.specs.Int.{w32, to_be_bytes, byte_at, bytes_high_first}
use Rattle.std.specs.List.{AllPass}
use Rattle.std.proofs.lemmas.Bool.{and_parts, cases_lt}
use Rattle.std.proofs.lemmas.List.Elements.{All-nil, All-cons, All-head, All-tail, All-append}
use Rattle.hex.specs.Hex.{lower_digits, encode_with, encode_lower}
use Rattle.hex.proofs.HexLemmas.{length-encode_with}
use Rattle.sha2.specs.Sha256.{digest_bytes, sha256}
use Rattle.sha2.proofs.Facts256.{length-sha256}
use Rattle.pit_base.specs.Marks.{is_hex, AreSumDigits}

-- ---- bytes

abbrev IsByte : ℕ → Type 0
IsByte b = b < 256

byte_at-small : (i n : ℕ) → IsByte (byte_at i n)
byte_at-small zero n = omega arith
byte_at-small (suc i) n = omega arith

bytes-small : (k n : ℕ) → All IsByte (bytes_high_first k n)
bytes-small zero n = All-nil IsByte
bytes-small (suc k) n = All-cons IsByte (byte_at k n) (bytes_high_first k n) (byte_at-small k n) (bytes-small k n)

digest-small : (h : List ℕ) (n : ℕ) → All IsByte (digest_bytes h n)
unfolding digest_bytes
digest-small h zero = All-nil IsByte
digest-small h (suc n) = All-append IsByte (digest_bytes h n) (to_be_bytes w32 (slice_index h n)) (digest-small h n) (bytes-small 4 (slice_index h n))

sum-small : (message : List ℕ) → All IsByte (sha256 message)
unfolding sha256
sum-small message = digest-small _ 8

-- ---- digits

-- the first n of the sixteen digits
abbrev are_hex : ℕ → Bool
are_hex zero = true
are_hex (suc n) = is_hex (slice_index lower_digits n) && are_hex n

hex-at : (n k : ℕ) → are_hex n ≡ true → k < n → is_hex (slice_index lower_digits k) ≡ true
hex-at zero k all below = absurd (omega (arith, below))
hex-at (suc n) k all below =
    let parts = and_parts (is_hex (slice_index lower_digits n)) (are_hex n) all in
    elim (cases_lt k n) [
      | inl before ↦ hex-at n k parts.1 before
      | inr last ↦ let same : k ≡ n = omega (arith, below, last) in rw same parts.0
    ]

hex-digit : (k : ℕ) → k < 16 → is_hex (slice_index lower_digits k) ≡ true
hex-digit k below = hex-at 16 k refl below

hex-encoded : (bytes : List ℕ) → All IsByte bytes → AllPass is_hex (encode_lower bytes)
unfolding encode_with
hex-encoded [] small = All-nil (λ c. is_hex c ≡ true)
hex-encoded (b ∷ bytes) small =
    let IsHex : ℕ → Type 0 = λ c. is_hex c ≡ true in
    let first : b < 256 = All-head IsByte b bytes small in
    let others = hex-encoded bytes (All-tail IsByte b bytes small) in
    All-cons IsHex (slice_index lower_digits (b / 16)) (slice_index lower_digits (b % 16) ∷ encode_lower bytes) (hex-digit (b / 16) (omega (arith, first)))
    (All-cons IsHex (slice_index lower_digits (b % 16)) (encode_lower bytes) (hex-digit (b % 16) (omega arith)) others)

pub sum-digits : (message : List ℕ) → AreSumDigits (encode_lower (sha256 message))
sum-digits message = (
  length-encode_with lower_digits (sha256 message) ∙ ap (λ (n : ℕ). 2 * n) (length-sha256 message),
  hex-encoded (sha256 message) (sum-small message),
)

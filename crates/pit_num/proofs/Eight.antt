-- The number that eight digits in the bytes of a word write.
use Rattle.std.proofs.Common.{◌≡◌, ℕ, ◌+◌, ◌*◌, ◌/◌, ◌%◌, ◌^◌, ◌<◌, List, [], ◌∷◌, length, bit_and, ap, ◌∙◌, arith}
use lib.Arith.{digits_div, digits_mod}
use lib.Bits.{and_block, and_mask}
use lib.Lanes.{number_l}
use Rattle.std.specs.Int.Digits.{number_from_digits, AllBelowBase}
use Rattle.std.proofs.Math.Nat.{mod-eq_of_lt}

-- the mask keeps bytes 0 and 4
masked : (x : ℕ) → bit_and x 0x0000_00ff_0000_00ff ≡ x / 2 ^ 32 % 256 * 2 ^ 32 + x % 2 ^ 32 % 256
masked x =
    let e : x ≡ x / 2 ^ 32 * 2 ^ 32 + x % 2 ^ 32 = omega arith in
    ap (λ y. bit_and y 0x0000_00ff_0000_00ff) e ∙ and_block 32 (x / 2 ^ 32) 255 (x % 2 ^ 32) 255 (omega arith) (omega arith)
    ∙ (λ i. and_mask (x / 2 ^ 32) 8 i * 2 ^ 32 + and_mask (x % 2 ^ 32) 8 i)

abbrev worth : ℕ → ℕ
worth word =
    let pairs = (word * 10 % 2 ^ 64 + word / 256) % 2 ^ 64 in
    (bit_and pairs 0x0000_00ff_0000_00ff * 4294967296000100 % 2 ^ 64 + bit_and (pairs / 65536) 0x0000_00ff_0000_00ff * 42949672960001 % 2 ^ 64) % 2 ^ 64 / 2 ^ 32

below : (x : ℕ) → x < 100 → x < 256
below x h = omega arith

first : (p r : ℕ) → p < 100 → r < 100 → (r * 2 ^ 32 + p) * 4294967296000100 % 2 ^ 64 ≡ (p * 1000000 + r * 100) * 2 ^ 32 + p * 100
first p r P R = omega arith

second : (q s : ℕ) → q < 100 → s < 100 → (s * 2 ^ 32 + q) * 42949672960001 % 2 ^ 64 ≡ (q * 10000 + s) * 2 ^ 32 + q
second q s Q S = omega arith

last : (p q r s : ℕ) → p < 100 → q < 100 → r < 100 → s < 100
    → ((p * 1000000 + r * 100) * 2 ^ 32 + p * 100 + ((q * 10000 + s) * 2 ^ 32 + q)) % 2 ^ 64 / 2 ^ 32 ≡ p * 1000000 + q * 10000 + r * 100 + s
last p q r s P Q R S =
    let sum = (p * 1000000 + r * 100) * 2 ^ 32 + p * 100 + ((q * 10000 + s) * 2 ^ 32 + q) in
    let small : sum < 2 ^ 64 = omega arith in
    let parts : sum ≡ (p * 1000000 + q * 10000 + r * 100 + s) * 2 ^ 32 + (p * 100 + q) = omega arith in
    let low : p * 100 + q < 2 ^ 32 = omega arith in
    ap (λ x. x / 2 ^ 32) (mod-eq_of_lt small ∙ parts) ∙ digits_div _ low

-- p, q, r and s are the four pairs of digits, and x, y, z and w the bytes between them
combined : (p q r s x y z w pairs : ℕ) → p < 100 → q < 100 → r < 100 → s < 100 → x < 100 → y < 100 → z < 100 → w < 100
    → pairs ≡ p + 2 ^ 8 * x + 2 ^ 16 * q + 2 ^ 24 * y + 2 ^ 32 * r + 2 ^ 40 * z + 2 ^ 48 * s + 2 ^ 56 * w
    → (bit_and pairs 0x0000_00ff_0000_00ff * 4294967296000100 % 2 ^ 64 + bit_and (pairs / 65536) 0x0000_00ff_0000_00ff * 42949672960001 % 2 ^ 64) % 2 ^ 64 / 2 ^ 32
    ≡ p * 1000000 + q * 10000 + r * 100 + s
combined p q r s x y z w pairs P Q R S X Y Z W e =
    let high : pairs / 2 ^ 32 ≡ (z + 2 ^ 8 * s + 2 ^ 16 * w) * 256 + r = omega arith in
    let low : pairs % 2 ^ 32 ≡ (x + 2 ^ 8 * q + 2 ^ 16 * y) * 256 + p = omega arith in
    let down : pairs / 65536 ≡ (((w * 256) + s) * 2 ^ 32) + ((y + 2 ^ 8 * r + 2 ^ 16 * z) * 256 + q) = omega arith in
    let a : pairs / 2 ^ 32 % 256 ≡ r = rw high (digits_mod _ (below r R)) in
    let b : pairs % 2 ^ 32 % 256 ≡ p = rw low (digits_mod _ (below p P)) in
    let part : (y + 2 ^ 8 * r + 2 ^ 16 * z) * 256 + q < 2 ^ 32 = omega arith in
    let c : pairs / 65536 / 2 ^ 32 % 256 ≡ s = rw (down, digits_div _ part) (digits_mod _ (below s S)) in
    let d : pairs / 65536 % 2 ^ 32 % 256 ≡ q = rw (down, digits_mod _ part) (digits_mod _ (below q Q)) in
    rw (masked pairs, masked (pairs / 65536), a, b, c, d, first p r P R, second q s Q S) (last p q r s P Q R S)

-- the three multiplications give the number that eight digits write
pub eight_is : (ds : List ℕ) (word : ℕ) → length ds ≡ 8 → AllBelowBase 10 ds → word ≡ number_l 256 ds → worth word ≡ number_from_digits 10 ds
eight_is [] word long h e = absurd (omega arith)
eight_is (a ∷ []) word long h e = absurd (omega arith)
eight_is (a ∷ b ∷ []) word long h e = absurd (omega arith)
eight_is (a ∷ b ∷ c ∷ []) word long h e = absurd (omega arith)
eight_is (a ∷ b ∷ c ∷ d ∷ []) word long h e = absurd (omega arith)
eight_is (a ∷ b ∷ c ∷ d ∷ f ∷ []) word long h e = absurd (omega arith)
eight_is (a ∷ b ∷ c ∷ d ∷ f ∷ g ∷ []) word long h e = absurd (omega arith)
eight_is (a ∷ b ∷ c ∷ d ∷ f ∷ g ∷ i ∷ []) word long h e = absurd (omega arith)
eight_is (a ∷ b ∷ c ∷ d ∷ f ∷ g ∷ i ∷ j ∷ k ∷ ds) word long h e = absurd (omega arith)
eight_is (a ∷ b ∷ c ∷ d ∷ f ∷ g ∷ i ∷ j ∷ []) word long h e =
    let rest = b + 256 * (c + 256 * (d + 256 * (f + 256 * (g + 256 * (i + 256 * (j + 256 * 0)))))) in
    let parts : word ≡ rest * 256 + a = omega arith in
    let small : a < 256 = omega arith in
    let shifted : word / 256 ≡ rest = ap (λ x. x / 256) parts ∙ digits_div rest small in
    let tens : word * 10 < 2 ^ 64 = omega arith in
    let sum : word * 10 + rest < 2 ^ 64 = omega arith in
    let pairs : (word * 10 % 2 ^ 64 + word / 256) % 2 ^ 64
    ≡ 10 * a + b + 2 ^ 8 * (10 * b + c) + 2 ^ 16 * (10 * c + d) + 2 ^ 24 * (10 * d + f) + 2 ^ 32 * (10 * f + g) + 2 ^ 40 * (10 * g + i) + 2 ^ 48 * (10 * i + j) + 2 ^ 56 * (10 * j) =
    rw (mod-eq_of_lt tens, shifted, mod-eq_of_lt sum) (omega arith) in
    combined _ _ _ _ _ _ _ _ _ (omega arith) (omega arith) (omega arith) (omega arith) (omega arith) (omega arith) (omega arith) (omega arith) pairs ∙ omega arith

use Rattle.std.proofs.Common.{◌≡◌, ℕ, ◌∙◌, ap, List, length, take, ◌++◌, ◌∷◌, ◌/◌, ◌%◌, ◌^◌, ◌<◌, ◌≤◌, decimal, arith, subst, refl, replicate, ◌+◌}
use Rattle.pit_num.specs.Printed.{unsigned_text, places, AppendsFront}
use Rattle.std.proofs.lemmas.Fmt.{length-decimal-le}
use Rattle.pit_num.proofs.Digits.{power_le}
use Rattle.pit_num.proofs.Nearest.{ten_pos}
use Rattle.pit_num.proofs.Written.{front_more, failed_early, written_behind, some_written, placed}
use Rattle.pit_num.proofs.print.write_unsigned.Goals as goal

remainder : (n k : ℕ) → k ≤ 18 → (unit : ℕ) → unit ≡ 10 ^ k → (n % unit < 10 ^ k) × (10 ^ k ≤ 10 ^ 18)
remainder n k h unit is = (omega (arith, ten_pos k), power_le k 18 h)

decimal_fits : (n k : ℕ) → 0 < k → k ≤ 18 → (unit : ℕ) → unit ≡ 10 ^ k → length (decimal (n % unit)) ≤ k
decimal_fits n k positive h unit is =
    let bounds = remainder n k h unit is in
    length-decimal-le k (n % unit) positive bounds.0 (omega arith)

text_is : (n k unit : ℕ) (whole fraction : List ℕ) → unit ≡ 10 ^ k → whole ≡ decimal (n / unit) → fraction ≡ 46 ∷ places k (n % unit) → whole ++ fraction ≡ unsigned_text k n
unfolding unsigned_text
text_is n k unit whole fraction unit_is whole_is fraction_is =
    ap (λ (xs : List ℕ). xs ++ fraction) whole_is ∙ ap (λ (xs : List ℕ). decimal (n / unit) ++ xs) fraction_is
    ∙ ap (λ (u : ℕ). decimal (n / u) ++ (46 ∷ places k (n % u))) unit_is

pub nonzero_div-n : goal.nonzero_div-n
nonzero_div-n g c = omega (arith, ten_pos c.args.places, c.pow-unit.ensures)

pub returns-in_err-write_text : goal.returns-in_err-write_text
returns-in_err-write_text g c =
    let whole : c.as_bytes.result.now ≡ decimal (c.args.n / c.pow-unit.result) = cc in
    failed_early _ _ _ _ _ c.from_residual.result c.from_residual.ensures.0
    (subst (λ (xs : List ℕ). AppendsFront (g.W.Sink.contents c.args.w.now) (g.W.Sink.contents c.write_text.new.w) xs)
    (text_is c.args.n c.args.places c.pow-unit.result c.as_bytes.result.now (46 ∷ places c.args.places (c.args.n % c.pow-unit.result)) c.pow-unit.ensures whole refl)
    (front_more _ _ _ _ c.in_err-write_text.ensures.err))
    c.in_err-write_text.ensures.fault

pub nonzero_rem-n : goal.nonzero_rem-n
nonzero_rem-n g c = omega (arith, ten_pos c.args.places, c.pow-unit.ensures)

pub overflow_cast-n : goal.overflow_cast-n
overflow_cast-n g c = omega (arith, remainder c.args.n c.args.places c.requires.1 c.pow-unit.result c.pow-unit.ensures)

pub write_digits-requires : goal.write_digits-requires
write_digits-requires g c = let few : length (decimal (c.args.n % c.pow-unit.result)) ≤ c.args.places = decimal_fits c.args.n c.args.places c.requires.0 c.requires.1 c.pow-unit.result c.pow-unit.ensures in
    (omega arith, omega arith)

pub returns : goal.returns
returns g c =
    let few : length (decimal (c.args.n % c.pow-unit.result)) ≤ c.args.places = decimal_fits c.args.n c.args.places c.requires.0 c.requires.1 c.pow-unit.result c.pow-unit.ensures in
    let whole : c.as_bytes.result.now ≡ decimal (c.args.n / c.pow-unit.result) = cc in
    let fraction : take (1 + c.args.places) c.write_digits.new.buf ≡ 46 ∷ places c.args.places (c.args.n % c.pow-unit.result) =
    placed c.args.places c.write_digits.result (decimal (c.args.n % c.pow-unit.result)) (46 ∷ replicate 18 48) c.write_digits.new.buf c.write_digits.ensures.start few c.requires.1 refl c.write_digits.ensures.written c.write_digits.ensures.before in
    written_behind _ _ _ c.write_text.new.w _ c.as_bytes.result.now (46 ∷ places c.args.places (c.args.n % c.pow-unit.result)) _ c.write_text-2.result c.in_ok-write_text.ensures.ok
    (some_written _ _ _ _ _ _ c.write_text-2.result c.write_text-2.ensures fraction (omega arith))
    (text_is c.args.n c.args.places c.pow-unit.result c.as_bytes.result.now (46 ∷ places c.args.places (c.args.n % c.pow-unit.result)) c.pow-unit.ensures whole refl)

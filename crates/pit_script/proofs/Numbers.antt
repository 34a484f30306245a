-- A field that is a number has no byte above 127.
use Rattle.std.proofs.Common.{◌≡◌, ℕ, ℤ, Bool, true, false, cond, List, [], ◌∷◌, Option, Result, Ok, Err, refl, arith}
use Rattle.std.proofs.lemmas.Bool.Decides.{nat_tests}
use Rattle.pit_num.specs.Decimal.{whole_of, micro_of, after_sign, is_negative}
use Rattle.pit_num.specs.declared.parse.NumError.{NumError}
use Rattle.pit_text.specs.Stands.{◌>>=◌}
use Rattle.pit_text.specs.Numbers.{is_ascii}
use Rattle.pit_text.proofs.CallerLemmas.{whole_ascii, micro_ascii, sign_ascii}
use Rattle.pit_script.specs.Numbers.{read_as, with_direction, shift_of, is_dash, some_period, period_or_none_of}

pub whole_read : (text : List ℕ) (n : ℕ) → whole_of text ≡ Ok n → read_as whole_of text ≡ Ok n
whole_read text n h = simp (whole_ascii text n h, h)

pub decimal_read : (text : List ℕ) (z : ℤ) → micro_of text ≡ Ok z → read_as micro_of text ≡ Ok z
decimal_read text z h = simp (micro_ascii text z h, h)

-- what is read first, where what goes on with it succeeds
first_ok : {X Y : Type 0} (r : Result X NumError) (next : X → Result Y NumError) (y : Y) → (r >>= next) ≡ Ok y → (x : X) × (r ≡ Ok x)
first_ok (Ok x) next y h = (x, refl)
first_ok (Err e) next y h = cc

shift_ascii : (text : List ℕ) (shift : Bool × ℕ) → shift_of text ≡ Ok shift → is_ascii text ≡ true
unfolding shift_of
shift_ascii text shift h =
    let read = first_ok (whole_of (after_sign text)) (with_direction (is_negative text)) shift h in
    sign_ascii text (whole_ascii (after_sign text) read.0 read.1)

pub shift_read : (text : List ℕ) (shift : Bool × ℕ) → shift_of text ≡ Ok shift → read_as shift_of text ≡ Ok shift
shift_read text shift h = simp (shift_ascii text shift h, h)

dash_ascii : (text : List ℕ) → is_dash text ≡ true → is_ascii text ≡ true
dash_ascii [] h = refl
dash_ascii (byte ∷ []) h = grind (arith, nat_tests, h)
dash_ascii (byte ∷ next ∷ more) h = cc

period_by : (text : List ℕ) (b : Bool) (period : Option ℕ) → is_dash text ≡ b → cond b (Ok Option.None) (whole_of text >>= some_period) ≡ Ok period → is_ascii text ≡ true
period_by text true period dash h = dash_ascii text dash
period_by text false period dash h =
    let read = first_ok (whole_of text) some_period period h in
    whole_ascii text read.0 read.1

pub period_read : (text : List ℕ) (period : Option ℕ) → period_or_none_of text ≡ Ok period → read_as period_or_none_of text ≡ Ok period
unfolding period_or_none_of
period_read text period h = simp (period_by text (is_dash text) period refl h, h)

pub ruleset reads = (whole_read, decimal_read, shift_read, period_read)

-- A field that has no byte above 127 is text.
use Rattle.std.proofs.Common.{◌≡◌, ℕ, zero, suc, ◌&&◌, nat_lt, Bool, true, false, List, [], ◌∷◌, refl, arith}
use Rattle.std.specs.Str.{IsAscii, IsUtf8}
use Rattle.std.proofs.lemmas.Str.{IsUtf8-from_ascii}
use Rattle.std.proofs.lemmas.Bool.{false≢true}
use Rattle.std.proofs.lemmas.Bool.Decides.{nat_tests}
use Rattle.pit_text.specs.Numbers.{is_ascii}

each : (a b : Bool) → (a && b) ≡ true → (a ≡ true) × (b ≡ true)
each true b h = (refl, h)
each false b h = absurd (false≢true h)

IsAscii-is_ascii : (bs : List ℕ) → is_ascii bs ≡ true → IsAscii bs
IsAscii-is_ascii [] h i = omega arith
IsAscii-is_ascii (b ∷ bs) h zero = let parts = each (nat_lt b 128) (is_ascii bs) h in grind (arith, nat_tests, parts.0)
IsAscii-is_ascii (b ∷ bs) h (suc i) = let parts = each (nat_lt b 128) (is_ascii bs) h in IsAscii-is_ascii bs parts.1 i

pub IsUtf8-is_ascii : (bs : List ℕ) → is_ascii bs ≡ true → IsUtf8 bs
IsUtf8-is_ascii bs h = IsUtf8-from_ascii bs (IsAscii-is_ascii bs h)

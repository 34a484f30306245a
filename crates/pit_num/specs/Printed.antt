-- The texts of printed numbers, and what a device holds after a write.
use Rattle.std.specs.Prelude.{◌≡◌, ℕ, ℤ, pos, negsuc, ◌+◌, ◌-◌, ◌/◌, ◌%◌, ◌^◌, ◌<◌, Bool, IsTrue, IsFalse, List, [], ◌∷◌, ◌++◌, length, Option, Result, IsOk, OnOk, OnErr, decimal, replicate}
use Rattle.std.specs.Io.KnownBytes.{Appends}

-- the digits of n behind as many zeros as make k digits
abbrev pub places : ℕ → ℕ → List ℕ
places k n = replicate (k - length (decimal n)) 48 ++ decimal n

-- n in units of 10^-k: the whole part, a point, and k digits
unfoldable pub unsigned_text : ℕ → ℕ → List ℕ
unsigned_text k n = decimal (n / 10 ^ k) ++ 46 ∷ places k (n % 10 ^ k)

-- the same behind a `-` where it is negative; zero has no sign
abbrev pub fixed_text : ℕ → ℤ → List ℕ
fixed_text k (pos n) = unsigned_text k n
fixed_text k (negsuc n) = 45 ∷ unsigned_text k (n + 1)

-- the device's known bytes grew by what stands at the front of a text
pub record AppendsFront (old new : Option (List ℕ)) (text : List ℕ) : Type 0 where
  pub written : List ℕ
  pub rest : List ℕ
  pub whole : text ≡ written ++ rest
  pub appended : Appends old new written

-- A call was to give a device a text. The device holds the text behind what it held, and hasn't failed; or it has failed, and holds a front
-- of the text there.
pub record WritesText {D E : Type 0} (contents : D → Option (List ℕ)) (has_failed : D → Bool) (old new : D) (text : List ℕ) (result : Result (Unit {0}) E) : Type 0 where
  pub ok : OnOk result (Appends (contents old) (contents new) text)
  pub err : OnErr result (AppendsFront (contents old) (contents new) text)
  pub fault : OnErr result (IsTrue (has_failed new))
  pub sound : OnOk result (IsFalse (has_failed new))

-- The same of a text that may be empty. Of an empty one the device is given nothing, so that such a text is no fault of any device.
pub record WritesIfAny {D E : Type 0} (contents : D → Option (List ℕ)) (has_failed : D → Bool) (old new : D) (text : List ℕ) (result : Result (Unit {0}) E) : Type 0 where
  pub ok : OnOk result (Appends (contents old) (contents new) text)
  pub err : OnErr result (AppendsFront (contents old) (contents new) text)
  pub fault : OnErr result (IsTrue (has_failed new))
  pub sound : OnOk result (0 < length text → IsFalse (has_failed new))
  pub empty : text ≡ [] → IsOk result × (new ≡ old)

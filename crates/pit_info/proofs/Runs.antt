-- What the calls of the engine answer, as the steps of its run.
use Rattle.std.proofs.Common.{◌≡◌, inr, ℕ, Bool, List, Option, Some, None, is_some, Result, Ok, Err, refl, sym, subst}
use Rattle.pit_model.specs.Pit.{Pit}
use Rattle.pit_step.specs.Devices.{Reading, known_if}
use Rattle.pit_step.specs.Steps.{Step, in_turn, IsResultOf}
use Rattle.pit_info.specs.Info.{IsInfo}

-- ---- a source that may be left out

-- it is known of where it is there
pub is_some-reading : {S : Type 0} (of : S → S → Reading) (old new : Option S) → is_some new ≡ is_some old → is_some (known_if of old new) ≡ is_some new
is_some-reading of (Some old) (Some new) same = refl
is_some-reading of (Some old) None same = refl
is_some-reading of None (Some new) same = sym same
is_some-reading of None None same = refl

-- ---- one step and two more

module _ {F A B C D : Type 0} (first : Step F A B) (next : Step F B C) (last : Step F C D) (given : A) (between : B) (gives : first.Gives given between) where
  pub ends : (value : C) (result : Result D F) → next.Gives between value → IsResultOf last value result → IsResultOf (in_turn first (in_turn next last)) given result
  ends value (Ok end) then is = (between, gives, (value, then, is))
  ends value (Err fault) then is = inr (between, gives, inr (value, then, is))

-- ---- what is told

pub rendered-as : (with_places other : Bool) (pit : Pit) (unknown read text : List ℕ) → with_places ≡ other → unknown ≡ read → IsInfo with_places pit unknown text → IsInfo other pit read text
rendered-as with_places other pit unknown read text same also told =
    subst (λ (b : Bool). IsInfo b pit read text) same (subst (λ (xs : List ℕ). IsInfo with_places pit xs text) also told)

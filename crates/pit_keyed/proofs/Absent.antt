-- A key that isn't there.
use Rattle.std.proofs.Common.{◌≡◌, Bool, true, false, cond, List, [], ◌∷◌, ◌++◌, Some, refl, ap}
use Rattle.std.specs.Prelude.{is_some}
use Rattle.indexmap.specs.IndexMap.{insert_entry}
use Rattle.pit_keyed.specs.Keyed.{at_key}

-- a key that isn't there goes last
pub insert_entry-absent : {K V : Type 0} (eq : K → K → Bool) (pairs : List (K × V)) (key : K) (value : V)
    → is_some (at_key eq pairs key) ≡ false → insert_entry eq pairs key value ≡ pairs ++ (key, value) ∷ []
insert_entry-absent eq [] key value absent = refl
insert_entry-absent eq (p ∷ ps) key value absent = by (eq key p.0) (λ e. insert_entry-absent eq ps key value e) absent
  where
    by : (x : Bool) → (is_some (at_key eq ps key) ≡ false → insert_entry eq ps key value ≡ ps ++ (key, value) ∷ [])
        → is_some (cond x (Some p.1) (at_key eq ps key)) ≡ false → cond x ((p.0, value) ∷ ps) (p ∷ insert_entry eq ps key value) ≡ p ∷ (ps ++ (key, value) ∷ [])
    by true later e = cc
    by false later e = ap (λ qs. p ∷ qs) (later e)

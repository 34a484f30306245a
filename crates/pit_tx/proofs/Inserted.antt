-- What an insert leaves of a set.
use Rattle.std.proofs.Common.{◌≡◌, ◌≢◌, ℕ, zero, suc, ◌<◌, ℤ, Bool, true, false, true≢false, cond, List, [], ◌∷◌, ◌++◌, Option, None, Result, Ok, Err, OnOk, OnErr, refl, sym, ap, subst, ◌∙◌, nat_eq, arith}
use Rattle.std.specs.Prelude.{All, AllPairs, IfSome, is_some}
use Rattle.std.proofs.lemmas.Bool.Decides.{Decides-eqb}
use Rattle.std.proofs.lemmas.List.Elements.{All-cons, All-nil, All-head, All-tail}
use Rattle.std.proofs.lemmas.List.Kept.{AllPairs-cons}
use Rattle.indexmap.specs.IndexMap.{insert_entry}
use Rattle.pit_model.specs.Fitting.{AreKeyed, Fits, RevisionsFit, pair_eq}
use Rattle.pit_model.proofs.CallerLemmas.{Decides-pair_eq}
use Rattle.pit_keyed.proofs.CallerLemmas.{insert_entry-absent}
use Rattle.pit_keyed.specs.Keyed.{with_each, with_read, at_key}

-- ---- any keys and values

-- what is so of each pair, of the new one, and of a pair that takes the new value, is so after the insert
pub All-insert_entry : {K V : Type 0} (eq : K → K → Bool) (P : K × V → Type 0) (pairs : List (K × V)) (key : K) (value : V)
    → ((p : K × V) → P p → P (p.0, value)) → P (key, value) → All P pairs → All P (insert_entry eq pairs key value)
All-insert_entry eq P [] key value keeps here all = All-cons P (key, value) [] here (All-nil P)
All-insert_entry {K} {V} eq P (p ∷ ps) key value keeps here all =
    by (eq key p.0) (All-insert_entry eq P ps key value keeps here (All-tail P p ps all)) (All-head P p ps all) (All-tail P p ps all)
  where
    by : (x : Bool) → All P (insert_entry eq ps key value) → P p → All P ps → All P (cond x ((p.0, value) ∷ ps) (p ∷ insert_entry eq ps key value))
    by true later first rest = All-cons P (p.0, value) ps (keeps p first) rest
    by false later first rest = All-cons P p (insert_entry eq ps key value) first later

-- no two pairs of the rest have one key either
AllPairs-rest : {X : Type 0} (R : X → X → Type 0) (x : X) (xs : List X) → AllPairs R (x ∷ xs) → AllPairs R xs
AllPairs-rest R x xs all = λ i j d less within. all (suc i) (suc j) d (omega (arith, less)) (omega (arith, within))

AllPairs-first : {X : Type 0} (R : X → X → Type 0) (x : X) (xs : List X) → AllPairs R (x ∷ xs) → All (R x) xs
AllPairs-first R x xs all = λ k d within. all zero (suc k) d (omega arith) (omega (arith, within))

-- where no key stands twice, none does after the insert
pub once-insert_entry : {K V : Type 0} (eq : K → K → Bool) (same : (k : K) → eq k k ≡ true) (pairs : List (K × V)) (key : K) (value : V)
    → AllPairs (λ p q. p.0 ≢ q.0) pairs → AllPairs (λ p q. p.0 ≢ q.0) (insert_entry eq pairs key value)
once-insert_entry {K} {V} eq same [] key value once = AllPairs-cons (λ p q. p.0 ≢ q.0) (key, value) [] (All-nil (λ q. key ≢ q.0)) once
once-insert_entry {K} {V} eq same (p ∷ ps) key value once =
    by (eq key p.0) refl (AllPairs-first (λ p q. p.0 ≢ q.0) p ps once) (AllPairs-rest (λ p q. p.0 ≢ q.0) p ps once) (once-insert_entry eq same ps key value (AllPairs-rest (λ p q. p.0 ≢ q.0) p ps once))
  where
    by : (x : Bool) → eq key p.0 ≡ x → All (λ q. p.0 ≢ q.0) ps → AllPairs (λ p q. p.0 ≢ q.0) ps → AllPairs (λ p q. p.0 ≢ q.0) (insert_entry eq ps key value)
        → AllPairs (λ p q. p.0 ≢ q.0) (cond x ((p.0, value) ∷ ps) (p ∷ insert_entry eq ps key value))
    by true is first rest later = AllPairs-cons (λ p q. p.0 ≢ q.0) (p.0, value) ps first rest
    by false is first rest later =
        AllPairs-cons (λ p q. p.0 ≢ q.0) p (insert_entry eq ps key value)
        (All-insert_entry eq (λ q. p.0 ≢ q.0) ps key value (λ q h. h) (λ e. true≢false (sym (same key) ∙ subst (λ (k : K). eq key k ≡ false) e is)) first) later

-- keyed pairs are so after an insert, if the new key and value pass their tests
pub AreKeyed-insert_entry : {K V : Type 0} (eq : K → K → Bool) (same : (k : K) → eq k k ≡ true) (IsKey : K → Type 0) (IsValue : V → Type 0) (pairs : List (K × V)) (key : K) (value : V)
    → IsKey key → IsValue value → AreKeyed IsKey IsValue pairs → AreKeyed IsKey IsValue (insert_entry eq pairs key value)
AreKeyed-insert_entry {K} {V} eq same IsKey IsValue pairs key value is_key is_value keyed = record {
  keys = All-insert_entry eq (λ (p : K × V). IsKey p.0) pairs key value (λ p h. h) is_key keyed.keys;
  values = All-insert_entry eq (λ (p : K × V). IsValue p.1) pairs key value (λ p h. is_value) is_value keyed.values;
  once = once-insert_entry eq same pairs key value keyed.once;
}

-- ---- what the tests are of a block with a period or none, and of a resource in a period with a limit or none

pub Fits-insert_entry : (block_count period_count : ℕ) (pairs : List (ℕ × Option ℕ)) (b : ℕ) (period : Option ℕ) → b < block_count → IfSome period (λ t. t < period_count)
    → Fits block_count period_count pairs → Fits block_count period_count (insert_entry nat_eq pairs b period)
Fits-insert_entry block_count period_count pairs b period below within =
    AreKeyed-insert_entry nat_eq (λ k. (Decides-eqb k k).1 refl) (λ (k : ℕ). k < block_count) (λ (v : Option ℕ). IfSome v (λ t. t < period_count)) pairs b period below within

-- one block after another is written with a period
pub Fits-with_each : (block_count period_count : ℕ) (pairs : List (ℕ × Option ℕ)) (blocks : List ℕ) (period : Option ℕ) → All (λ b. (b < block_count) × IfSome period (λ t. t < period_count)) blocks
    → Fits block_count period_count pairs → Fits block_count period_count (with_each nat_eq pairs blocks period)
Fits-with_each block_count period_count pairs [] period within fit = fit
Fits-with_each block_count period_count pairs (b ∷ blocks) period within fit =
    let here = All-head (λ (a : ℕ). (a < block_count) × IfSome period (λ t. t < period_count)) b blocks within in
    Fits-with_each block_count period_count (insert_entry nat_eq pairs b period) blocks period (All-tail (λ (a : ℕ). (a < block_count) × IfSome period (λ t. t < period_count)) b blocks within)
    (Fits-insert_entry block_count period_count pairs b period here.0 here.1 fit)

-- a block that isn't there goes last
pub Fits-further : (block_count period_count : ℕ) (pairs : List (ℕ × Option ℕ)) (b : ℕ) (period : Option ℕ) → b < block_count → IfSome period (λ t. t < period_count)
    → at_key nat_eq pairs b ≡ None → Fits block_count period_count pairs → Fits block_count period_count (pairs ++ (b, period) ∷ [])
Fits-further block_count period_count pairs b period below within absent fit =
    subst (Fits block_count period_count) (insert_entry-absent nat_eq pairs b period (ap is_some absent)) (Fits-insert_entry block_count period_count pairs b period below within fit)

pub Fits-with_read : (block_count period_count : ℕ) (pairs : List (ℕ × Option ℕ)) (b : ℕ) (period : Option ℕ) → b < block_count → IfSome period (λ t. t < period_count)
    → Fits block_count period_count pairs → Fits block_count period_count (with_read nat_eq pairs b period)
Fits-with_read block_count period_count pairs b period below within fit = by (is_some (at_key nat_eq pairs b)) refl
  where
    by : (x : Bool) → is_some (at_key nat_eq pairs b) ≡ x → Fits block_count period_count (cond x pairs (pairs ++ (b, period) ∷ []))
    by true found = fit
    by false absent =
        subst (Fits block_count period_count) (insert_entry-absent nat_eq pairs b period absent) (Fits-insert_entry block_count period_count pairs b period below within fit)

pub RevisionsFit-insert_entry : (resource_count period_count : ℕ) (revisions : List ((ℕ × ℕ) × Option ℤ)) (key : ℕ × ℕ) (upper : Option ℤ) → (key.0 < resource_count) × (key.1 < period_count)
    → RevisionsFit resource_count period_count revisions → RevisionsFit resource_count period_count (insert_entry pair_eq revisions key upper)
RevisionsFit-insert_entry resource_count period_count revisions key upper within =
    AreKeyed-insert_entry pair_eq (λ k. (Decides-pair_eq k k).1 refl) (λ (k : ℕ × ℕ). (k.0 < resource_count) × (k.1 < period_count)) (λ (v : Option ℤ). Unit {0}) revisions key upper within tt

-- what is so before a call and of what it makes is so after it, whatever is answered
pub kept_after : {X T E : Type 0} (P : X → Type 0) (result : Result T E) (old made new : X) → OnOk result (new ≡ made) → OnErr result (new ≡ old) → P old → P made → P new
kept_after P (Ok done) old made new ok err before after = subst P (sym ok) after
kept_after P (Err e) old made new ok err before after = subst P (sym err) before

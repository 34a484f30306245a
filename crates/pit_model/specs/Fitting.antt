-- Blocks with periods, as a transaction keeps them and as a schedule lists them, and revised limits.
use Rattle.std.specs.Prelude.{◌≢◌, ℕ, ◌<◌, ℤ, Bool, nat_eq, ◌&&◌, List, map, Option, Some, All, AllPairs, IfSome}
use Rattle.std.specs.List.Sorted.{IsStrictlyIncreasing}

-- keys, each with a value: each key and each value passes its test, and no key stands twice
pub record AreKeyed {K V : Type 0} (IsKey : K → Type 0) (IsValue : V → Type 0) (pairs : List (K × V)) : Type 0 where
  pub keys : All (λ p. IsKey p.0) pairs
  pub values : All (λ p. IsValue p.1) pairs
  pub once : AllPairs (λ p q. p.0 ≢ q.0) pairs

-- blocks, each with a period or none: both are in range, and no block stands twice
abbrev pub Fits : ℕ → ℕ → List (ℕ × Option ℕ) → Type 0
Fits block_count period_count pairs = AreKeyed (λ block. block < block_count) (λ period. IfSome period (λ t. t < period_count)) pairs

-- resources in periods, each with an upper limit or none: both are in range, and no resource stands twice in one period
abbrev pub RevisionsFit : ℕ → ℕ → List ((ℕ × ℕ) × Option ℤ) → Type 0
RevisionsFit resource_count period_count revisions = AreKeyed (λ key. (key.0 < resource_count) × (key.1 < period_count)) (λ upper. Unit {0}) revisions

-- whether two pairs of numbers are one
abbrev pub pair_eq : ℕ × ℕ → ℕ × ℕ → Bool
pair_eq p q = nat_eq p.0 q.0 && nat_eq p.1 q.1

-- blocks that rise, each with a period, all in range
pub record IsSchedule (block_count period_count : ℕ) (schedule : List (ℕ × ℕ)) : Type 0 where
  pub rising : IsStrictlyIncreasing (map (λ pair. pair.0) schedule)
  pub blocks : All (λ pair. pair.0 < block_count) schedule
  pub periods : All (λ pair. pair.1 < period_count) schedule

-- the same as writes
abbrev pub writes_of : List (ℕ × ℕ) → List (ℕ × Option ℕ)
writes_of schedule = map (λ pair. (pair.0, Some pair.1)) schedule

-- triples of a resource, a period and a limit as revisions
abbrev pub revisions_of : List (ℕ × ℕ × Option ℤ) → List ((ℕ × ℕ) × Option ℤ)
revisions_of triples = map (λ v. ((v.0, v.1), v.2)) triples

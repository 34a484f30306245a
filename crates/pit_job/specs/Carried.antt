-- What is carried along with a block, over a schedule.
use Rattle.std.specs.Prelude.{◌≡◌, ℕ, ◌≤◌, Bool, true, false, nat_eq, List, Option, Some, None, unwrap_or, ⊤}
use Rattle.std.specs.List.{All, Contains}
use Rattle.std.specs.List.Sorted.{IsStrictlyIncreasing}
use Rattle.pit_model.specs.Pit.{Pit}
use Rattle.pit_plan.specs.Schedule.{Commit, IsPred, in_order}
use Rattle.pit_keyed.specs.Keyed.{at_key}
use Rattle.pit_script.specs.declared.step.Way.{Way}
use Rattle.pit_script.specs.declared.step.Way.TheVariants as way
use Rattle.pit_job.specs.Effect.{is_carried, leads_to, members_of, seen, whole}

-- a schedule with the own writes laid over it
abbrev pub laid_over : (ℕ → Option ℕ) → Commit → ℕ → Option ℕ
laid_over schedule own b = unwrap_or (at_key nat_eq own.writes b) (schedule b)

-- the members, over a schedule with the own writes laid over it
abbrev pub members_over : Pit → Way → (ℕ → Option ℕ) → Commit → ℕ → ℕ → List ℕ
members_over pit how schedule own b t = members_of pit how (λ c. seen (whole schedule) own c) b t

-- The least set that has the block, where it is late, and each late predecessor of a member; or the same of what is early, and of successors.
pub record AreMembers (pit : Pit) (how : Way) (held : ℕ → Option ℕ) (b t : ℕ) (members : List ℕ) : Type 0 where
  pub rising : IsStrictlyIncreasing members
  pub each : All (λ m. is_carried how t (Some (held m)) ≡ true) members
  pub begins : is_carried how t (Some (held b)) ≡ true → Contains members b
  pub closed : (m a : ℕ) → Contains members m → Contains (leads_to pit how m) a → is_carried how t (Some (held a)) ≡ true → Contains members a
  pub least : (other : ℕ → Bool) → (is_carried how t (Some (held b)) ≡ true → other b ≡ true)
      → ((m a : ℕ) → other m ≡ true → Contains (leads_to pit how m) a → is_carried how t (Some (held a)) ≡ true → other a ≡ true)
      → All (λ m. other m ≡ true) members

-- in the period or before; or, of a push, in no period before it
abbrev pub IsPlaced : Way → ℕ → Option ℕ → Type 0
IsPlaced way.Cone t None = ⊥
IsPlaced way.Cone t (Some held) = held ≤ t
IsPlaced way.Push t None = ⊤
IsPlaced way.Push t (Some held) = t ≤ held

-- of a block and its predecessor, the one that the line puts
abbrev pub put_of : Way → ℕ → ℕ → ℕ
put_of way.Cone block before = block
put_of way.Push block before = before

-- No pair is out of order in the new schedule that wasn't in the old one, and none whose block (of a push: whose predecessor) is a member.
abbrev pub KeepsOrder : Pit → Way → (ℕ → Option ℕ) → (ℕ → Option ℕ) → List ℕ → Type 0
KeepsOrder pit how old new members = (block before : ℕ) → IsPred pit block before → in_order (new block) (new before) ≡ false
    → (in_order (old block) (old before) ≡ false) × (Contains members (put_of how block before) → ⊥)

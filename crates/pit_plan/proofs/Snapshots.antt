-- What a block holds after the first of some commits.
use Rattle.std.proofs.Common.{◌≡◌, ℕ, zero, suc, ◌+◌, ◌<◌, ◌≤◌, Bool, true, false, List, [], ◌∷◌, take, Option, Some, None, refl, ap, subst, ◌∙◌, arith}
use Rattle.std.specs.Prelude.{is_some, unwrap_or, if◌then◌else◌, nat_eq, fold, All, IfSome}
use Rattle.std.proofs.lemmas.List.Elements.{All-head, All-tail}
use Rattle.std.proofs.lemmas.Map.Entries.{All-lookup}
use Rattle.pit_model.specs.Fitting.{Fits}
use Rattle.pit_plan.specs.Schedule.{Commit, write_of, held_period, last_number, last_number_after}

-- what it holds after the commits where it held this before
abbrev held_from : Option ℕ → List Commit → ℕ → Option ℕ
held_from before commits b = fold (λ x commit. unwrap_or (write_of commit b) x) before commits

-- ---- what it held at the start, it holds until a later commit names it

-- numbers only rise
found-le : (b n found : ℕ) (cs : List Commit) → found ≤ n → found ≤ last_number_after n found cs b
found-le b n found [] below = omega arith
found-le b n found (c ∷ cs) below = by (is_some (write_of c b)) (found-le b (n + 1) (n + 1) cs (omega arith)) (found-le b (n + 1) found cs (omega (arith, below)))
  where
    by : (named : Bool) → n + 1 ≤ last_number_after (n + 1) (n + 1) cs b → found ≤ last_number_after (n + 1) found cs b
        → found ≤ last_number_after (n + 1) (if named then n + 1 else found) cs b
    by true now before = omega (arith, now, below)
    by false now before = before

-- where the last number is not past n, no commit past n names the block
held_from-same : (b n m found : ℕ) (before : Option ℕ) (cs : List Commit) → found ≤ n → m ≤ n → last_number_after n found cs b ≤ m → held_from before cs b ≡ before
held_from-same b n m found before [] below within last = refl
held_from-same b n m found before (c ∷ cs) below within last = by (write_of c b) refl (held_from-same b (n + 1) m found before cs (omega (arith, below)) (omega (arith, within)))
  where
    by : (said : Option (Option ℕ)) → write_of c b ≡ said → (last_number_after (n + 1) found cs b ≤ m → held_from before cs b ≡ before)
        → held_from (unwrap_or (write_of c b) before) cs b ≡ before
    by None is later =
        let old : last_number_after (n + 1) found cs b ≤ m = subst (λ (x : Option (Option ℕ)). last_number_after (n + 1) (if is_some x then n + 1 else found) cs b ≤ m) is last in
        ap (λ (x : Option (Option ℕ)). held_from (unwrap_or x before) cs b) is ∙ later old
    by (Some t) is later =
        let new : last_number_after (n + 1) (n + 1) cs b ≤ m = subst (λ (x : Option (Option ℕ)). last_number_after (n + 1) (if is_some x then n + 1 else found) cs b ≤ m) is last in
        absurd (omega (arith, new, within, found-le b (n + 1) (n + 1) cs (omega arith)))

held_from-take : (b n k found : ℕ) (before : Option ℕ) (cs : List Commit) → found ≤ n → last_number_after n found cs b ≤ n + k → held_from before cs b ≡ held_from before (take k cs) b
held_from-take b n zero found before cs below last = held_from-same b n n found before cs below (omega arith) (omega (arith, last))
held_from-take b n (suc k) found before [] below last = refl
held_from-take b n (suc k) found before (c ∷ cs) below last =
    held_from-take b (n + 1) k (if is_some (write_of c b) then n + 1 else found) (unwrap_or (write_of c b) before) cs (by (is_some (write_of c b))) (omega (arith, last))
  where
    by : (named : Bool) → (if named then n + 1 else found) ≤ n + 1
    by true = omega arith
    by false = omega (arith, below)

-- a block whose last commit isn't past the start holds what it held then
pub one_snapshot : (commits : List Commit) (b start : ℕ) → last_number commits b ≤ start → held_period commits b ≡ held_period (take start commits) b
unfolding held_period last_number
one_snapshot commits b start last = held_from-take b 0 start 0 None commits (omega arith) (omega (arith, last))

-- ---- it is in range where the commits fit

said-in_range : (periods : ℕ) (said : Option (Option ℕ)) (before : Option ℕ) → IfSome said (λ period. IfSome period (λ t. t < periods)) → IfSome before (λ t. t < periods)
    → IfSome (unwrap_or said before) (λ t. t < periods)
said-in_range periods None before given held = held
said-in_range periods (Some period) before given held = given

held_from-in_range : (blocks periods b : ℕ) (before : Option ℕ) (cs : List Commit) → IfSome before (λ t. t < periods) → All (λ commit. Fits blocks periods commit.writes) cs
    → IfSome (held_from before cs b) (λ t. t < periods)
held_from-in_range blocks periods b before [] held all = held
held_from-in_range blocks periods b before (c ∷ cs) held all =
    let fits : Fits blocks periods c.writes = All-head (λ (commit : Commit). Fits blocks periods commit.writes) c cs all in
    held_from-in_range blocks periods b (unwrap_or (write_of c b) before) cs
    (said-in_range periods (write_of c b) before (All-lookup (λ period. IfSome period (λ t. t < periods)) (nat_eq b) c.writes fits.values) held)
    (All-tail (λ (commit : Commit). Fits blocks periods commit.writes) c cs all)

pub held_in_range : (blocks periods : ℕ) (commits : List Commit) (b : ℕ) → All (λ commit. Fits blocks periods commit.writes) commits → IfSome (held_period commits b) (λ t. t < periods)
unfolding held_period
held_in_range blocks periods commits b all = held_from-in_range blocks periods b None commits tt all

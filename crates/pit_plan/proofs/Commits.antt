-- What one more commit changes.
use Rattle.std.proofs.Common.{◌≡◌, ℕ, ◌+◌, cond, List, [], ◌∷◌, ◌++◌, length, None, refl, ap, ◌∙◌, arith}
use Rattle.std.specs.Prelude.{is_some, unwrap_or}
use Rattle.std.proofs.lemmas.List.Sums.{fold_push}
use Rattle.pit_model.specs.Pit.{Pit, upper_of}
use Rattle.pit_plan.specs.Schedule.{Commit, write_of, revision_of, held_period, last_number, last_number_after, limit_of}

pub held_period-nil : (b : ℕ) → held_period [] b ≡ None
unfolding held_period
held_period-nil b = refl

pub last_number-nil : (b : ℕ) → last_number [] b ≡ 0
unfolding last_number
last_number-nil b = refl

pub limit_of-nil : (pit : Pit) (r t : ℕ) → limit_of pit [] r t ≡ upper_of pit r t
unfolding limit_of
limit_of-nil pit r t = refl

-- a limit is what the last commit says, or as before
pub limit_of-push : (pit : Pit) (commits : List Commit) (w : Commit) (r t : ℕ) → limit_of pit (commits ++ w ∷ []) r t ≡ unwrap_or (revision_of w r t) (limit_of pit commits r t)
unfolding limit_of
limit_of-push pit commits w r t = fold_push (λ before commit. unwrap_or (revision_of commit r t) before) (upper_of pit r t) commits w

-- a block is held as the last commit says, or as before
pub held_period-push : (commits : List Commit) (w : Commit) (b : ℕ) → held_period (commits ++ w ∷ []) b ≡ unwrap_or (write_of w b) (held_period commits b)
unfolding held_period
held_period-push commits w b = fold_push (λ before commit. unwrap_or (write_of commit b) before) None commits w

last_number_after-push : (n found : ℕ) (commits : List Commit) (w : Commit) (b : ℕ)
    → last_number_after n found (commits ++ w ∷ []) b ≡ cond (is_some (write_of w b)) (n + length commits + 1) (last_number_after n found commits b)
last_number_after-push n found [] w b = ap (λ k. cond (is_some (write_of w b)) k found) (omega arith)
last_number_after-push n found (c ∷ cs) w b =
    last_number_after-push (n + 1) (cond (is_some (write_of c b)) (n + 1) found) cs w b
    ∙ ap (λ k. cond (is_some (write_of w b)) k (last_number_after (n + 1) (cond (is_some (write_of c b)) (n + 1) found) cs b)) (omega arith)

-- its last commit is the one that is added, if that names it, or the one before
pub last_number-push : (commits : List Commit) (w : Commit) (b : ℕ) → last_number (commits ++ w ∷ []) b ≡ cond (is_some (write_of w b)) (length commits + 1) (last_number commits b)
unfolding last_number
last_number-push commits w b = last_number_after-push 0 0 commits w b ∙ ap (λ k. cond (is_some (write_of w b)) k (last_number_after 0 0 commits b)) (omega arith)

-- The lines of conflicts.
use Rattle.std.proofs.Common.{◌≡◌, ◌≢◌, ℕ, ◌<◌, ◌≤◌, Bool, true, false, cond, List, [], ◌∷◌, ◌++◌, length, take, Option, Some, Result, Ok, Err, IsOk, OnOk, refl, sym, ap, ap₂, subst, ◌∙◌}
use Rattle.std.specs.Prelude.{All, flat_map}
use Rattle.std.proofs.lemmas.Bool.{false≢true}
use Rattle.std.proofs.lemmas.List.Elements.{All-head, All-tail, All-take, All-weaker}
use Rattle.pit_model.specs.Pit.{Pit}
use Rattle.pit_plan.specs.Schedule.{last_number}
use Rattle.pit_desk.specs.History.{Answered, commits_of}
use Rattle.pit_desk.specs.declared.reply.EntryReply.{EntryReply}
use Rattle.pit_edit.specs.declared.conflicts.TheConstants.{CONFLICTS_SHOWN}
use Rattle.pit_edit.specs.Changes.{Edit, late_of, kept_of}
use Rattle.pit_edit.specs.Calls.{IsEntered}
use Rattle.pit_edit.specs.EditText.{conflict_line, conflict_at, conflicts_text, more_text, was_moved, reported_of}
use Rattle.pit_edit.proofs.Late.{moved-late}

flat_map-same : (f g : ℕ → List ℕ) (xs : List ℕ) → All (λ x. f x ≡ g x) xs → flat_map f xs ≡ flat_map g xs
flat_map-same f g [] same = refl
flat_map-same f g (x ∷ xs) same =
    ap (λ (ys : List ℕ). ys ++ flat_map f xs) (All-head (λ (y : ℕ). f y ≡ g y) x xs same)
    ∙ ap (λ (ys : List ℕ). g x ++ ys) (flat_map-same f g xs (All-tail (λ (y : ℕ). f y ≡ g y) x xs same))

-- where the same is held, and the same entries are the last writers
pub conflicts-same : (n : ℕ) (edit : Edit) (held other writer maker : ℕ → Option ℕ) (blocks : List ℕ) → All (λ b. b < n) blocks → ((b : ℕ) → b < n → held b ≡ other b)
    → ((b : ℕ) → b < n → writer b ≡ maker b) → conflicts_text edit held writer blocks ≡ conflicts_text edit other maker blocks
conflicts-same n edit held other writer maker blocks known same also =
    ap (λ (text : List ℕ). text ++ more_text (length blocks))
    (flat_map-same (conflict_at edit held writer) (conflict_at edit other maker) (take CONFLICTS_SHOWN blocks)
    (All-weaker (λ b. b < n) (λ b. conflict_at edit held writer b ≡ conflict_at edit other maker b)
    (λ b below. ap₂ (λ (p q : Option ℕ). conflict_line edit b p q) (same b below) (also b below))
    (take CONFLICTS_SHOWN blocks) (All-take (λ b. b < n) CONFLICTS_SHOWN blocks known)))

-- what holds where a result is one
pub given-ok : {X Y P : Type 0} (result : Result X Y) → IsOk result → OnOk result P → P
given-ok (Ok x) is p = p
given-ok (Err e) is p = absurd (false≢true is)

-- ---- all late changes are reported, or there are none

either-way : (b : Bool) → ◌≡◌ {A = List ℕ} (cond b [] []) []
either-way true = refl
either-way false = refl

reported-if : (moved : Bool) (late : List ℕ) → (late ≢ [] → moved ≡ true) → cond moved late [] ≡ late
reported-if true late is = refl
reported-if false [] is = refl
reported-if false (b ∷ late) is = absurd (false≢true (is (λ none. cc none)))

reported-by : (pit : Pit) (before : List Answered) (edit : Edit) (changes : List ℕ) (after : List Answered) (reply : Option EntryReply) → edit.start ≤ length (commits_of before)
    → IsEntered pit before edit changes after reply
    → let late = late_of edit.start (last_number (commits_of before)) changes in reported_of false reply late ≡ late
reported-by pit before edit [] after reply seen entered = either-way (was_moved reply)
reported-by pit before edit (b ∷ changes) after reply seen entered =
    let late = late_of edit.start (last_number (commits_of before)) (b ∷ changes) in
    subst (λ (r : Option EntryReply). reported_of false r late ≡ late) (sym entered.reply_is)
    (reported-if (was_moved (Some entered.due)) late (moved-late (commits_of before) edit (b ∷ changes) pit entered.due seen entered.is_due).1)

pub reported-late : (is_partial : Bool) (pit : Pit) (before : List Answered) (edit : Edit) (changes : List ℕ) (after : List Answered) (reply : Option EntryReply) → edit.start ≤ length (commits_of before)
    → IsEntered pit before edit (kept_of is_partial edit.start (last_number (commits_of before)) changes) after reply
    → let late = late_of edit.start (last_number (commits_of before)) changes in reported_of is_partial reply late ≡ late
reported-late true pit before edit changes after reply seen entered = refl
reported-late false pit before edit changes after reply seen entered = reported-by pit before edit changes after reply seen entered

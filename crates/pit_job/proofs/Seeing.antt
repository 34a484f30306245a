-- What a planner has seen only grows.
use Rattle.std.proofs.Common.{◌≡◌, ℕ, ◌<◌, ◌≤◌, nat_lt, true, List, [], ◌∷◌, ◌++◌, length, Option, Some, refl, sym, ap, subst, ◌∙◌, arith, append-nil, append_assoc, length-append}
use Rattle.std.specs.Prelude.{Contains}
use mathlib.Core.List.{IsPrefix}
use Rattle.pit_model.specs.Pit.{Pit}
use Rattle.pit_plan.specs.Schedule.{Commit, last_number}
use Rattle.pit_desk.specs.History.{Answered, Call, commits_of}
use Rattle.pit_desk.specs.Replies.{IsReply, is_moved}
use Rattle.pit_desk.specs.Least.{IsLeastIn}
use Rattle.pit_desk.specs.declared.reply.Refusal.TheVariants as refusal
use Rattle.pit_desk.specs.declared.reply.EntryReply.{EntryReply}
use Rattle.pit_desk.specs.declared.reply.EntryReply.TheVariants as reply
use Rattle.pit_desk.proofs.CallerLemmas.{commits_of-prefix}
use Rattle.pit_share.specs.Planners.{PlannerState, SeesOn}
use Rattle.pit_share.specs.Endings.{IsAnswered}
use Rattle.pit_job.specs.Outcomes.{IsMovedBlock}

-- ---- lists

pub prefix-refl : (xs : List Answered) → IsPrefix xs xs
prefix-refl xs = ([], append-nil xs)

pub prefix-trans : (xs ys zs : List Answered) → IsPrefix xs ys → IsPrefix ys zs → IsPrefix xs zs
prefix-trans xs ys zs p q = (p.0 ++ q.0, sym (append_assoc xs p.0 q.0) ∙ (ap (λ (es : List Answered). es ++ q.0) p.1 ∙ q.1))

pub commits-fewer : (xs ys : List Answered) → IsPrefix xs ys → length (commits_of xs) ≤ length (commits_of ys)
commits-fewer xs ys p = let q = commits_of-prefix xs ys p in omega (arith, ap length q.1, length-append (commits_of xs) q.0)

-- ---- planners

pub sees-same : (old new : PlannerState) → new ≡ old → SeesOn old new
sees-same old new same = record {
  number = ap (λ (p : PlannerState). p.number) same;
  items = ap (λ (p : PlannerState). p.items) same;
  seen = subst (IsPrefix old.seen) (sym (ap (λ (p : PlannerState). p.seen) same)) (prefix-refl old.seen);
}

pub sees-trans : (a b c : PlannerState) → SeesOn a b → SeesOn b c → SeesOn a c
sees-trans a b c f g = record { number = g.number ∙ f.number; items = g.items ∙ f.items; seen = prefix-trans a.seen b.seen c.seen f.seen g.seen }

-- ---- blocks that moved

pub moved-on : (seen more : List Answered) (start block version : ℕ) → IsPrefix seen more → IsMovedBlock seen start block version → IsMovedBlock more start block version
moved-on seen more start block version on moved =
    record { prefix = moved.prefix; begins = prefix-trans moved.prefix seen more moved.begins on; last = moved.last; past = moved.past }

pub past-start : (commits : List Commit) (start b : ℕ) → nat_lt start (last_number commits b) ≡ true → start < last_number commits b
past-start commits start b is = grind (arith, is)

least-past : (commits : List Commit) (start block : ℕ) (reads : List (ℕ × Option ℕ)) → IsLeastIn (is_moved commits start) reads (Some block) → start < last_number commits block
least-past commits start block reads least =
    let found = least.passes in
    subst (λ (b : ℕ). start < last_number commits b) found.block_is (past-start commits start found.pair.0 found.passes)

-- a reply Moved names a block that the call read
pub answered-noted : (pit : Pit) (call : Call) (answer : EntryReply) (old seen : List Answered) (block version : ℕ) → IsAnswered pit call answer old seen
    → answer ≡ reply.Refused (refusal.Moved block version) → (read : ℕ × Option ℕ) × Contains call.reads read × (read.0 ≡ block)
answered-noted pit call answer old seen block version is moved =
    let due = subst (λ (r : EntryReply). IsReply pit (commits_of is.before) call r) moved is.due in
    let found = due.1.1.passes in
    (found.pair, found.among, found.block_is)

-- and one that moved
pub answered-moved : (pit : Pit) (call : Call) (answer : EntryReply) (old seen : List Answered) (block version : ℕ) → IsAnswered pit call answer old seen
    → answer ≡ reply.Refused (refusal.Moved block version) → IsMovedBlock seen call.start block version
answered-moved pit call answer old seen block version is moved =
    let due = subst (λ (r : EntryReply). IsReply pit (commits_of is.before) call r) moved is.due in
    let e : Answered = record { call = call; reply = answer } in
    record {
      prefix = is.before;
      begins = prefix-trans is.before (is.before ++ e ∷ []) seen (e ∷ [], refl) is.stands;
      last = due.1.2;
      past = subst (λ (v : ℕ). call.start < v) (sym due.1.2) (least-past (commits_of is.before) call.start block call.reads due.1.1);
    }

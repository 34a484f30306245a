-- For the crates above: an edit was made from no more commits than there are, and no more are shown; what it was made from is one, and so are the periods
-- that commits leave.
use Rattle.std.proofs.Common.{◌≡◌, ℕ, ◌≤◌, Bool, true, false, List, ◌++◌, length, length-append, Option, Some, None, ap, arith}
use Rattle.pit_desk.specs.History.{Answered, commits_of}
use Rattle.pit_state.proofs.CallerLemmas.{commits_of-append}
use Rattle.pit_base.specs.Bases.{IsHistoryBase, IsMarkedBase, IsPlainBase, IsBaseBy, IsSolutionBase}
pub use Rattle.pit_base.proofs.Again.{shown-enough}
pub use Rattle.pit_base.proofs.OneBase.{one-history_base, history_base-apart, one-solution_base, solution_base-apart, one-solution_fault, one-left}

front-few : (ours front rest : List Answered) → ours ≡ front ++ rest → length (commits_of front) ≤ length (commits_of ours)
front-few ours front rest cut =
    let all = ap (λ (h : List Answered). length (commits_of h)) cut in
    let parts = ap length (commits_of-append front rest) in
    omega (arith, all, parts, length-append (commits_of front) (commits_of rest))

pub history-there : (ours theirs : List Answered) (count : ℕ) → IsHistoryBase ours theirs count → count ≤ length (commits_of ours)
history-there ours theirs count is = omega (arith, is.count_is, front-few ours is.front is.is_front.rest is.is_front.ours_is)

marked-there : (ours : List Answered) (mark : ℕ × List ℕ) (count : ℕ) → IsMarkedBase ours mark count → count ≤ length (commits_of ours)
marked-there ours mark count is = omega (arith, is.is_front.has, front-few ours is.front is.is_front.rest is.is_front.cut)

plain-there : (ours : List Answered) (is_resumed : Bool) (from : Option ℕ) (count : ℕ) → IsPlainBase ours is_resumed from count → count ≤ length (commits_of ours)
plain-there ours is_resumed (Some asked) count is = omega (arith, is.0, is.1)
plain-there ours false None count is = omega (arith, is)
plain-there ours true None count is = absurd is

by-there : (ours : List Answered) (is_resumed : Bool) (from : Option ℕ) (mark : Option (ℕ × List ℕ)) (count : ℕ) → IsBaseBy ours is_resumed from mark count → count ≤ length (commits_of ours)
by-there ours is_resumed from (Some mark) count is = marked-there ours mark count is
by-there ours is_resumed from None count is = plain-there ours is_resumed from count is

pub solution-there : (ours : List Answered) (is_resumed : Bool) (from : Option ℕ) (text : List ℕ) (count : ℕ) → IsSolutionBase ours is_resumed from text count → count ≤ length (commits_of ours)
solution-there ours is_resumed from text count is = by-there ours is_resumed from is.mark count is.base

-- What an edit was made from is one, or it isn't known for one cause, out of memory aside.
use Rattle.std.proofs.Common.{◌≡◌, ◌≢◌, ℕ, ◌<◌, ◌≤◌, Bool, true, false, List, [], ◌∷◌, ◌++◌, length, length-drop, take, drop, decimal, codes, Option, Some, None, inl, inr, refl, sym, ap, subst, ◌∙◌, arith}
use Rattle.std.proofs.lemmas.Bool.{cases_order}
use Rattle.std.proofs.lemmas.Fmt.{decimal_injective}
use Rattle.std.proofs.lemmas.List.{append_cancel_left, drop_at, drop-append-le, ext_get_or}
use Rattle.std.proofs.Math.Seq.{take-append_seam}
use Rattle.pit_plan.specs.Schedule.{Commit}
use Rattle.pit_desk.specs.History.{Answered, commits_of}
use Rattle.pit_base.specs.Bases.{IsCommonFront, ReviseNone, ReviseSome, IsHistoryBase, IsRevising, IsMarkedBase, IsPlainBase, IsBaseBy, IsSolutionBase, IsPlainFault, IsMarkedFault, IsFaultBy, IsSolutionBaseFault}
use Rattle.pit_base.specs.Held.{AreLeft}
use Rattle.pit_base.specs.Marks.{IsMark, IsMarkOf}
use Rattle.pit_base.specs.declared.error.BaseFault.{BaseFault}
use Rattle.pit_base.specs.declared.error.BaseFault.TheVariants.{AnotherHistory, BaseMissing, FewCommits, NoMemory}
use Rattle.pit_base.proofs.Marks.{space-at, number-is, behind-is}

-- ---- the entries that two histories begin with

-- what stands behind them, by a front that is no shorter
behind : {X : Type 0} (xs front rest other more : List X) → xs ≡ front ++ rest → xs ≡ other ++ more → length front ≤ length other → rest ≡ drop (length front) other ++ more
behind {X} xs front rest other more p q within =
    sym (drop_at front rest (length front) refl) ∙ (ap (λ (h : List X). drop (length front) h) (sym p ∙ q) ∙ drop-append-le (length front) other more within)

-- they go no further than these
never-further : (ours theirs front : List Answered) (p : IsCommonFront ours theirs front) (between rest other : List Answered) → 0 < length between → p.rest ≡ between ++ rest → p.other ≡ between ++ other → ⊥
never-further ours theirs front p [] rest other some one two = omega (arith, some)
never-further ours theirs front p (e ∷ between) rest other some one two = p.apart e (between ++ rest) (between ++ other) one two

none-longer : (ours theirs front other : List Answered) → IsCommonFront ours theirs front → IsCommonFront ours theirs other → length front < length other → ⊥
none-longer ours theirs front other p q less =
    never-further ours theirs front p (drop (length front) other) q.rest q.other (omega (arith, less, length-drop (length front) other))
    (behind ours front p.rest other q.rest p.ours_is q.ours_is (omega (arith, less)))
    (behind theirs front p.other other q.other p.theirs_is q.theirs_is (omega (arith, less)))

pub one-common : (ours theirs front other : List Answered) → IsCommonFront ours theirs front → IsCommonFront ours theirs other → front ≡ other
one-common ours theirs front other p q =
    elim (cases_order (length front) (length other)) [
      | inl same ↦
          sym (take-append_seam front p.rest)
          ∙ (ap (λ (n : ℕ). take n (front ++ p.rest)) same ∙ (ap (λ (h : List Answered). take (length other) h) (sym p.ours_is ∙ q.ours_is) ∙ take-append_seam other q.rest))
      | inr apart ↦ elim apart [ inl less ↦ absurd (none-longer ours theirs front other p q less) | inr more ↦ absurd (none-longer ours theirs other front q p more) ]
    ]

-- ---- a history

same-count : (ours theirs front other : List Answered) → IsCommonFront ours theirs front → IsCommonFront ours theirs other → length (commits_of front) ≡ length (commits_of other)
same-count ours theirs front other p q = ap (λ (h : List Answered). length (commits_of h)) (one-common ours theirs front other p q)

pub one-history_base : (ours theirs : List Answered) (count other : ℕ) → IsHistoryBase ours theirs count → IsHistoryBase ours theirs other → count ≡ other
one-history_base ours theirs count other p q = p.count_is ∙ (same-count ours theirs p.front q.front p.is_front q.is_front ∙ sym q.count_is)

none-or-some : (commits : List Commit) → ReviseNone commits → ReviseSome commits → ⊥
none-or-some commits none some = some.4 (subst (λ (commit : Commit). commit.revises ≡ []) some.3 (none some.0 some.1 some.2))

pub history_base-apart : (ours theirs : List Answered) (count : ℕ) → IsHistoryBase ours theirs count → IsRevising ours theirs → ⊥
history_base-apart ours theirs count p q =
    none-or-some (drop (length (commits_of q.front)) (commits_of theirs))
    (subst (λ (n : ℕ). ReviseNone (drop n (commits_of theirs))) (p.count_is ∙ same-count ours theirs p.front q.front p.is_front q.is_front) p.later) q.later

-- ---- the first line of a solution

abbrev numbered : ℕ × List ℕ → List ℕ
numbered mark = decimal mark.0 ++ (codes " sum " ++ mark.1)

one-mark : (text : List ℕ) (mark other : ℕ × List ℕ) → IsMark text mark → IsMark text other → mark ≡ other
one-mark text mark other p q =
    let line : List ℕ = numbered mark in
    let same : line ≡ numbered other = append_cancel_left (codes "% commits ") line (numbered other) (sym p.line ∙ q.line) in
    let at : ℕ = length (decimal mark.0) in
    let found = sym (space-at line mark.0 mark.1 p.few refl) in
    let number : mark.0 ≡ other.0
    = decimal_injective mark.0 other.0 (omega (arith, p.few)) (omega (arith, q.few)) (sym (number-is line mark.0 mark.1 p.few refl at found) ∙ number-is line other.0 other.1 q.few same at found) in
    let digits : mark.1 ≡ other.1
    = append_cancel_left (codes " sum ") mark.1 other.1 (sym (behind-is line mark.0 mark.1 p.few refl at found) ∙ behind-is line other.0 other.1 q.few same at found) in
    ap (λ (n : ℕ). (n, mark.1)) number ∙ ap (λ (ds : List ℕ). (other.0, ds)) digits

one-mark_of : (text : List ℕ) (mark other : Option (ℕ × List ℕ)) → IsMarkOf text mark → IsMarkOf text other → mark ≡ other
one-mark_of text (Some mark) (Some other) p q = ap (λ (m : ℕ × List ℕ). Some m) (one-mark text mark other p q)
one-mark_of text (Some mark) None p q = absurd (q mark p)
one-mark_of text None (Some other) p q = absurd (p other q)
one-mark_of text None None p q = refl

-- ---- a solution

module _ (ours : List Answered) where
  plain-once : (is_resumed : Bool) (from : Option ℕ) (count other : ℕ) → IsPlainBase ours is_resumed from count → IsPlainBase ours is_resumed from other → count ≡ other
  plain-once is_resumed (Some asked) count other p q = p.0 ∙ sym q.0
  plain-once false None count other p q = p ∙ sym q
  plain-once true None count other p q = absurd p

  plain-apart : (is_resumed : Bool) (from : Option ℕ) (count : ℕ) (fault : BaseFault) → IsPlainBase ours is_resumed from count → IsPlainFault ours is_resumed from fault → ⊥
  plain-apart is_resumed (Some asked) count (FewCommits commits) p q = omega (arith, p.1, q.1)
  plain-apart is_resumed (Some asked) count other p q = q
  plain-apart false None count other p q = q
  plain-apart true None count other p q = p

  plain-faults : (is_resumed : Bool) (from : Option ℕ) (fault other : BaseFault) → IsPlainFault ours is_resumed from fault → IsPlainFault ours is_resumed from other → fault ≡ other
  plain-faults is_resumed (Some asked) (FewCommits commits) (FewCommits others) p q = ap (λ (n : ℕ). FewCommits n) (p.0 ∙ sym q.0)
  plain-faults is_resumed (Some asked) (FewCommits commits) other p q = absurd q
  plain-faults is_resumed (Some asked) fault other p q = absurd p
  plain-faults true None BaseMissing BaseMissing p q = refl
  plain-faults true None BaseMissing other p q = absurd q
  plain-faults true None fault other p q = absurd p
  plain-faults false None fault other p q = absurd p

  marked-apart : (mark : ℕ × List ℕ) (count : ℕ) (fault : BaseFault) → fault ≢ NoMemory → IsMarkedBase ours mark count → IsMarkedFault ours mark fault → ⊥
  marked-apart mark count AnotherHistory some p q = q count p
  marked-apart mark count NoMemory some p q = some refl
  marked-apart mark count other some p q = q

  marked-faults : (mark : ℕ × List ℕ) (fault other : BaseFault) → fault ≢ NoMemory → other ≢ NoMemory → IsMarkedFault ours mark fault → IsMarkedFault ours mark other → fault ≡ other
  marked-faults mark AnotherHistory AnotherHistory some also p q = refl
  marked-faults mark AnotherHistory NoMemory some also p q = absurd (also refl)
  marked-faults mark AnotherHistory other some also p q = absurd q
  marked-faults mark NoMemory other some also p q = absurd (some refl)
  marked-faults mark fault other some also p q = absurd p

  module _ (is_resumed : Bool) (from : Option ℕ) where
    by-once : (mark : Option (ℕ × List ℕ)) (count other : ℕ) → IsBaseBy ours is_resumed from mark count → IsBaseBy ours is_resumed from mark other → count ≡ other
    by-once (Some mark) count other p q = p.count_is ∙ sym q.count_is
    by-once None count other p q = plain-once is_resumed from count other p q

    by-apart : (mark : Option (ℕ × List ℕ)) (count : ℕ) (fault : BaseFault) → fault ≢ NoMemory → IsBaseBy ours is_resumed from mark count → IsFaultBy ours is_resumed from mark fault → ⊥
    by-apart (Some mark) count fault some p q = marked-apart mark count fault some p q
    by-apart None count fault some p q = plain-apart is_resumed from count fault p q

    by-faults : (mark : Option (ℕ × List ℕ)) (fault other : BaseFault) → fault ≢ NoMemory → other ≢ NoMemory → IsFaultBy ours is_resumed from mark fault → IsFaultBy ours is_resumed from mark other → fault ≡ other
    by-faults (Some mark) fault other some also p q = marked-faults mark fault other some also p q
    by-faults None fault other some also p q = plain-faults is_resumed from fault other p q

    module _ (text : List ℕ) where
      pub one-solution_base : (count other : ℕ) → IsSolutionBase ours is_resumed from text count → IsSolutionBase ours is_resumed from text other → count ≡ other
      one-solution_base count other p q =
          by-once q.mark count other (subst (λ (m : Option (ℕ × List ℕ)). IsBaseBy ours is_resumed from m count) (one-mark_of text p.mark q.mark p.is_mark q.is_mark) p.base) q.base

      pub solution_base-apart : (count : ℕ) (fault : BaseFault) → fault ≢ NoMemory → IsSolutionBase ours is_resumed from text count → IsSolutionBaseFault ours is_resumed from text fault → ⊥
      solution_base-apart count fault some p q =
          by-apart q.mark count fault some (subst (λ (m : Option (ℕ × List ℕ)). IsBaseBy ours is_resumed from m count) (one-mark_of text p.mark q.mark p.is_mark q.is_mark) p.base) q.fails

      pub one-solution_fault : (fault other : BaseFault) → fault ≢ NoMemory → other ≢ NoMemory → IsSolutionBaseFault ours is_resumed from text fault → IsSolutionBaseFault ours is_resumed from text other → fault ≡ other
      one-solution_fault fault other some also p q =
          by-faults q.mark fault other some also (subst (λ (m : Option (ℕ × List ℕ)). IsFaultBy ours is_resumed from m fault) (one-mark_of text p.mark q.mark p.is_mark q.is_mark) p.fails) q.fails

-- ---- the periods

pub one-left : (blocks : ℕ) (commits : List Commit) (periods other : List (Option ℕ)) → AreLeft blocks commits periods → AreLeft blocks commits other → periods ≡ other
one-left blocks commits periods other p q =
    ext_get_or None periods other (p.count ∙ sym q.count) (λ b below. p.each b (omega (arith, below, p.count)) ∙ sym (q.each b (omega (arith, below, p.count))))

-- How many commits an edit was made from, by what was found.
use Rattle.std.proofs.Common.{◌≡◌, ℕ, ◌<◌, Bool, List, length, length-append, take, drop, Option, Some, None, Result, MatchResult, refl, sym, ap, subst, ◌∙◌, arith}
use Rattle.std.proofs.lemmas.Result.{MatchResult-weaker}
use Rattle.hex.specs.Hex.{encode_lower}
use Rattle.pit_desk.specs.History.{Answered, commits_of}
use Rattle.pit_state.proofs.CallerLemmas.{commits_of-append}
use Rattle.pit_show.specs.Fronts.{IsFront}
use Rattle.pit_show.specs.ShowText.{sum_of}
use Rattle.pit_show.proofs.CallerLemmas.{one-front}
use Rattle.pit_base.specs.Marks.{IsMark, IsMarkOf}
use Rattle.pit_base.specs.Bases.{IsCommonFront, ReviseNone, ReviseSome, IsHistoryBase, IsRevising, IsMarkedBase, IsPlainBase, IsPlainFault, IsMarkedFault, IsSolutionBase, IsSolutionBaseFault}
use Rattle.pit_base.specs.declared.error.BaseFault.{BaseFault}
use Rattle.pit_base.proofs.Shared.{commits-behind}

-- ---- a history

module _ (ours theirs : List Answered) (len : ℕ) (front : IsCommonFront ours theirs (take len theirs)) where
  pub shared-base : (count : ℕ) → count ≡ length (commits_of (take len theirs)) → ReviseNone (commits_of (drop len theirs)) → IsHistoryBase ours theirs count
  shared-base count is none = record {
    front = take len theirs;
    is_front = front;
    count_is = is;
    later = subst (λ (n : ℕ). ReviseNone (drop n (commits_of theirs))) (sym is) (subst ReviseNone (sym (commits-behind theirs len)) none);
  }

  pub later-revises : ReviseSome (commits_of (drop len theirs)) → IsRevising ours theirs
  later-revises some = record { front = take len theirs; is_front = front; later = subst ReviseSome (sym (commits-behind theirs len)) some }

-- ---- a solution whose first line says it

module _ (ours : List Answered) (commits : ℕ) (digits : List ℕ) where
  pub too-many : (count : ℕ) → length (commits_of ours) < commits → IsMarkedBase ours (commits, digits) count → ⊥
  too-many count fewer base =
      let all = ap (λ (h : List Answered). length (commits_of h)) base.is_front.cut in
      let parts = ap length (commits_of-append base.front base.is_front.rest) in
      omega (arith, fewer, base.count_is, base.is_front.has, all, parts, length-append (commits_of base.front) (commits_of base.is_front.rest))

  pub has-sum : (front : List Answered) → IsFront ours commits front → digits ≡ encode_lower (sum_of front) → IsMarkedBase ours (commits, digits) commits
  has-sum front is sum = record { count_is = refl; front = front; is_front = is; sum = sum }

  pub other-sum : (front : List Answered) (count : ℕ) → IsFront ours commits front → (digits ≡ encode_lower (sum_of front) → ⊥) → IsMarkedBase ours (commits, digits) count → ⊥
  other-sum front count is other base =
      let same = one-front ours commits base.front front (subst (λ (n : ℕ). IsFront ours n base.front) base.count_is base.is_front) is in
      other (base.sum ∙ ap (λ (h : List Answered). encode_lower (sum_of h)) same)

-- ---- either

module _ (ours : List Answered) (is_resumed : Bool) (from : Option ℕ) (text : List ℕ) (result : Result ℕ BaseFault) where
  pub by-mark : (mark : ℕ × List ℕ) → IsMark text mark → MatchResult result (IsMarkedBase ours mark) (IsMarkedFault ours mark)
      → MatchResult result (IsSolutionBase ours is_resumed from text) (IsSolutionBaseFault ours is_resumed from text)
  by-mark mark is answered =
      MatchResult-weaker result answered (λ count base. record { mark = Some mark; is_mark = is; base = base }) (λ fault fails. record { mark = Some mark; is_mark = is; fails = fails })

  pub by-caller : IsMarkOf text None → MatchResult result (IsPlainBase ours is_resumed from) (IsPlainFault ours is_resumed from)
      → MatchResult result (IsSolutionBase ours is_resumed from text) (IsSolutionBaseFault ours is_resumed from text)
  by-caller none answered = MatchResult-weaker result answered (λ count base. record { mark = None; is_mark = none; base = base }) (λ fault fails. record { mark = None; is_mark = none; fails = fails })

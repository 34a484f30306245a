-- Where planners take turns each job has one try, behind just the commits before it.
use Rattle.std.proofs.lemmas.List.{append-nil, take-append-le}
use Rattle.std.proofs.lemmas.List.Elements.{All-nil, All-cons, All-head, All-tail, All-append, All-weaker}
use Rattle.std.proofs.lemmas.Option.{slice_get_within, slice_get-get_or}
use Rattle.std.proofs.lemmas.Bool.Decides.{leb_tells}
use Rattle.std.proofs.Common.{◌≡◌, ℕ, zero, suc, ◌+◌, ◌<◌, ◌≤◌, false, List, [], ◌∷◌, ◌++◌, length, get_or, take, drop, refl, sym, ap, subst, ◌∙◌, arith, inl, inr, append_assoc, length-append}
use Rattle.std.specs.Prelude.{All, Some, slice_get, ℤ}
use mathlib.Core.List.{IsPrefix}
use Rattle.pit_model.specs.Pit.{Pit}
use Rattle.pit_desk.specs.History.{Answered, commits_by, commits_of}
use Rattle.pit_desk.specs.OneThread.{IsOfOneThread}
use Rattle.pit_desk.specs.Replies.{IsReply}
use Rattle.pit_desk.specs.declared.reply.EntryReply.{EntryReply}
use Rattle.pit_desk.specs.declared.reply.EntryReply.TheVariants as reply
use Rattle.pit_desk.specs.declared.reply.Refusal.TheVariants as refusal
use Rattle.pit_desk.proofs.Legal.{commits_of-push}
use Rattle.pit_script.specs.Jobs.{Job}
use Rattle.pit_share.specs.Logs.{entries_of}
use Rattle.pit_job.specs.declared.outcome.Outcome.{Outcome}
use Rattle.pit_job.specs.declared.outcome.RunEnd.{RunEnd}
use Rattle.pit_job.specs.Outcomes.{IsItem, IsMovedBlock, IsMovedTry, Repeats, StandsIn, is_moved_reply}
use Rattle.pit_job.specs.Runs.{Ran, RanFrom, reply_of, tries_of}
use Rattle.pit_job.proofs.Seeing.{prefix-refl, prefix-trans, commits-fewer}
use Rattle.pit_job.proofs.Growing.{repeats-sees, ran-sees, all-sees}
use Rattle.pit_job.proofs.Writers.{moved-writer}
use Rattle.pit_run.specs.Reports.{RunState}
use Rattle.pit_run.specs.Turns.{entries_by_planner, after_turns, IsInTurn, HadTurns}
use Rattle.pit_run.specs.Laws.{IsOwnTurn}
use Rattle.pit_run.proofs.ByPlanner.{get-front, get-back}

-- ---- entries begin behind all that their planner had seen

abbrev BeganAfter : ℕ → Answered → Type 0
BeganAfter many e = many ≤ e.call.start

abbrev pub BeganSince : List Answered → List Answered → Type 0
BeganSince seen es = All (BeganAfter (length (commits_of seen))) es

since-none : (seen es : List Answered) → es ≡ [] → BeganSince seen es
since-none seen es none = subst (BeganSince seen) (sym none) (All-nil (BeganAfter (length (commits_of seen))))

since-one : (seen : List Answered) (e : Answered) → length (commits_of seen) ≤ e.call.start → BeganSince seen (e ∷ [])
since-one seen e after = All-cons (BeganAfter (length (commits_of seen))) e [] after (All-nil (BeganAfter (length (commits_of seen))))

since-fewer : (less more es : List Answered) → IsPrefix less more → BeganSince more es → BeganSince less es
since-fewer less more es on all =
    let fewer = commits-fewer less more on in
    All-weaker (BeganAfter (length (commits_of more))) (BeganAfter (length (commits_of less))) (λ e after. omega (arith, fewer, after)) es all

since-both : (seen es fs : List Answered) → BeganSince seen es → BeganSince seen fs → BeganSince seen (es ++ fs)
since-both seen es fs = All-append (BeganAfter (length (commits_of seen))) es fs

module _ (pit : Pit) where
  try-since : (task : Job) (n : ℕ) (old new es : List Answered) (block version : ℕ) → IsMovedTry pit task n old new es block version → BeganSince old es
  try-since task n old new es block version tried =
      elim tried.made [
        | inl made ↦
            let after = tried.after in
            let begun = made.2.begun in
            subst (BeganSince old) (sym made.1) (since-one old made.0 (omega (arith, after, begun)))
        | inr none ↦ since-none old es none
      ]

  repeats-since : (task : Job) (n k : ℕ) (old new es : List Answered) → Repeats pit task n k old new es → BeganSince old es
  repeats-since task n zero old new es (none, sees) = since-none old es none
  repeats-since task n (suc k) old new es (mid, earlier, last, block, version, cut, repeats, moved) =
      subst (BeganSince old) (sym cut)
      (since-both old earlier last (repeats-since task n k old mid earlier repeats)
      (since-fewer old mid last (repeats-sees pit task n k old mid earlier repeats) (try-since task n mid new last block version moved)))

  ran-since : (task : Job) (retries n : ℕ) (old new es : List Answered) (o : Outcome) → Ran pit task retries n old new es o → BeganSince old es
  ran-since task retries n old new es o (inl s) =
      subst (BeganSince old) (sym s.cut)
      (since-both old s.repeated (s.last ∷ []) (repeats-since task n s.before old s.mid s.repeated s.repeats)
      (since-fewer old s.mid (s.last ∷ []) (repeats-sees pit task n s.before old s.mid s.repeated s.repeats) (since-one s.mid s.last s.after)))
  ran-since task retries n old new es o (inr g) = repeats-since task n (suc retries) old new es (g.mid, g.repeated, g.last, g.block, g.version, g.cut, g.repeats, g.moved)

  pub all-since : (max_entries retries n : ℕ) (old new : List Answered) (jobs : List Job) (es : List Answered) (os : List Outcome) (ended : RunEnd) → RanFrom pit max_entries retries old new n jobs es os ended → BeganSince old es
  all-since max_entries retries n old new [] es [] ended (none, whole, sees) = since-none old es none
  all-since max_entries retries n old new [] es (o ∷ os) ended ran = absurd ran
  all-since max_entries retries n old new (task ∷ rest) es [] ended (stop, left) = repeats-since task n left.before old new es left.repeats
  all-since max_entries retries n old new (task ∷ rest) es (o ∷ os) ended (mid, mine, later, cut, ran, more) =
      subst (BeganSince old) (sym cut)
      (since-both old mine later (ran-since task retries n old mid mine o ran)
      (since-fewer old mid later (ran-sees pit task retries n old mid mine o ran) (all-since max_entries retries (n + 1) mid new rest later os ended more)))

-- a block's last commit is one of those that were seen
pub moved-few : (seen : List Answered) (start block version : ℕ) → IsMovedBlock seen start block version → version ≤ length (commits_of seen)
moved-few seen start block version moved =
    let writer = moved-writer seen start block version moved in
    let number = writer.number in
    let within = slice_get_within (commits_of seen) writer.place writer.commit writer.at in
    omega (arith, number, within)

-- ---- a list behind another

pub get-behind : {X : Type 0} (xs ys : List X) (k : ℕ) → slice_get (xs ++ ys) (length xs + k) ≡ slice_get ys k
get-behind [] ys k = let none : 0 + k ≡ k = omega arith in ap (slice_get ys) none
get-behind (x ∷ xs) ys k =
    let one : suc (length xs) + k ≡ suc (length xs + k) = omega arith in
    ap (slice_get (x ∷ (xs ++ ys))) one ∙ get-behind xs ys k

pub take-behind : {X : Type 0} (xs ys : List X) (k : ℕ) → take (length xs + k) (xs ++ ys) ≡ xs ++ take k ys
take-behind [] ys k = let none : 0 + k ≡ k = omega arith in ap (λ (m : ℕ). take m ys) none
take-behind (x ∷ xs) ys k =
    let one : suc (length xs) + k ≡ suc (length xs + k) = omega arith in
    ap (λ (m : ℕ). take m (x ∷ (xs ++ ys))) one ∙ ap (λ zs. x ∷ zs) (take-behind xs ys k)

pub count-push : (before : List Answered) (e : Answered) → length (commits_of (before ++ e ∷ [])) ≡ length (commits_of before) + length (commits_by e)
count-push before e = ap length (commits_of-push before e) ∙ length-append (commits_of before) (commits_by e)

-- a job is done by one entry, which is then seen
pub record IsDoneOnce (pit : Pit) (before : List Answered) (task : Job) (n : ℕ) (es mid : List Answered) (o : Outcome) : Type 0 where
  pub e : Answered
  pub alone : es ≡ e ∷ []
  pub item : IsItem pit task n e
  pub start : e.call.start ≡ length (commits_of before)
  pub due : IsReply pit (commits_of before) e.call e.reply
  pub other : is_moved_reply e.reply ≡ false
  pub answer : e.reply ≡ reply_of o
  pub tries : tries_of o ≡ 1
  pub seen : length (commits_of (before ++ es)) ≤ length (commits_of mid)

-- ---- the jobs of a turn

abbrev IsFirst : Outcome → Type 0
IsFirst job = (is_moved_reply (reply_of job) ≡ false) × (tries_of job ≡ 1)

abbrev IsOther : Answered → Type 0
IsOther e = is_moved_reply e.reply ≡ false

own-none : (before es : List Answered) → es ≡ [] → IsOwnTurn before es []
own-none before es none = record {
  begun = λ k e at. absurd (let within = slice_get_within es k e at in omega (arith, within, ap length none));
  unmoved = subst (All IsOther) (sym none) (All-nil IsOther);
  first = All-nil IsFirst;
}

begun-one : (before : List Answered) (last : Answered) → last.call.start ≡ length (commits_of before) → (k : ℕ) (e : Answered) → slice_get (last ∷ []) k ≡ Some e
    → e.call.start ≡ length (commits_of (before ++ take k (last ∷ [])))
begun-one before last start zero e at =
    let here : last.call.start ≡ length (commits_of (before ++ [])) = start ∙ ap (λ (xs : List Answered). length (commits_of xs)) (sym (append-nil before)) in
    let it : last ≡ e = cc at in
    subst (λ (x : Answered). x.call.start ≡ length (commits_of (before ++ []))) it here
begun-one before last start (suc k) e at = absurd (cc at)

own-one : (pit : Pit) (before : List Answered) (task : Job) (n : ℕ) (es mid : List Answered) (o : Outcome) → IsDoneOnce pit before task n es mid o → IsOwnTurn before es (o ∷ [])
own-one pit before task n es mid o done =
    subst (λ (xs : List Answered). IsOwnTurn before xs (o ∷ [])) (sym done.alone) (record {
      begun = begun-one before done.e done.start;
      unmoved = All-cons IsOther done.e [] done.other (All-nil IsOther);
      first = All-cons IsFirst o [] (sym (ap is_moved_reply done.answer) ∙ done.other, done.tries) (All-nil IsFirst);
    })

own-both : (before mine later : List Answered) (os more : List Outcome) → IsOwnTurn before mine os → IsOwnTurn (before ++ mine) later more → IsOwnTurn before (mine ++ later) (os ++ more)
own-both before mine later os more a b = record {
  begun = λ k e at.
      elim (leb_tells (length mine) k) [
        | inl late ↦
            let back = get-back mine later k e late.1 at in
            let front : before ++ take k (mine ++ later) ≡ (before ++ mine) ++ take back.0 later =
            ap (λ (xs : List Answered). before ++ xs) (ap (λ (m : ℕ). take m (mine ++ later)) back.1 ∙ take-behind mine later back.0) ∙ sym (append_assoc before mine (take back.0 later)) in
            b.begun back.0 e back.2 ∙ ap (λ (xs : List Answered). length (commits_of xs)) (sym front)
        | inr early ↦
            let less : k < length mine = omega (arith, early.1) in
            let front : take k (mine ++ later) ≡ take k mine = take-append-le k mine later (omega (arith, less)) in
            a.begun k e (get-front mine later k e less at) ∙ ap (λ (xs : List Answered). length (commits_of (before ++ xs))) (sym front)
      ];
  unmoved = All-append IsOther mine later a.unmoved b.unmoved;
  first = All-append IsFirst os more a.first b.first;
}

-- ---- what stands once a turn has ended

module _ (pit : Pit) (value : ℤ) (history stood later : List Answered) (one : IsOfOneThread pit history value) (cut : history ≡ stood ++ later) where
  there-behind : (before : List Answered) (e : Answered) (es : List Answered) → stood ≡ before ++ (e ∷ es) → history ≡ before ++ (e ∷ (es ++ later))
  there-behind before e es at = cut ∙ (ap (λ (xs : List Answered). xs ++ later) at ∙ append_assoc before (e ∷ es) later)

  pub at-behind : (before : List Answered) (e : Answered) (es : List Answered) → stood ≡ before ++ (e ∷ es) → slice_get history (length before + 0) ≡ Some e
  at-behind before e es at = ap (λ (xs : List Answered). slice_get xs (length before + 0)) (there-behind before e es at) ∙ get-behind before (e ∷ (es ++ later)) 0

  pub front-behind : (before : List Answered) (e : Answered) (es : List Answered) → stood ≡ before ++ (e ∷ es) → take (length before + 0) history ≡ before
  front-behind before e es at = ap (take (length before + 0)) (there-behind before e es at) ∙ (take-behind before (e ∷ (es ++ later)) 0 ∙ append-nil before)

  -- an entry has the reply that is due after those before it
  due-behind : (before : List Answered) (e : Answered) (es : List Answered) → stood ≡ before ++ (e ∷ es) → IsReply pit (commits_of before) e.call e.reply
  due-behind before e es at =
      subst (λ (xs : List Answered). IsReply pit (commits_of xs) e.call e.reply) (front-behind before e es at) (one.replies (length before + 0) e (at-behind before e es at))

  -- where all that follows began behind so many commits of what stands, these stand before it
  seen-few : (many : ℕ) (before es : List Answered) → stood ≡ before ++ es → All (BeganAfter many) es → many ≤ length (commits_of stood) → many ≤ length (commits_of before)
  seen-few many before [] at began few = subst (λ (xs : List Answered). many ≤ length (commits_of xs)) (at ∙ append-nil before) few
  seen-few many before (e ∷ es) at began few =
      by e.reply refl (seen-few many (before ++ e ∷ []) es (at ∙ sym (append_assoc before (e ∷ []) es)) (All-tail (BeganAfter many) e es began) few)
    where
      by : (r : EntryReply) → e.reply ≡ r → many ≤ length (commits_of (before ++ e ∷ [])) → many ≤ length (commits_of before)
      by (reply.Committed number) is more =
          let due : IsReply pit (commits_of before) e.call (reply.Committed number) = subst (λ (r : EntryReply). IsReply pit (commits_of before) e.call r) is (due-behind before e es at) in
          let seen = due.1.seen in
          let first = All-head (BeganAfter many) e es began in
          omega (arith, first, seen)
      by (reply.Refused why) is more =
          let made : length (commits_by e) ≡ 0 = ap (λ (x : EntryReply). length (commits_by (record e { reply = x }))) is in
          omega (arith, count-push before e, made, more)
      by reply.Withdrawn is more =
          let made : length (commits_by e) ≡ 0 = ap (λ (x : EntryReply). length (commits_by (record e { reply = x }))) is in
          omega (arith, count-push before e, made, more)

  -- no try ended by Moved
  no-try : (task : Job) (n : ℕ) (old new es before rest : List Answered) (block version : ℕ) → stood ≡ before ++ (es ++ rest) → length (commits_of before) ≤ length (commits_of old)
      → IsMovedTry pit task n old new es block version → BeganSince new rest → IsPrefix new stood → ⊥
  no-try task n old new es before rest block version at few tried since on =
      let after = tried.after in
      let past = tried.moved.past in
      elim tried.made [
        | inl made ↦
            let e = made.0 in
            let here : stood ≡ before ++ (e ∷ rest) = at ∙ ap (λ (xs : List Answered). before ++ (xs ++ rest)) made.1 in
            let due : IsReply pit (commits_of before) e.call (reply.Refused (refusal.Moved block version)) =
            subst (λ (r : EntryReply). IsReply pit (commits_of before) e.call r) made.2.answer (due-behind before e rest here) in
            let most = moved-few before tried.start block version (record { prefix = before; begins = prefix-refl before; last = due.1.2; past = past }) in
            omega (arith, most, few, after, past)
        | inr none ↦
            let here : stood ≡ before ++ rest = at ∙ ap (λ (xs : List Answered). before ++ (xs ++ rest)) none in
            let seen = seen-few (length (commits_of new)) before rest here since (commits-fewer new stood on) in
            let most = moved-few new tried.start block version tried.moved in
            omega (arith, seen, most, few, after, past)
      ]

  pub no-repeats : (task : Job) (n k : ℕ) (old new es before rest : List Answered) → stood ≡ before ++ (es ++ rest) → length (commits_of before) ≤ length (commits_of old)
      → Repeats pit task n k old new es → BeganSince new rest → IsPrefix new stood → (k ≡ 0) × (es ≡ [])
  no-repeats task n zero old new es before rest at few (none, sees) since on = (refl, none)
  no-repeats task n (suc k) old new es before rest at few (mid, earlier, last, block, version, parts, repeats, moved) since on =
      let all : stood ≡ before ++ (earlier ++ (last ++ rest)) =
      at ∙ ap (λ (xs : List Answered). before ++ xs) (ap (λ (xs : List Answered). xs ++ rest) parts ∙ append_assoc earlier last rest) in
      let since_mid = since-both mid last rest (try-since pit task n mid new last block version moved) (since-fewer mid new rest moved.sees since) in
      let first = no-repeats task n k old mid earlier before (last ++ rest) all few repeats since_mid (prefix-trans mid new stood moved.sees on) in
      let here : stood ≡ before ++ (last ++ rest) = all ∙ ap (λ (xs : List Answered). before ++ (xs ++ (last ++ rest))) first.1 in
      let fewer = commits-fewer old mid (repeats-sees pit task n k old mid earlier repeats) in
      absurd (no-try task n mid new last before rest block version here (omega (arith, few, fewer)) moved since on)

  -- an entry that was seen has been seen with all commits before it
  one-seen : (before rest mid : List Answered) (e : Answered) → stood ≡ before ++ (e ∷ rest) → IsPrefix mid stood → length (commits_of before) ≤ length (commits_of mid) → StandsIn mid e
      → length (commits_of (before ++ e ∷ [])) ≤ length (commits_of mid)
  one-seen before rest mid e at on few stands = by e.reply refl
    where
      by : (r : EntryReply) → e.reply ≡ r → length (commits_of (before ++ e ∷ [])) ≤ length (commits_of mid)
      by (reply.Committed number) is =
          let here : IsReply pit (commits_of before) e.call (reply.Committed number) = subst (λ (r : EntryReply). IsReply pit (commits_of before) e.call r) is (due-behind before e rest at) in
          let front = stands.before in
          let begins = prefix-trans (front ++ e ∷ []) mid stood stands.begins on in
          let there : IsReply pit (commits_of front) e.call (reply.Committed number) =
          subst (λ (r : EntryReply). IsReply pit (commits_of front) e.call r) is (due-behind front e begins.0 (sym begins.1 ∙ append_assoc front (e ∷ []) begins.0)) in
          omega (arith, here.3, there.3, count-push before e, count-push front e, commits-fewer (front ++ e ∷ []) mid stands.begins)
      by (reply.Refused why) is =
          let made : length (commits_by e) ≡ 0 = ap (λ (x : EntryReply). length (commits_by (record e { reply = x }))) is in
          omega (arith, count-push before e, made, few)
      by reply.Withdrawn is =
          let made : length (commits_by e) ≡ 0 = ap (λ (x : EntryReply). length (commits_by (record e { reply = x }))) is in
          omega (arith, count-push before e, made, few)

  pub job-once : (task : Job) (retries n : ℕ) (old mid es before rest : List Answered) (o : Outcome) → stood ≡ before ++ (es ++ rest) → length (commits_of before) ≤ length (commits_of old)
      → Ran pit task retries n old mid es o → BeganSince mid rest → IsPrefix mid stood → IsDoneOnce pit before task n es mid o
  job-once task retries n old mid es before rest o at few (inl s) since on =
      let all : stood ≡ before ++ (s.repeated ++ (s.last ∷ rest)) =
      at ∙ ap (λ (xs : List Answered). before ++ xs) (ap (λ (xs : List Answered). xs ++ rest) s.cut ∙ append_assoc s.repeated (s.last ∷ []) rest) in
      let since_last = since-both s.mid (s.last ∷ []) rest (since-one s.mid s.last s.after) (since-fewer s.mid mid rest s.sees since) in
      let none = no-repeats task n s.before old s.mid s.repeated before (s.last ∷ rest) all few s.repeats since_last (prefix-trans s.mid mid stood s.sees on) in
      let here : stood ≡ before ++ (s.last ∷ rest) = all ∙ ap (λ (xs : List Answered). before ++ (xs ++ (s.last ∷ rest))) none.1 in
      let alone : es ≡ s.last ∷ [] = s.cut ∙ ap (λ (xs : List Answered). xs ++ s.last ∷ []) none.1 in
      let fewer = commits-fewer old s.mid (repeats-sees pit task n s.before old s.mid s.repeated s.repeats) in
      let more = commits-fewer s.mid mid s.sees in
      let after = s.after in
      let before_more = s.before_more in
      let first : s.last.call.start ≤ s.last.call.start = omega arith in
      let rest_since : All (BeganAfter s.last.call.start) rest =
      All-weaker (BeganAfter (length (commits_of mid))) (BeganAfter s.last.call.start) (λ e began. omega (arith, before_more, began)) rest since in
      let most = seen-few s.last.call.start before (s.last ∷ rest) here (All-cons (BeganAfter s.last.call.start) s.last rest first rest_since) (omega (arith, before_more, commits-fewer mid stood on)) in
      let tries = s.tries in
      let zero_before = none.0 in
      record {
        e = s.last;
        alone = alone;
        item = s.item;
        start = omega (arith, few, fewer, after, most);
        due = due-behind before s.last rest here;
        other = s.other;
        answer = s.answer;
        tries = omega (arith, tries, zero_before);
        seen = subst (λ (xs : List Answered). length (commits_of (before ++ xs)) ≤ length (commits_of mid)) (sym alone) (one-seen before rest mid s.last here on (omega (arith, few, fewer, more)) s.stands);
      }
  job-once task retries n old mid es before rest o at few (inr g) since on =
      let none = no-repeats task n (suc retries) old mid es before rest at few (g.mid, g.repeated, g.last, g.block, g.version, g.cut, g.repeats, g.moved) since on in
      let never = none.0 in
      absurd (omega (arith, never))

  -- all jobs of a turn
  pub all-once : (max_entries retries n : ℕ) (old new : List Answered) (jobs : List Job) (es before : List Answered) (os : List Outcome) (ended : RunEnd) → stood ≡ before ++ es → IsPrefix new stood
      → length (commits_of before) ≤ length (commits_of old) → RanFrom pit max_entries retries old new n jobs es os ended → IsOwnTurn before es os
  all-once max_entries retries n old new [] es before [] ended at on few (none, whole, sees) = own-none before es none
  all-once max_entries retries n old new [] es before (o ∷ os) ended at on few ran = absurd ran
  all-once max_entries retries n old new (task ∷ rest) es before [] ended at on few (stop, left) =
      let all : stood ≡ before ++ (es ++ []) = at ∙ ap (λ (xs : List Answered). before ++ xs) (sym (append-nil es)) in
      own-none before es (no-repeats task n left.before old new es before [] all few left.repeats (since-none new [] refl) on).1
  all-once max_entries retries n old new (task ∷ rest) es before (o ∷ os) ended at on few (mid, mine, more, parts, ran, ahead) =
      let all : stood ≡ before ++ (mine ++ more) = at ∙ ap (λ (xs : List Answered). before ++ xs) parts in
      let seen = prefix-trans mid new stood (all-sees pit max_entries retries (n + 1) mid new rest more os ended ahead) on in
      let done = job-once task retries n old mid mine before more o all few ran (all-since pit max_entries retries (n + 1) mid new rest more os ended ahead) seen in
      let next = all-once max_entries retries (n + 1) mid new rest more (before ++ mine) os ended (all ∙ sym (append_assoc before mine more)) on done.seen ahead in
      subst (λ (xs : List Answered). IsOwnTurn before xs (o ∷ os)) (sym parts) (own-both before mine more (o ∷ []) os (own-one pit before task n mine mid o done) next)

-- ---- the turn of a planner

by_planner-cut : (n p : ℕ) (es : List Answered) → p < n → (later : List Answered) × (entries_by_planner n es ≡ entries_by_planner p es ++ (entries_of (suc p) es ++ later))
by_planner-cut zero p es less = absurd (omega (arith, less))
by_planner-cut (suc n) p es less =
    let last = entries_of (suc n) es in
    elim (leb_tells n p) [
      | inl late ↦
          let same : n ≡ p = omega (arith, late.1, less) in (
            [],
            subst (λ (m : ℕ). entries_by_planner (suc n) es ≡ entries_by_planner m es ++ (entries_of (suc m) es ++ [])) same
                (ap (λ (xs : List Answered). entries_by_planner n es ++ xs) (sym (append-nil last))),
          )
      | inr early ↦
          let front = entries_by_planner p es in
          let own = entries_of (suc p) es in
          let before = by_planner-cut n p es (omega (arith, early.1)) in (
            before.0 ++ last,
            ap (λ (xs : List Answered). xs ++ last) before.1
                ∙ (append_assoc front (own ++ before.0) last ∙ ap (λ (xs : List Answered). front ++ xs) (append_assoc own before.0 last)),
          )
    ]

-- what stands once a planner has had its turn
pub turn-stands : (planners p : ℕ) (opening history : List Answered) → IsInTurn planners opening history → p < planners
    → (later : List Answered) × (history ≡ (after_turns p opening history ++ entries_of (1 + p) (drop (length opening) history)) ++ later)
turn-stands planners p opening history turns less =
    let past = drop (length opening) history in
    let cut = by_planner-cut planners p past less in
    let one : suc p ≡ 1 + p = omega arith in
    let all : history ≡ after_turns p opening history ++ (entries_of (suc p) past ++ cut.0) =
    turns.turns ∙ (ap (λ (xs : List Answered). opening ++ xs) cut.1 ∙ sym (append_assoc opening (entries_by_planner p past) (entries_of (suc p) past ++ cut.0))) in (
      cut.0,
      subst (λ (q : ℕ). history ≡ (after_turns p opening history ++ entries_of q past) ++ cut.0) one (all ∙ sym (append_assoc (after_turns p opening history) (entries_of (suc p) past) cut.0)),
    )

pub own-turn : (pit : Pit) (value : ℤ) (opening history : List Answered) (max_entries retries : ℕ) (scripts : List (List Job)) (runs : List RunState) → IsOfOneThread pit history value
    → IsInTurn (length scripts) opening history → HadTurns pit max_entries retries opening history scripts runs → (p : ℕ) (run : RunState) → slice_get runs p ≡ Some run
    → IsOwnTurn (after_turns p opening history) (entries_of (1 + p) (drop (length opening) history)) run.jobs
own-turn pit value opening history max_entries retries scripts runs one turns had p run at =
    let less : p < length scripts = omega (arith, slice_get_within runs p run at, had.many) in
    let script = get_or scripts p [] in
    let turn = had.each p script (slice_get-get_or scripts p [] less) in
    let found = turn.1 in
    let same : turn.0 ≡ run = cc (at, found) in
    let before = after_turns p opening history in
    let own = entries_of (1 + p) (drop (length opening) history) in
    let stands = turn-stands (length scripts) p opening history turns less in
    subst (λ (r : RunState). IsOwnTurn before own r.jobs) same
    (all-once pit value history (before ++ own) stands.0 one stands.1 max_entries retries 1 before (before ++ own) script own before turn.0.jobs turn.0.ended refl (prefix-refl (before ++ own)) (omega arith) turn.2.ran)

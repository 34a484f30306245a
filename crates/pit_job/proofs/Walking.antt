-- A walk through a transaction.
use Rattle.std.proofs.Common.{inl, inr, ◌≡◌, ℕ, zero, suc, nat_eq, ◌+◌, ◌<◌, ◌≤◌, length, get_or, drop, Bool, true, false, List, [], ◌∷◌, ◌++◌, Some, None, refl, sym, ap, subst, ◌∙◌, arith, append-nil, append_assoc, nat_cmp, eqb-true}
use Rattle.std.specs.Prelude.{is_some, if◌then◌else◌, slice_get}
use Rattle.std.specs.List.{All, Contains, list_any}
use Rattle.std.specs.List.Sorted.{IsSorted, IsPermutation}
use Rattle.std.proofs.lemmas.Bool.{cases_eq}
use Rattle.std.proofs.lemmas.List.{get_or_default}
use Rattle.std.proofs.lemmas.List.Elements.{All-nil, All-cons, All-weaker, All-contains, All-head, All-tail, Contains-push, Contains-append_left, Contains-get_or}
use Rattle.std.proofs.lemmas.List.Sorted.{Contains-permutation}
use Rattle.pit_model.specs.Pit.{Pit}
use Rattle.pit_plan.specs.Schedule.{Commit}
use Rattle.pit_tx.specs.Sets.{known_of}
use Rattle.pit_share.specs.Planners.{TransactionState}
use Rattle.pit_script.specs.declared.step.Step.TheVariants as step
use Rattle.pit_script.specs.declared.step.Way.{Way}
use Rattle.pit_script.specs.declared.step.Way.TheVariants as way
use Rattle.pit_job.specs.Cones.{all_led, in_round, IsNextOf, Reaches}
use Rattle.pit_job.specs.Effect.{Agrees, Known, changes, carried, read_in, seen, with_bench, is_carried, leads_to, members_of}
use Rattle.pit_job.specs.Outcomes.{HasNoWrite, IsReadOver}
use Rattle.pit_job.specs.Inside.Doing.{own_of, NotesOnly, DoesStep, StopsAt, StepStopsAt}
use Rattle.pit_job.specs.Inside.Walking.{IsWalk, WalkState, Visits, VisitsEach, IsGoing, IsGone, IsReadNow, PutsEach}
use Rattle.pit_job.specs.declared.doing.StepStop.{StepStop}
use Rattle.pit_job.specs.declared.doing.StepStop.TheVariants as stop
use Rattle.pit_job.proofs.Agreeing.{seen-agrees}
use Rattle.pit_job.proofs.Cones.{both, cone-has, any-some}
use Rattle.pit_job.proofs.Noting.{notes-none, notes-map, notes-trans, next-reached}
use Rattle.pit_job.proofs.Meeting.{left-stops, looked-stops, stopped-map, stopped-more}
use Rattle.pit_job.proofs.Seeing.{sees-same}
use Rattle.pit_job.proofs.Stepping.{Agrees-refl, Agrees-trans, same-refl, same-trans, drop-here}
use Rattle.pit_job.proofs.Walks.{next-kept, walk-none, walk-grows, walk-more, walk-few, walk-whole}

-- what isn't known isn't carried along
pub never-carried : (how : Way) (t : ℕ) → is_carried how t None ≡ false
never-carried way.Cone t = refl
never-carried way.Push t = refl

-- a walk that has visited and found no less
pub record IsOn (old new : WalkState) : Type 0 where
  pub more : List ℕ
  pub visited : new.visited ≡ old.visited ++ more
  pub others : List ℕ
  pub found : new.found ≡ old.found ++ others

pub on-refl : (w : WalkState) → IsOn w w
on-refl w = record { more = []; visited = sym (append-nil w.visited); others = []; found = sym (append-nil w.found) }

pub on-trans : (a b c : WalkState) → IsOn a b → IsOn b c → IsOn a c
on-trans a b c f g = record {
  more = f.more ++ g.more;
  visited = g.visited ∙ (ap (λ (xs : List ℕ). xs ++ g.more) f.visited ∙ append_assoc a.visited f.more g.more);
  others = f.others ++ g.others;
  found = g.found ∙ (ap (λ (xs : List ℕ). xs ++ g.others) f.found ∙ append_assoc a.found f.others g.others);
}

pub on-visited : (a b : WalkState) → IsOn a b → (c : ℕ) → Contains a.visited c → Contains b.visited c
on-visited a b on c among = subst (λ (xs : List ℕ). Contains xs c) (sym on.visited) (Contains-append_left a.visited on.more c among)

pub on-found : (a b : WalkState) → IsOn a b → (c : ℕ) → Contains a.found c → Contains b.found c
on-found a b on c among = subst (λ (xs : List ℕ). Contains xs c) (sym on.found) (Contains-append_left a.found on.others c among)

-- ---- one block

known-seen : (t : TransactionState) (known : Known) → Agrees (read_in t.work.reads) known → Agrees (λ c. known_of t.work c) (λ c. seen known (own_of t.work) c)
known-seen t known agrees b v is = seen-agrees (read_in t.work.reads) known (own_of t.work) agrees b v is

known-more : (old new : TransactionState) → Agrees (read_in old.work.reads) (read_in new.work.reads) → own_of new.work ≡ own_of old.work → Agrees (λ c. known_of old.work c) (λ c. known_of new.work c)
known-more old new reads own b v is =
    subst (λ (o : Commit). seen (read_in new.work.reads) o b ≡ Some v) (sym own) (seen-agrees (read_in old.work.reads) (read_in new.work.reads) (own_of old.work) reads b v is)

-- a visit goes on, and notes its block at most
pub visit-stops : (how : Way) (t : ℕ) (old : TransactionState) (w : WalkState) (b : ℕ) (new : TransactionState) (after : WalkState) → Visits how t old w b new after → StopsAt (λ c. c ≡ b) old stop.NoMemory new
visit-stops how t old w b new after (inl (same, is, there)) =
    left-stops (λ c. c ≡ b) old new stop.NoMemory (sees-same old.planner new.planner (ap (λ (s : TransactionState). s.planner) same)) (ap (λ (s : TransactionState). s.work) same) tt
visit-stops how t old w b new after (inr v) = looked-stops old new b v.held v.looks

cond-on : (c : Bool) (xs : List ℕ) (b : ℕ) → (others : List ℕ) × ((if c then xs ++ b ∷ [] else xs) ≡ xs ++ others)
cond-on true xs b = (b ∷ [], refl)
cond-on false xs b = ([], sym (append-nil xs))

same-key : (x y : ℕ) → nat_eq x y ≡ true → x ≡ y
same-key x y is = eqb-true x y is

pub there-is : (b : ℕ) (xs : List ℕ) → list_any (nat_eq b) xs ≡ true → Contains xs b
there-is b xs is = let m = any-some (nat_eq b) xs is in subst (Contains xs) (sym (same-key b m.0 m.2)) m.1

visit-on : (how : Way) (t : ℕ) (old : TransactionState) (w : WalkState) (b : ℕ) (new : TransactionState) (after : WalkState) → Visits how t old w b new after → IsOn w after × Contains after.visited b
visit-on how t old w b new after (inl (same, is, there)) = (
  subst (IsOn w) (sym is) (on-refl w),
  subst (λ (s : WalkState). Contains s.visited b) (sym is) (there-is b w.visited there),
)
visit-on how t old w b new after (inr v) =
    let others = cond-on (is_carried how t (Some v.held)) w.found b in (
      record { more = b ∷ []; visited = v.visited; others = others.0; found = v.found ∙ others.1 },
      subst (λ (xs : List ℕ). Contains xs b) (sym v.visited) (Contains-push w.visited b),
    )

pub visit-goes : (pit : Pit) (how : Way) (start t : ℕ) (old mid new : TransactionState) (w after : WalkState) (b : ℕ) → IsGoing pit how start t old mid w → b < pit.blocks → IsNextOf (leads_to pit how) start w.found b
    → Visits how t mid w b new after → IsGoing pit how start t old new after
visit-goes pit how start t old mid new w after b going less leads (inl (same, is, there)) =
    subst (λ (s : TransactionState). IsGoing pit how start t old s after) (sym same) (subst (IsGoing pit how start t old mid) (sym is) going)
visit-goes pit how start t old mid new w after b going less leads (inr v) = record {
  same = same-trans old mid new going.same v.looks.same;
  own = v.looks.own ∙ going.own;
  noted = notes-trans (λ c. Contains after.visited c × HasNoWrite (own_of old.work) c) old.work.reads mid.work.reads new.work.reads
      (notes-map (λ c. Contains w.visited c × HasNoWrite (own_of old.work) c) (λ c. Contains after.visited c × HasNoWrite (own_of old.work) c)
      (λ c is. (subst (λ (xs : List ℕ). Contains xs c) (sym v.visited) (Contains-append_left w.visited (b ∷ []) c is.0), is.1)) old.work.reads mid.work.reads going.noted)
      (notes-map (λ c. (c ≡ b) × HasNoWrite (own_of mid.work) c) (λ c. Contains after.visited c × HasNoWrite (own_of old.work) c)
      (λ c is. (subst (Contains after.visited) (sym is.0) (subst (λ (xs : List ℕ). Contains xs b) (sym v.visited) (Contains-push w.visited b)), subst (λ (own : Commit). HasNoWrite own c) going.own is.1))
      mid.work.reads new.work.reads v.looks.noted);
  walk =
      subst (λ (xs : List ℕ). IsWalk pit.blocks (is_carried how t) (leads_to pit how) start (λ c. known_of new.work c) xs after.found) (sym v.visited)
      (subst (λ (xs : List ℕ). IsWalk pit.blocks (is_carried how t) (leads_to pit how) start (λ c. known_of new.work c) (w.visited ++ b ∷ []) xs) (sym v.found)
      (walk-more pit.blocks (is_carried how t) (never-carried how t) (leads_to pit how) start (λ c. known_of new.work c) w.visited w.found b v.held
      (walk-grows pit.blocks (is_carried how t) (never-carried how t) (leads_to pit how) start (λ c. known_of mid.work c) (λ c. known_of new.work c) w.visited w.found (known-more mid new v.looks.same.reads v.looks.own) going.walk)
      less v.fresh v.looks.known leads));
}

-- ---- one after another

pub visits-go : (pit : Pit) (how : Way) (start t : ℕ) (bs : List ℕ) (old mid new : TransactionState) (w after : WalkState) → IsGoing pit how start t old mid w → All (λ b. b < pit.blocks) bs
    → All (IsNextOf (leads_to pit how) start w.found) bs → VisitsEach how t mid w bs new after → IsGoing pit how start t old new after × IsOn w after × All (Contains after.visited) bs
visits-go pit how start t [] old mid new w after going below leads (same, is) = (
  subst (λ (s : TransactionState). IsGoing pit how start t old s after) (sym same) (subst (IsGoing pit how start t old mid) (sym is) going),
  subst (IsOn w) (sym is) (on-refl w),
  All-nil (Contains after.visited),
)
visits-go pit how start t (b ∷ bs) old mid new w after going below leads (next, between, first, rest) =
    let gone = visit-goes pit how start t old mid next w between b going (All-head (λ b. b < pit.blocks) b bs below) (All-head (IsNextOf (leads_to pit how) start w.found) b bs leads) first in
    let on = visit-on how t mid w b next between first in
    let more = visits-go pit how start t bs old next new between after gone (All-tail (λ b. b < pit.blocks) b bs below)
    (All-weaker (IsNextOf (leads_to pit how) start w.found) (IsNextOf (leads_to pit how) start between.found) (λ c is. next-kept (leads_to pit how) start w.found between.found (λ m among. on-found w between on.0 m among) c is) bs
    (All-tail (IsNextOf (leads_to pit how) start w.found) b bs leads)) rest in (
      more.0,
      on-trans w between after on.0 more.1,
      All-cons (Contains after.visited) b bs (on-visited between after more.1 b on.1) more.2,
    )

-- the block at i, and then those after it
pub visits-next : (how : Way) (t : ℕ) (old mid new : TransactionState) (w between after : WalkState) (bs : List ℕ) (i d : ℕ) → i < length bs
    → Visits how t old w (get_or bs i d) mid between → VisitsEach how t mid between (drop (i + 1) bs) new after → VisitsEach how t old w (drop i bs) new after
visits-next how t old mid new w between after bs i d less first rest =
    subst (λ (xs : List ℕ). VisitsEach how t old w xs new after) (sym (drop-here bs i d less)) (mid, between, first, rest)

-- ---- the start, and then what each that was found leads to

pub gone-first : (pit : Pit) (how : Way) (start t : ℕ) (old new : TransactionState) (w after : WalkState) → start < pit.blocks → w ≡ record { visited = []; found = [] } → Visits how t old w start new after
    → IsGone pit how start t old new after 0
gone-first pit how start t old new w after less none visits =
    let begins : IsGoing pit how start t old old w = subst (IsGoing pit how start t old old) (sym none) (record {
      same = same-refl old;
      own = refl;
      noted = notes-none (λ c. Contains [] c × HasNoWrite (own_of old.work) c) old.work.reads old.work.reads refl;
      walk = walk-none pit.blocks (is_carried how t) (never-carried how t) (leads_to pit how) start (λ c. known_of old.work c);
    }) in
    record {
      going = visit-goes pit how start t old old new w after start begins less (inl refl) visits;
      first = (visit-on how t old w start new after visits).1;
      done = λ j a past within among. absurd (omega (arith, past));
    }

at-place : (xs : List ℕ) (i m : ℕ) → slice_get xs i ≡ Some m → (i < length xs) × (get_or xs i 0 ≡ m)
at-place [] i m is = absurd (cc is)
at-place (x ∷ xs) zero m is = (omega arith, cc is)
at-place (x ∷ xs) (suc i) m is = let h = at-place xs i m is in (let lt = h.0 in omega arith, h.1)

past-place : (xs : List ℕ) (i : ℕ) → slice_get xs i ≡ None → length xs ≤ i
past-place [] i is = omega arith
past-place (x ∷ xs) zero is = absurd (cc is)
past-place (x ∷ xs) (suc i) is = let le = past-place xs i is in omega arith

pub past-found : (w : WalkState) (i : ℕ) → slice_get w.found i ≡ None → length w.found ≤ i
past-found w i is = past-place w.found i is

-- what was found as number i is below the blocks
pub found-within : (pit : Pit) (how : Way) (start t : ℕ) (old mid : TransactionState) (w : WalkState) (i m : ℕ) → IsGone pit how start t old mid w i → slice_get w.found i ≡ Some m → (m < pit.blocks) × Contains w.found m
found-within pit how start t old mid w i m gone is =
    let at = at-place w.found i m is in
    let among : Contains w.found m = subst (Contains w.found) at.1 (Contains-get_or w.found i 0 at.0) in
    (All-contains (λ a. a < pit.blocks) w.visited m gone.going.walk.below (All-contains (Contains w.visited) w.found m gone.going.walk.visits among), among)

kept-place : (xs ys : List ℕ) (j : ℕ) → j < length xs → get_or (xs ++ ys) j 0 ≡ get_or xs j 0
kept-place [] ys j less = absurd (omega (arith, less))
kept-place (x ∷ xs) ys zero less = refl
kept-place (x ∷ xs) ys (suc j) less = kept-place xs ys j (omega (arith, less))

pub gone-more : (pit : Pit) (how : Way) (start t : ℕ) (old mid new : TransactionState) (w after : WalkState) (i m : ℕ) (bs : List ℕ) → IsGone pit how start t old mid w i → slice_get w.found i ≡ Some m
    → bs ≡ leads_to pit how m → All (λ a. a < pit.blocks) bs → VisitsEach how t mid w bs new after → IsGone pit how start t old new after (i + 1)
gone-more pit how start t old mid new w after i m bs gone is led below visits =
    let at = at-place w.found i m is in
    let within = at.0 in
    let member = (found-within pit how start t old mid w i m gone is).1 in
    let more = visits-go pit how start t bs old mid new w after gone.going below
    (λ k d lt. inr (m, member, subst (λ (xs : List ℕ). Contains xs (get_or bs k d)) led (Contains-get_or bs k d lt))) visits in
    record {
      going = more.0;
      first = on-visited w after more.1 start gone.first;
      done = λ j a less long among. elim (cases_eq j i) [
        | inl same ↦ All-contains (Contains after.visited) bs a more.2
            (subst (λ (xs : List ℕ). Contains xs a) (sym led) (subst (λ (c : ℕ). Contains (leads_to pit how c) a)
            (ap (λ (xs : List ℕ). get_or xs j 0) more.1.found ∙ kept-place w.found more.1.others j (omega (arith, same, within)) ∙ ap (λ (k : ℕ). get_or w.found k 0) same ∙ at.1) among))
        | inr apart ↦
            let before : j < length w.found = omega (arith, less, apart, within) in
            on-visited w after more.1 a (gone.done j a (omega (arith, less, apart)) before
            (subst (λ (c : ℕ). Contains (leads_to pit how c) a) (ap (λ (xs : List ℕ). get_or xs j 0) more.1.found ∙ kept-place w.found more.1.others j before) among))
      ];
    }

pub gone-few : (pit : Pit) (how : Way) (start t : ℕ) (old new : TransactionState) (w : WalkState) (i : ℕ) → IsGone pit how start t old new w i → length w.found ≤ pit.blocks
gone-few pit how start t old new w i gone = walk-few pit.blocks (is_carried how t) (never-carried how t) (leads_to pit how) start (λ c. known_of new.work c) w.visited w.found gone.going.walk

-- ---- what stopped a walk

-- what was found is a member, over what is known then
found-members : (pit : Pit) (how : Way) (start t : ℕ) (old mid new : TransactionState) (w : WalkState) → IsGoing pit how start t old mid w → own_of new.work ≡ own_of mid.work
    → Agrees (read_in mid.work.reads) (read_in new.work.reads) → (m : ℕ) → Contains w.found m → Contains (members_of pit how (λ c. known_of new.work c) start t) m
found-members pit how start t old mid new w going own reads m among =
    let wanted : ℕ → Bool = λ b. is_carried how t (known_of new.work b) in
    let walk = walk-grows pit.blocks (is_carried how t) (never-carried how t) (leads_to pit how) start (λ c. known_of mid.work c) (λ c. known_of new.work c) w.visited w.found (known-more mid new reads own) going.walk in
    cone-has pit.blocks wanted (leads_to pit how) start m (All-contains (λ a. a < pit.blocks) w.visited m going.walk.below (All-contains (Contains w.visited) w.found m going.walk.visits among))
    (All-contains (λ x. in_round pit.blocks wanted (leads_to pit how) start pit.blocks x ≡ true) w.found m walk.finds among)

-- what was visited so far, the line reads over what is known then
going-stops : (pit : Pit) (how : Way) (start t : ℕ) (old mid new : TransactionState) (w : WalkState) → IsGoing pit how start t old mid w → own_of new.work ≡ own_of mid.work
    → Agrees (read_in mid.work.reads) (read_in new.work.reads) → StopsAt (IsReadNow pit how start t new) old stop.NoMemory mid
going-stops pit how start t old mid new w going own reads = record {
  same = going.same;
  own = going.own;
  noted = notes-map (λ c. Contains w.visited c × HasNoWrite (own_of old.work) c) (λ c. IsReadNow pit how start t new c × HasNoWrite (own_of old.work) c)
      (λ c is. (
        next-kept (leads_to pit how) start w.found (members_of pit how (λ c. known_of new.work c) start t) (found-members pit how start t old mid new w going own reads) c
            (All-contains (IsNextOf (leads_to pit how) start w.found) w.visited c going.walk.led is.0),
        is.1,
      )) old.work.reads mid.work.reads going.noted;
  meets = tt;
}

-- what a block leads to that was found, the start leads to
pub gone-reached : (pit : Pit) (how : Way) (start t : ℕ) (old mid : TransactionState) (w : WalkState) (i m : ℕ) (bs : List ℕ) → IsGone pit how start t old mid w i → slice_get w.found i ≡ Some m
    → bs ≡ leads_to pit how m → (c : ℕ) → Contains bs c → Reaches (leads_to pit how) start c
gone-reached pit how start t old mid w i m bs gone is led c leads =
    let member = found-members pit how start t old mid mid w gone.going refl (Agrees-refl (read_in mid.work.reads)) m (found-within pit how start t old mid w i m gone is).1 in
    next-reached pit how (λ x. known_of mid.work x) start t c (inr (m, member, subst (λ (xs : List ℕ). Contains xs c) led leads))

-- it was stopped at what a member leads to
pub walk-stops : (pit : Pit) (how : Way) (start t : ℕ) (old mid new : TransactionState) (w : WalkState) (i m : ℕ) (bs : List ℕ) (why : StepStop) → IsGone pit how start t old mid w i
    → slice_get w.found i ≡ Some m → bs ≡ leads_to pit how m → StopsAt (Contains bs) mid why new → StopsAt (IsReadNow pit how start t new) old why new
walk-stops pit how start t old mid new w i m bs why gone is led stopped =
    let member = found-members pit how start t old mid new w gone.going stopped.own stopped.same.reads m (found-within pit how start t old mid w i m gone is).1 in
    stopped-more (IsReadNow pit how start t new) old mid new why (going-stops pit how start t old mid new w gone.going stopped.own stopped.same.reads)
    (stopped-map (Contains bs) (IsReadNow pit how start t new) mid new why (λ c leads absent. inr (m, member, subst (λ (xs : List ℕ). Contains xs c) led leads)) stopped)

-- it was stopped behind the walk
pub gone-stops : (pit : Pit) (how : Way) (start t : ℕ) (old mid new : TransactionState) (w : WalkState) (i : ℕ) (why : StepStop) → IsGone pit how start t old mid w i → new ≡ mid → why ≡ stop.NoMemory
    → StopsAt (IsReadNow pit how start t new) old why new
gone-stops pit how start t old mid new w i why gone same memory =
    subst (λ (s : StepStop). StopsAt (IsReadNow pit how start t new) old s new) (sym memory)
    (subst (λ (n : TransactionState). StopsAt (IsReadNow pit how start t n) old stop.NoMemory n) (sym same)
    (going-stops pit how start t old mid mid w gone.going refl (Agrees-refl (read_in mid.work.reads))))

-- so was the step
pub carry-stops : (pit : Pit) (how : Way) (b t : ℕ) (old new : TransactionState) (why : StepStop) → StopsAt (IsReadNow pit how b t new) old why new → StepStopsAt pit old (step.Carry how b t) why new
carry-stops pit how b t old new why is =
    stopped-map (IsReadNow pit how b t new) (IsReadOver pit (read_in new.work.reads) (own_of old.work) (step.Carry how b t)) old new why
    (λ c now absent. (subst (λ (own : Commit). IsNextOf (leads_to pit how) b (members_of pit how (λ x. seen (read_in new.work.reads) own x) b t) c) is.own now, absent)) is

-- ---- and then the members are put

-- over whatever holds the reads, these are the members, and all that was visited they lead to
pub carry-finds : (pit : Pit) (how : Way) (b t : ℕ) (old mid new : TransactionState) (w : WalkState) (i : ℕ) (sorted : List ℕ) → length w.found ≤ i → IsGone pit how b t old mid w i
    → IsPermutation w.found sorted → IsSorted nat_cmp sorted → PutsEach mid sorted t new → (known : Known) → Agrees (read_in new.work.reads) known
    → (members_of pit how (λ c. seen known (own_of old.work) c) b t ≡ sorted) × (is_some (seen known (own_of old.work) b) ≡ true)
    × (all_led (λ a. is_some (seen known (own_of old.work) a)) (leads_to pit how) (members_of pit how (λ c. seen known (own_of old.work) c) b t) ≡ true)
carry-finds pit how b t old mid new w i sorted past gone moved up puts known agrees =
    let before : Agrees (read_in mid.work.reads) known = Agrees-trans (read_in mid.work.reads) (read_in new.work.reads) known puts.same.reads agrees in
    let more : Agrees (λ c. known_of mid.work c) (λ c. seen known (own_of old.work) c) =
    subst (λ (o : Commit). Agrees (λ c. known_of mid.work c) (λ c. seen known o c)) gone.going.own (known-seen mid known before) in
    walk-whole pit.blocks (is_carried how t) (never-carried how t) (leads_to pit how) b (λ c. known_of mid.work c) (λ c. seen known (own_of old.work) c) w.visited w.found sorted gone.going.walk more gone.first
    (λ m a among leads. led-visited m a among leads) moved up
  where
    led-visited : (m a : ℕ) → Contains w.found m → Contains (leads_to pit how m) a → Contains w.visited a
    led-visited m a (k, within, at) leads =
        gone.done k a (omega (arith, within, past)) within (subst (λ (c : ℕ). Contains (leads_to pit how c) a) (sym (sym (get_or_default w.found k m 0 within) ∙ at)) leads)

carry-notes : (pit : Pit) (how : Way) (b t : ℕ) (old mid new : TransactionState) (w : WalkState) (i : ℕ) (sorted members : List ℕ) → IsGone pit how b t old mid w i
    → IsPermutation w.found sorted → PutsEach mid sorted t new → members ≡ sorted → NotesOnly (λ c. IsNextOf (leads_to pit how) b members c × HasNoWrite (own_of old.work) c) old.work.reads new.work.reads
carry-notes pit how b t old mid new w i sorted members gone moved puts same =
    let kept : (m : ℕ) → Contains w.found m → Contains members m = λ m among. subst (λ (xs : List ℕ). Contains xs m) (sym same) (Contains-permutation w.found sorted m moved among) in
    notes-trans (λ c. IsNextOf (leads_to pit how) b members c × HasNoWrite (own_of old.work) c) old.work.reads mid.work.reads new.work.reads
    (notes-map (λ c. Contains w.visited c × HasNoWrite (own_of old.work) c) (λ c. IsNextOf (leads_to pit how) b members c × HasNoWrite (own_of old.work) c)
    (λ c is. (next-kept (leads_to pit how) b w.found members kept c (All-contains (IsNextOf (leads_to pit how) b w.found) w.visited c gone.going.walk.led is.0), is.1)) old.work.reads mid.work.reads gone.going.noted)
    (notes-none (λ c. IsNextOf (leads_to pit how) b members c × HasNoWrite (own_of old.work) c) mid.work.reads new.work.reads puts.reads)

pub carry-does : (pit : Pit) (how : Way) (b t : ℕ) (old mid new : TransactionState) (w : WalkState) (i : ℕ) (sorted : List ℕ) → length w.found ≤ i → IsGone pit how b t old mid w i
    → IsPermutation w.found sorted → IsSorted nat_cmp sorted → PutsEach mid sorted t new → DoesStep pit old (step.Carry how b t) true new
carry-does pit how b t old mid new w i sorted past gone moved up puts = record {
  same = same-trans old mid new gone.going.same puts.same;
  does = λ known agrees.
      let all = carry-finds pit how b t old mid new w i sorted past gone moved up puts known agrees in
      ap (λ (o : Bool). carried o (own_of old.work) (members_of pit how (λ c. seen known (own_of old.work) c) b t) t)
      (both (is_some (seen known (own_of old.work) b)) (all_led (λ a. is_some (seen known (own_of old.work) a)) (leads_to pit how) (members_of pit how (λ c. seen known (own_of old.work) c) b t)) all.1 all.2)
      ∙ ap (λ (ms : List ℕ). changes (with_bench (own_of old.work) ms t)) all.0
      ∙ ap (λ (o : Commit). changes (with_bench o sorted t)) (sym gone.going.own)
      ∙ ap changes (sym puts.own);
  noted = λ known agrees.
      carry-notes pit how b t old mid new w i sorted (members_of pit how (λ c. seen known (own_of old.work) c) b t) gone moved puts
      (carry-finds pit how b t old mid new w i sorted past gone moved up puts known agrees).0;
  stays = λ no. absurd (cc no);
}

-- the same of the vector that was sorted
pub carry-told : (pit : Pit) (how : Way) (b t : ℕ) (old mid new : TransactionState) (w : WalkState) (i : ℕ) (found sorted : List ℕ) → length w.found ≤ i → IsGone pit how b t old mid w i
    → found ≡ w.found → IsPermutation found sorted → IsSorted nat_cmp sorted → PutsEach mid sorted t new
    → DoesStep pit old (step.Carry how b t) true new × (sorted ≡ members_of pit how (λ c. seen (read_in new.work.reads) (own_of old.work) c) b t)
carry-told pit how b t old mid new w i found sorted past gone is moved up puts =
    let from : IsPermutation w.found sorted = subst (λ (xs : List ℕ). IsPermutation xs sorted) is moved in (
      carry-does pit how b t old mid new w i sorted past gone from up puts,
      sym (carry-finds pit how b t old mid new w i sorted past gone from up puts (read_in new.work.reads) (λ c v is. is)).0,
    )

-- Entries that stand planner after planner.
use Rattle.std.proofs.lemmas.List.{append-nil}
use Rattle.std.proofs.lemmas.List.Elements.{All-nil, All-cons, All-head, All-tail, All-append, All-weaker}
use Rattle.std.proofs.lemmas.Option.{slice_get_within, get_or_from_slice_get}
use Rattle.std.proofs.lemmas.Bool.Decides.{leb_tells, nat_tests}
use Rattle.std.proofs.Common.{◌≡◌, ℕ, zero, suc, ◌+◌, ◌<◌, ◌≤◌, ◌==◌, Bool, true, false, List, [], ◌∷◌, ◌++◌, length, drop, refl, sym, ap, subst, ◌∙◌, arith, inl, inr}
use Rattle.std.specs.Prelude.{All, Some, slice_get, if◌then◌else◌, ◌≢◌}
use Rattle.pit_desk.specs.History.{Answered}
use Rattle.pit_share.specs.Logs.{entries_of}
use Rattle.pit_run.specs.Turns.{entries_by_planner, IsInTurn}

-- ---- the entries of one planner

abbrev pub IsOf : ℕ → Answered → Type 0
IsOf planner e = e.call.planner ≡ planner

entries_of-append : (q : ℕ) (xs ys : List Answered) → entries_of q (xs ++ ys) ≡ entries_of q xs ++ entries_of q ys
entries_of-append q [] ys = refl
entries_of-append q (x ∷ xs) ys = by (x.call.planner == q) refl (entries_of-append q xs ys)
  where
    by : (b : Bool) → (x.call.planner == q) ≡ b → entries_of q (xs ++ ys) ≡ entries_of q xs ++ entries_of q ys → entries_of q ((x ∷ xs) ++ ys) ≡ entries_of q (x ∷ xs) ++ entries_of q ys
    by true is rest = simp is (ap (λ (es : List Answered). x ∷ es) rest)
    by false is rest = simp is rest

pub entries_of-own : (q : ℕ) (xs : List Answered) → All (IsOf q) xs → entries_of q xs ≡ xs
entries_of-own q [] own = refl
entries_of-own q (x ∷ xs) own =
    let here : x.call.planner ≡ q = All-head (IsOf q) x xs own in
    let is : (x.call.planner == q) ≡ true = grind (arith, nat_tests, here) in
    simp is (ap (λ (es : List Answered). x ∷ es) (entries_of-own q xs (All-tail (IsOf q) x xs own)))

entries_of-others : (q : ℕ) (xs : List Answered) → All (λ e. e.call.planner ≢ q) xs → entries_of q xs ≡ []
entries_of-others q [] others = refl
entries_of-others q (x ∷ xs) others =
    let here : x.call.planner ≢ q = All-head (λ e. e.call.planner ≢ q) x xs others in
    let is : (x.call.planner == q) ≡ false = grind (arith, nat_tests, here) in
    simp is (entries_of-others q xs (All-tail (λ e. e.call.planner ≢ q) x xs others))

entries_of-are : (q : ℕ) (xs : List Answered) → All (IsOf q) (entries_of q xs)
entries_of-are q [] = All-nil (IsOf q)
entries_of-are q (x ∷ xs) = by (x.call.planner == q) refl (entries_of-are q xs)
  where
    by : (b : Bool) → (x.call.planner == q) ≡ b → All (IsOf q) (entries_of q xs) → All (IsOf q) (if b then x ∷ entries_of q xs else entries_of q xs)
    by true is rest = All-cons (IsOf q) x (entries_of q xs) (grind (arith, nat_tests, is)) rest
    by false is rest = rest

-- where a planner has no entry, none is its
pub none-of : (q : ℕ) (xs : List Answered) → entries_of q xs ≡ [] → All (λ e. e.call.planner ≢ q) xs
none-of q [] none = All-nil (λ e. e.call.planner ≢ q)
none-of q (x ∷ xs) none = by (x.call.planner == q) refl none (none-of q xs)
  where
    by : (b : Bool) → (x.call.planner == q) ≡ b → (if b then x ∷ entries_of q xs else entries_of q xs) ≡ [] → (entries_of q xs ≡ [] → All (λ e. e.call.planner ≢ q) xs) → All (λ e. e.call.planner ≢ q) (x ∷ xs)
    by true is rest more = absurd (cc rest)
    by false is rest more = All-cons (λ e. e.call.planner ≢ q) x xs (λ same. absurd (grind (arith, nat_tests, is, same))) (more rest)

-- ---- the entries of planner after planner

abbrev pub IsUpTo : ℕ → Answered → Type 0
IsUpTo k e = e.call.planner ≤ k

pub by_planner-up_to : (k : ℕ) (es : List Answered) → All (IsUpTo k) (entries_by_planner k es)
by_planner-up_to zero es = All-nil (IsUpTo 0)
by_planner-up_to (suc k) es =
    All-append (IsUpTo (suc k)) (entries_by_planner k es) (entries_of (suc k) es)
    (All-weaker (IsUpTo k) (IsUpTo (suc k)) (λ e few. omega (arith, few)) (entries_by_planner k es) (by_planner-up_to k es))
    (All-weaker (IsOf (suc k)) (IsUpTo (suc k)) (λ e is. omega (arith, is)) (entries_of (suc k) es) (entries_of-are (suc k) es))

-- entries of a later planner change nothing of an earlier one's
pub entries_of-earlier : (q k : ℕ) (past own : List Answered) → q ≤ k → All (IsOf (suc k)) own → entries_of q (past ++ own) ≡ entries_of q past
entries_of-earlier q k past own early all =
    let none = entries_of-others q own (All-weaker (IsOf (suc k)) (λ e. e.call.planner ≢ q) (λ e is same. absurd (omega (arith, is, same, early))) own all) in
    entries_of-append q past own ∙ (ap (λ (es : List Answered). entries_of q past ++ es) none ∙ append-nil (entries_of q past))

pub by_planner-earlier : (m k : ℕ) (past own : List Answered) → m ≤ k → All (IsOf (suc k)) own → entries_by_planner m (past ++ own) ≡ entries_by_planner m past
by_planner-earlier zero k past own early all = refl
by_planner-earlier (suc m) k past own early all =
    let before = by_planner-earlier m k past own (omega (arith, early)) all in
    let here = entries_of-earlier (suc m) k past own early all in
    ap (λ (es : List Answered). es ++ entries_of (suc m) (past ++ own)) before ∙ ap (λ (es : List Answered). entries_by_planner m past ++ es) here

-- and are all of its own
pub entries_of-last : (k : ℕ) (past own : List Answered) → All (IsUpTo k) past → All (IsOf (suc k)) own → entries_of (suc k) (past ++ own) ≡ own
entries_of-last k past own few all =
    let none = entries_of-others (suc k) past (All-weaker (IsUpTo k) (λ e. e.call.planner ≢ suc k) (λ e less same. absurd (omega (arith, less, same))) past few) in
    entries_of-append (suc k) past own ∙ (ap (λ (es : List Answered). es ++ entries_of (suc k) own) none ∙ entries_of-own (suc k) own all)

pub by_planner-next : (k : ℕ) (past own : List Answered) → past ≡ entries_by_planner k past → All (IsOf (suc k)) own → past ++ own ≡ entries_by_planner (suc k) (past ++ own)
by_planner-next k past own turns all =
    let few : All (IsUpTo k) past = subst (All (IsUpTo k)) (sym turns) (by_planner-up_to k past) in
    let before : past ≡ entries_by_planner k (past ++ own) = turns ∙ sym (by_planner-earlier k k past own (omega arith) all) in
    let last = entries_of-last k past own few all in
    ap (λ (es : List Answered). es ++ own) before ∙ ap (λ (es : List Answered). entries_by_planner k (past ++ own) ++ es) (sym last)

-- ---- the planners' numbers never fall

pub get-front : {X : Type 0} (xs ys : List X) (k : ℕ) (x : X) → k < length xs → slice_get (xs ++ ys) k ≡ Some x → slice_get xs k ≡ Some x
get-front [] ys k x less at = absurd (omega (arith, less))
get-front (y ∷ xs) ys zero x less at = at
get-front (y ∷ xs) ys (suc k) x less at = get-front xs ys k x (omega (arith, less)) at

pub all-at : {X : Type 0} (P : X → Type 0) (xs : List X) (i : ℕ) (x : X) → All P xs → slice_get xs i ≡ Some x → P x
all-at P xs i x all at = subst P (get_or_from_slice_get xs i x x at) (all i x (slice_get_within xs i x at))

pub get-back : {X : Type 0} (xs ys : List X) (i : ℕ) (x : X) → length xs ≤ i → slice_get (xs ++ ys) i ≡ Some x → (m : ℕ) × (i ≡ length xs + m) × (slice_get ys m ≡ Some x)
get-back [] ys i x past at = (i, omega arith, at)
get-back (y ∷ xs) ys zero x past at = absurd (omega (arith, past))
get-back (y ∷ xs) ys (suc i) x past at =
    let back = get-back xs ys i x (omega (arith, past)) at in
    (back.0, omega (arith, back.1), back.2)

pub get-more : {X : Type 0} (xs ys : List X) (k : ℕ) (x : X) → slice_get xs k ≡ Some x → slice_get (xs ++ ys) k ≡ Some x
get-more [] ys k x at = absurd (cc at)
get-more (y ∷ xs) ys zero x at = at
get-more (y ∷ xs) ys (suc k) x at = get-more xs ys k x at

pub get-last : {X : Type 0} (xs : List X) (x : X) → slice_get (xs ++ x ∷ []) (length xs) ≡ Some x
get-last [] x = refl
get-last (y ∷ xs) x = get-last xs x

by_planner-rises : (k : ℕ) (es : List Answered) (i j : ℕ) (e f : Answered) → i ≤ j → slice_get (entries_by_planner k es) i ≡ Some e → slice_get (entries_by_planner k es) j ≡ Some f
    → e.call.planner ≤ f.call.planner
by_planner-rises zero es i j e f order at there = absurd (omega (arith, slice_get_within (entries_by_planner zero es) i e at))
by_planner-rises (suc k) es i j e f order at there =
    let before = entries_by_planner k es in
    let last = entries_of (suc k) es in
    elim (leb_tells (length before) j) [
      | inl late ↦
          let back = get-back before last j f late.1 there in
          let highest : f.call.planner ≡ suc k = all-at (IsOf (suc k)) last back.0 f (entries_of-are (suc k) es) back.2 in
          let few : e.call.planner ≤ suc k = all-at (IsUpTo (suc k)) (entries_by_planner (suc k) es) i e (by_planner-up_to (suc k) es) at in
          omega (arith, highest, few)
      | inr early ↦
          let less : j < length before = omega (arith, early.1) in
          by_planner-rises k es i j e f order (get-front before last i e (omega (arith, less, order)) at) (get-front before last j f less there)
    ]

pub in-turn-rises : (planners : ℕ) (opening history : List Answered) → IsInTurn planners opening history → (i j : ℕ) (e f : Answered) → length opening ≤ i → i ≤ j
    → slice_get history i ≡ Some e → slice_get history j ≡ Some f → e.call.planner ≤ f.call.planner
in-turn-rises planners opening history turns i j e f past order at there =
    let es = entries_by_planner planners (drop (length opening) history) in
    let here = get-back opening es i e past (sym (ap (λ (h : List Answered). slice_get h i) turns.turns) ∙ at) in
    let later = get-back opening es j f (omega (arith, past, order)) (sym (ap (λ (h : List Answered). slice_get h j) turns.turns) ∙ there) in
    by_planner-rises planners (drop (length opening) history) here.0 later.0 e f (omega (arith, here.1, later.1, order)) here.2 later.2

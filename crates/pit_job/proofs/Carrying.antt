-- What a line that carries along does to a schedule.
use Rattle.std.proofs.Common.{inl, inr, ◌≡◌, ℕ, nat_eq, ◌+◌, ◌<◌, length, get_or, Bool, true, false, cond, ◌||◌, eqb, List, [], ◌∷◌, Option, Some, None, unwrap_or, refl, sym, ap, subst, ◌∙◌, arith, eq-eqb, eqb-true}
use Rattle.std.specs.Prelude.{is_some, if◌then◌else◌}
use Rattle.std.specs.Map.{lookup}
use Rattle.std.specs.List.{All, Contains, filter, list_any, range_with_len}
use Rattle.std.specs.List.Sorted.{IsStrictlyIncreasing}
use Rattle.std.proofs.lemmas.Bool.{cases_Bool, cases_lt, false≢true}
use Rattle.std.proofs.lemmas.Bool.Decides.{nat_tests}
use Rattle.std.proofs.lemmas.List.{get_or_past}
use Rattle.std.proofs.lemmas.List.Elements.{All-contains, All-filter, filter_passes, Contains-get_or}
use Rattle.std.proofs.lemmas.List.FromFn.{length-range_with_len, get_or-range_with_len}
use Rattle.std.proofs.lemmas.List.Kept.{IsStrictlyIncreasing-filter}
use Rattle.indexmap.specs.IndexMap.{insert_entry}
use Rattle.pit_model.specs.Pit.{Pit, IsSound, preds_of, preds_in, succs_in}
use Rattle.pit_plan.specs.Schedule.{Commit, in_order}
use Rattle.pit_plan.specs.Breaches.{IsOrdered}
use Rattle.pit_keyed.specs.Keyed.{at_key}
use Rattle.pit_script.specs.declared.step.Step.TheVariants as step
use Rattle.pit_script.specs.declared.step.Way.{Way}
use Rattle.pit_script.specs.declared.step.Way.TheVariants as way
use Rattle.pit_job.specs.Cones.{in_round, cone_of, all_led, Reaches, here, further}
use Rattle.pit_job.specs.Effect.{changes, carried, seen, whole, with_written, with_bench, is_late, is_early, is_carried, leads_to, step_after}
use Rattle.pit_job.specs.Carried.{laid_over, members_over, AreMembers, IsPlaced, KeepsOrder}
use Rattle.pit_job.proofs.Cones.{both, same-from, is_in-from, from-is_in, all-range, round-least, round-wanted, cone-starts, cone-closed, cone-has, has-cone, cone-reached, cone-ancestors, filter-has, range-has}
use Rattle.pit_job.proofs.Walks.{led-from}

-- ---- writes

flips : (x y : ℕ) → eqb x y ≡ eqb y x
flips x y = same-from (eqb x y) (eqb y x) (λ is. eq-eqb y x (sym (eqb-true x y is))) (λ is. eq-eqb x y (sym (eqb-true y x is)))

written : (es : List (ℕ × Option ℕ)) (c : ℕ) (v : Option ℕ) (k : ℕ) → lookup (nat_eq k) (insert_entry nat_eq es c v) ≡ cond (eqb c k) (Some v) (lookup (nat_eq k) es)
written [] c v k = ap (λ (o : Bool). cond o (Some v) None) (flips k c)
written (e ∷ es) c v k = by (eqb c e.0) (eqb c k) (eqb k e.0) refl refl refl (written es c v k)
  where
    by : (x y z : Bool) → eqb c e.0 ≡ x → eqb c k ≡ y → eqb k e.0 ≡ z → lookup (nat_eq k) (insert_entry nat_eq es c v) ≡ cond (eqb c k) (Some v) (lookup (nat_eq k) es)
        → lookup (nat_eq k) (cond x ((e.0, v) ∷ es) (e ∷ insert_entry nat_eq es c v)) ≡ cond y (Some v) (cond z (Some e.1) (lookup (nat_eq k) es))
    by true true true f g h later = ap (λ (o : Bool). cond o (Some v) (lookup (nat_eq k) es)) h
    by true true false f g h later = absurd (false≢true (sym h ∙ eq-eqb k e.0 (sym (eqb-true c k g) ∙ eqb-true c e.0 f)))
    by true false true f g h later = absurd (false≢true (sym g ∙ eq-eqb c k (eqb-true c e.0 f ∙ sym (eqb-true k e.0 h))))
    by true false false f g h later = ap (λ (o : Bool). cond o (Some v) (lookup (nat_eq k) es)) h
    by false true true f g h later = absurd (false≢true (sym f ∙ eq-eqb c e.0 (eqb-true c k g ∙ eqb-true k e.0 h)))
    by false true false f g h later = ap (λ (o : Bool). cond o (Some e.1) (lookup (nat_eq k) (insert_entry nat_eq es c v))) h ∙ later ∙ ap (λ (o : Bool). cond o (Some v) (lookup (nat_eq k) es)) g
    by false false true f g h later = ap (λ (o : Bool). cond o (Some e.1) (lookup (nat_eq k) (insert_entry nat_eq es c v))) h
    by false false false f g h later = ap (λ (o : Bool). cond o (Some e.1) (lookup (nat_eq k) (insert_entry nat_eq es c v))) h ∙ later ∙ ap (λ (o : Bool). cond o (Some v) (lookup (nat_eq k) es)) g

-- all of a bench have the period, and all else is as it was
benched : (ms : List ℕ) (own : Commit) (t k : ℕ) → at_key nat_eq (with_bench own ms t).writes k ≡ cond (list_any (λ m. eqb m k) ms) (Some (Some t)) (at_key nat_eq own.writes k)
benched [] own t k = refl
benched (m ∷ ms) own t k =
    benched ms (with_written own m (Some t)) t k
    ∙ ap (λ (o : Option (Option ℕ)). cond (list_any (λ x. eqb x k) ms) (Some (Some t)) o) (written own.writes m (Some t) k)
    ∙ by (list_any (λ x. eqb x k) ms) (eqb m k)
  where
    by : (x y : Bool) → cond x (Some (Some t)) (cond y (Some (Some t)) (at_key nat_eq own.writes k)) ≡ cond (y || x) (Some (Some t)) (at_key nat_eq own.writes k)
    by true true = refl
    by true false = refl
    by false true = refl
    by false false = refl

laid-benched : (schedule : ℕ → Option ℕ) (own : Commit) (ms : List ℕ) (t k : ℕ) → laid_over schedule (with_bench own ms t) k ≡ cond (list_any (λ m. eqb m k) ms) (Some t) (laid_over schedule own k)
laid-benched schedule own ms t k = ap (λ (o : Option (Option ℕ)). unwrap_or o (schedule k)) (benched ms own t k) ∙ by (list_any (λ m. eqb m k) ms)
  where
    by : (x : Bool) → unwrap_or (cond x (Some (Some t)) (at_key nat_eq own.writes k)) (schedule k) ≡ cond x (Some t) (laid_over schedule own k)
    by true = refl
    by false = refl

-- a whole schedule is known
seen-whole : (schedule : ℕ → Option ℕ) (own : Commit) (b : ℕ) → seen (whole schedule) own b ≡ Some (laid_over schedule own b)
seen-whole schedule own b = by (at_key nat_eq own.writes b)
  where
    by : (o : Option (Option ℕ)) → (if is_some o then o else Some (schedule b)) ≡ Some (unwrap_or o (schedule b))
    by None = refl
    by (Some v) = refl

known-whole : (schedule : ℕ → Option ℕ) (own : Commit) (b : ℕ) → is_some (seen (whole schedule) own b) ≡ true
known-whole schedule own b = ap (λ (o : Option (Option ℕ)). is_some o) (seen-whole schedule own b)

-- so the members are put
pub carry-whole : (pit : Pit) (schedule : ℕ → Option ℕ) (own : Commit) (how : Way) (b t : ℕ)
    → step_after pit (whole schedule) own (step.Carry how b t) ≡ changes (with_bench own (members_over pit how schedule own b t) t)
carry-whole pit schedule own how b t =
    ap (λ (o : Bool). carried o own (members_over pit how schedule own b t) t)
    (both (is_some (seen (whole schedule) own b)) (all_led (λ a. is_some (seen (whole schedule) own a)) (leads_to pit how) (members_over pit how schedule own b t)) (known-whole schedule own b)
    (led-from (λ a. is_some (seen (whole schedule) own a)) (leads_to pit how) (members_over pit how schedule own b t) (λ m a among leads. known-whole schedule own a)))

-- ---- what leads where

succs-has : (preds : List (Option (List ℕ))) (m a : ℕ) → Contains (succs_in preds m) a → (a < length preds) × Contains (preds_in preds a) m
unfolding succs_in
succs-has preds m a among = (
  All-contains (λ x. x < length preds) (filter (λ later. list_any (λ x. eqb x m) (preds_in preds later)) (range_with_len 0 (length preds))) a
      (All-filter (λ later. list_any (λ x. eqb x m) (preds_in preds later)) (λ x. x < length preds) (range_with_len 0 (length preds)) (all-range (λ x. x < length preds) (length preds) (λ b less. less))) among,
  from-is_in m (preds_in preds a)
      (All-contains (λ later. list_any (λ x. eqb x m) (preds_in preds later) ≡ true) (filter (λ later. list_any (λ x. eqb x m) (preds_in preds later)) (range_with_len 0 (length preds))) a
      (filter_passes (λ later. list_any (λ x. eqb x m) (preds_in preds later)) (range_with_len 0 (length preds))) among),
)

has-succs : (preds : List (Option (List ℕ))) (m a : ℕ) → a < length preds → Contains (preds_in preds a) m → Contains (succs_in preds m) a
unfolding succs_in
has-succs preds m a less among =
    filter-has (λ later. list_any (λ x. eqb x m) (preds_in preds later)) (range_with_len 0 (length preds)) a (range-has (length preds) a less) (is_in-from m (preds_in preds a) among)

-- a predecessor and its block are blocks of the pit
pred-inside : (pit : Pit) → IsSound pit → (b a : ℕ) → Contains (preds_of pit b) a → (b < pit.blocks) × (a < pit.blocks)
pred-inside pit sound b a among = (
  elim (cases_lt b pit.blocks) [
    | inl less ↦ less
    | inr past ↦
        let none = ap (λ (o : Option (List ℕ)). unwrap_or o []) (get_or_past pit.preds b None (let long = sound.each_preds in omega arith)) in
        absurd (nothing-in a (subst (λ (xs : List ℕ). Contains xs a) none among))
  ],
  All-contains (λ x. x < pit.blocks) (preds_of pit b) a (sound.preds b).in_range among,
)
  where
    nothing-in : (a : ℕ) → Contains [] a → ⊥
    nothing-in a among = omega (arith, among.1)

pub leads-inside : (pit : Pit) → IsSound pit → (how : Way) (m a : ℕ) → Contains (leads_to pit how m) a → (m < pit.blocks) × (a < pit.blocks)
leads-inside pit sound way.Cone m a among = pred-inside pit sound m a among
leads-inside pit sound way.Push m a among = let h = succs-has pit.preds m a among in let pair = pred-inside pit sound a m h.1 in (pair.1, pair.0)

-- ---- the least set

late-over : (schedule : ℕ → Option ℕ) (own : Commit) (how : Way) (t c : ℕ) → is_carried how t (seen (whole schedule) own c) ≡ is_carried how t (Some (laid_over schedule own c))
late-over schedule own how t c = ap (is_carried how t) (seen-whole schedule own c)

rising-cone : (blocks : ℕ) (late : ℕ → Bool) (next : ℕ → List ℕ) (start : ℕ) → IsStrictlyIncreasing (cone_of blocks late next start)
unfolding cone_of
rising-cone blocks late next start = IsStrictlyIncreasing-filter (λ b. in_round blocks late next start blocks b) (range_with_len 0 blocks) (rising-range blocks)
  where
    rising-range : (n : ℕ) → IsStrictlyIncreasing (range_with_len 0 n)
    rising-range n k within =
        let long = length-range_with_len 0 n in
        let here : get_or (range_with_len 0 n) k 0 ≡ 0 + k = get_or-range_with_len 0 n k 0 (omega arith) in
        let next : get_or (range_with_len 0 n) (k + 1) 0 ≡ 0 + (k + 1) = get_or-range_with_len 0 n (k + 1) 0 (omega arith) in
        omega arith

pub are-members : (pit : Pit) → IsSound pit → (schedule : ℕ → Option ℕ) (own : Commit) (how : Way) (b t : ℕ) → b < pit.blocks → AreMembers pit how (laid_over schedule own) b t (members_over pit how schedule own b t)
are-members pit sound schedule own how b t less =
    let late : ℕ → Bool = λ c. is_carried how t (seen (whole schedule) own c) in
    record {
      rising = rising-cone pit.blocks (λ c. is_carried how t (seen (whole schedule) own c)) (leads_to pit how) b;
      each = each-of (λ m. is_carried how t (Some (laid_over schedule own m)) ≡ true) (members_over pit how schedule own b t) (λ m among.
          sym (late-over schedule own how t m) ∙ round-wanted pit.blocks late (leads_to pit how) b pit.blocks m (has-cone pit.blocks late (leads_to pit how) b m among).1);
      begins = λ is. cone-has pit.blocks late (leads_to pit how) b b less (cone-starts pit.blocks late (leads_to pit how) b (late-over schedule own how t b ∙ is));
      closed = λ m a among leads is.
          let inside = leads-inside pit sound how m a leads in
          cone-has pit.blocks late (leads_to pit how) b a inside.1
          (cone-closed pit.blocks late (leads_to pit how) b a m inside.1 (late-over schedule own how t a ∙ is) inside.0 leads (has-cone pit.blocks late (leads_to pit how) b m among).1);
      least = λ X first more. each-of (λ m. X m ≡ true) (members_over pit how schedule own b t) (λ m among.
          round-least pit.blocks late (leads_to pit how) b (λ m. X m ≡ true) (λ is. first (sym (late-over schedule own how t b) ∙ is)) (λ a c is within leads before. more c a before leads (sym (late-over schedule own how t a) ∙ is))
          pit.blocks m (has-cone pit.blocks late (leads_to pit how) b m among).1);
    }
  where
    each-of : (P : ℕ → Type 0) (xs : List ℕ) → ((x : ℕ) → Contains xs x → P x) → All P xs
    each-of P xs f k d lt = f (get_or xs k d) (Contains-get_or xs k d lt)

-- ---- on a schedule in order

-- whatever leads to something late, or early, is so itself
downward : (pit : Pit) (held : ℕ → Option ℕ) → IsOrdered pit held → (how : Way) (t m a : ℕ) → Contains (leads_to pit how m) a → is_carried how t (Some (held a)) ≡ true → is_carried how t (Some (held m)) ≡ true
downward pit held ordered way.Cone t m a leads is = by (held m) (held a) (ordered m a leads) is
  where
    by : (x y : Option ℕ) → in_order x y ≡ true → is_late t (Some y) ≡ true → is_late t (Some x) ≡ true
    by None y o late = refl
    by (Some u) None o late = absurd (false≢true o)
    by (Some u) (Some v) o late = grind (arith, nat_tests, o, late)
downward pit held ordered way.Push t m a leads is = by (held a) (held m) (ordered a m (succs-has pit.preds m a leads).1) is
  where
    by : (x y : Option ℕ) → in_order x y ≡ true → is_early t (Some x) ≡ true → is_early t (Some y) ≡ true
    by None y o early = absurd (false≢true early)
    by (Some u) None o early = absurd (false≢true o)
    by (Some u) (Some v) o early = grind (arith, nat_tests, o, early)

pub members-reached : (pit : Pit) → IsSound pit → (schedule : ℕ → Option ℕ) (own : Commit) (how : Way) (b t c : ℕ) → Contains (members_over pit how schedule own b t) c
    → Reaches (leads_to pit how) b c × (is_carried how t (Some (laid_over schedule own c)) ≡ true)
members-reached pit sound schedule own how b t c among =
    let late : ℕ → Bool = λ x. is_carried how t (seen (whole schedule) own x) in
    let found = (has-cone pit.blocks late (leads_to pit how) b c among).1 in
    (cone-reached pit.blocks late (leads_to pit how) b pit.blocks c found, sym (late-over schedule own how t c) ∙ round-wanted pit.blocks late (leads_to pit how) b pit.blocks c found)

pub reached-members : (pit : Pit) → IsSound pit → (schedule : ℕ → Option ℕ) (own : Commit) (how : Way) (b t : ℕ) → b < pit.blocks → IsOrdered pit (laid_over schedule own) → (c : ℕ)
    → Reaches (leads_to pit how) b c → is_carried how t (Some (laid_over schedule own c)) ≡ true → Contains (members_over pit how schedule own b t) c
reached-members pit sound schedule own how b t less ordered c reaches is =
    let late : ℕ → Bool = λ x. is_carried how t (seen (whole schedule) own x) in
    cone-has pit.blocks late (leads_to pit how) b c (reached-below c reaches)
    (cone-ancestors pit.blocks late (leads_to pit how) b
    (λ m a leads a_late. late-over schedule own how t m ∙ downward pit (laid_over schedule own) ordered how t m a leads (sym (late-over schedule own how t a) ∙ a_late))
    (λ m a leads. leads-inside pit sound how m a leads) c reaches (late-over schedule own how t c ∙ is))
  where
    reached-below : (c : ℕ) → Reaches (leads_to pit how) b c → c < pit.blocks
    reached-below c here = less
    reached-below c (further m c' before leads) = (leads-inside pit sound how m c leads).1

-- ---- the block itself

placed-at : (how : Way) (t : ℕ) → IsPlaced how t (Some t)
placed-at way.Cone t = omega arith
placed-at way.Push t = omega arith

-- where it isn't carried along
placed-else : (how : Way) (t : ℕ) (x : Option ℕ) → is_carried how t (Some x) ≡ false → IsPlaced how t x
placed-else way.Cone t None is = absurd (false≢true (sym is))
placed-else way.Cone t (Some u) is = grind (arith, nat_tests, is)
placed-else way.Push t None is = tt
placed-else way.Push t (Some u) is = grind (arith, nat_tests, is)

pub carry-places : (pit : Pit) → IsSound pit → (schedule : ℕ → Option ℕ) (own : Commit) (how : Way) (b t : ℕ) → b < pit.blocks
    → IsPlaced how t (laid_over schedule (with_bench own (members_over pit how schedule own b t) t) b)
carry-places pit sound schedule own how b t less =
    subst (IsPlaced how t) (sym (laid-benched schedule own (members_over pit how schedule own b t) t b)) (by (list_any (λ m. eqb m b) (members_over pit how schedule own b t)) refl)
  where
    by : (c : Bool) → list_any (λ m. eqb m b) (members_over pit how schedule own b t) ≡ c → IsPlaced how t (cond c (Some t) (laid_over schedule own b))
    by true e = placed-at how t
    by false e = elim (cases_Bool (is_carried how t (Some (laid_over schedule own b)))) [
      | inl is ↦ absurd (false≢true (sym e ∙ is_in-from b (members_over pit how schedule own b t) ((are-members pit sound schedule own how b t less).begins is)))
      | inr is ↦ placed-else how t (laid_over schedule own b) is
    ]

-- ---- pairs

cone-in : (t : ℕ) (y : Option ℕ) → is_late t (Some y) ≡ false → in_order (Some t) y ≡ true
cone-in t None wrong = absurd (false≢true (sym wrong))
cone-in t (Some v) wrong = grind (arith, nat_tests, wrong)

cone-out : (t : ℕ) (x y : Option ℕ) → is_late t (Some y) ≡ true → in_order x (Some t) ≡ false → in_order x y ≡ false
cone-out t None y is wrong = absurd (false≢true (sym wrong))
cone-out t (Some u) None is wrong = refl
cone-out t (Some u) (Some v) is wrong = grind (arith, nat_tests, is, wrong)

push-in : (t : ℕ) (x : Option ℕ) → is_early t (Some x) ≡ false → in_order x (Some t) ≡ true
push-in t None wrong = refl
push-in t (Some u) wrong = grind (arith, nat_tests, wrong)

push-out : (t : ℕ) (x y : Option ℕ) → is_early t (Some x) ≡ true → in_order (Some t) y ≡ false → in_order x y ≡ false
push-out t None y is wrong = absurd (false≢true is)
push-out t (Some u) None is wrong = refl
push-out t (Some u) (Some v) is wrong = grind (arith, nat_tests, is, wrong)

same-order : (t : ℕ) → in_order (Some t) (Some t) ≡ true
same-order t = grind (arith, nat_tests)

-- p is the block and a its predecessor, where these are members or not
cone-pair : (t : ℕ) (x y : Option ℕ) (p a : Bool) → (p ≡ true → is_late t (Some y) ≡ true → a ≡ true) → (a ≡ true → is_late t (Some y) ≡ true) → in_order (cond p (Some t) x) (cond a (Some t) y) ≡ false
    → (in_order x y ≡ false) × (p ≡ false)
cone-pair t x y true true closed late wrong = absurd (false≢true (sym wrong ∙ same-order t))
cone-pair t x y true false closed late wrong = elim (cases_Bool (is_late t (Some y))) [
  | inl is ↦ absurd (false≢true (closed refl is))
  | inr is ↦ absurd (false≢true (sym wrong ∙ cone-in t y is))
]
cone-pair t x y false true closed late wrong = (cone-out t x y (late refl) wrong, refl)
cone-pair t x y false false closed late wrong = (wrong, refl)

push-pair : (t : ℕ) (x y : Option ℕ) (p a : Bool) → (a ≡ true → is_early t (Some x) ≡ true → p ≡ true) → (p ≡ true → is_early t (Some x) ≡ true) → in_order (cond p (Some t) x) (cond a (Some t) y) ≡ false
    → (in_order x y ≡ false) × (a ≡ false)
push-pair t x y true true closed early wrong = absurd (false≢true (sym wrong ∙ same-order t))
push-pair t x y false true closed early wrong = elim (cases_Bool (is_early t (Some x))) [
  | inl is ↦ absurd (false≢true (closed refl is))
  | inr is ↦ absurd (false≢true (sym wrong ∙ push-in t x is))
]
push-pair t x y true false closed early wrong = (push-out t x y (early refl) wrong, refl)
push-pair t x y false false closed early wrong = (wrong, refl)

-- an old and a new schedule, where the members have the period
order-kept : (pit : Pit) → IsSound pit → (how : Way) (held : ℕ → Option ℕ) (b t : ℕ) (ms : List ℕ) → AreMembers pit how held b t ms → KeepsOrder pit how held (λ c. cond (list_any (λ m. eqb m c) ms) (Some t) (held c)) ms
order-kept pit sound way.Cone held b t ms members p a pred wrong =
    let h = cone-pair t (held p) (held a) (list_any (λ m. eqb m p) ms) (list_any (λ m. eqb m a) ms)
    (λ in_it is. is_in-from a ms (members.closed p a (from-is_in p ms in_it) pred is))
    (λ in_it. All-contains (λ m. is_late t (Some (held m)) ≡ true) ms a members.each (from-is_in a ms in_it)) wrong in
    (h.0, λ among. false≢true (sym h.1 ∙ is_in-from p ms among))
order-kept pit sound way.Push held b t ms members p a pred wrong =
    let leads : Contains (leads_to pit way.Push a) p = has-succs pit.preds a p (let long = sound.each_preds in let less = (pred-inside pit sound p a pred).0 in omega arith) pred in
    let h = push-pair t (held p) (held a) (list_any (λ m. eqb m p) ms) (list_any (λ m. eqb m a) ms)
    (λ in_it is. is_in-from p ms (members.closed a p (from-is_in a ms in_it) leads is))
    (λ in_it. All-contains (λ m. is_early t (Some (held m)) ≡ true) ms p members.each (from-is_in p ms in_it)) wrong in
    (h.0, λ among. false≢true (sym h.1 ∙ is_in-from a ms among))

pub carry-keeps : (pit : Pit) → IsSound pit → (schedule : ℕ → Option ℕ) (own : Commit) (how : Way) (b t : ℕ) → b < pit.blocks
    → KeepsOrder pit how (laid_over schedule own) (laid_over schedule (with_bench own (members_over pit how schedule own b t) t)) (members_over pit how schedule own b t)
carry-keeps pit sound schedule own how b t less p a pred wrong =
    order-kept pit sound how (laid_over schedule own) b t (members_over pit how schedule own b t) (are-members pit sound schedule own how b t less) p a pred
    (sym (ap (λ (x : Option ℕ). in_order x (cond (list_any (λ m. eqb m a) (members_over pit how schedule own b t)) (Some t) (laid_over schedule own a))) (laid-benched schedule own (members_over pit how schedule own b t) t p))
    ∙ sym (ap (λ (y : Option ℕ). in_order (laid_over schedule (with_bench own (members_over pit how schedule own b t) t) p) y) (laid-benched schedule own (members_over pit how schedule own b t) t a)) ∙ wrong)

-- What steps do to a transaction.
use Rattle.std.proofs.Math.Seq.{drop-cons}
use Rattle.std.proofs.lemmas.List.{drop_all}
use Rattle.std.proofs.lemmas.Bool.Decides.{eqb_tells}
use Rattle.std.proofs.Common.{inl, inr, ◌≡◌, ℕ, ℤ, nat_eq, ◌+◌, ◌<◌, ◌≤◌, length, get_or, drop, add-one, Bool, true, false, cond, List, [], ◌∷◌, ◌++◌, Option, Some, None, refl, sym, ap, subst, ◌∙◌}
use Rattle.std.specs.Prelude.{is_some, if◌then◌else◌, Result, Ok, Err, IfOk, OnOk, OnErr}
use Rattle.pit_model.specs.Pit.{Pit}
use Rattle.pit_plan.specs.Schedule.{Commit}
use Rattle.pit_model.specs.Fitting.{pair_eq}
use Rattle.pit_keyed.specs.Keyed.{at_key, with_write}
use Rattle.pit_tx.specs.Sets.{Sets, known_of}
use Rattle.pit_share.specs.Planners.{TransactionState, SeesOn}
use Rattle.pit_share.specs.Reads.{IsNoted, IsLookedUp}
use Rattle.pit_share.specs.declared.error.ReadStop.{ReadStop}
use Rattle.pit_script.specs.Benches.{bench_of}
use Rattle.pit_script.specs.declared.step.Step.{Step}
use Rattle.pit_script.specs.declared.step.Step.TheVariants as step
use Rattle.pit_job.specs.Effect.{Agrees, Known, Effect, changes, read_in, seen, looked, moved_by, put_at, with_written, with_revised, with_bench, step_after, next, steps_after, up_to, changes_after}
use Rattle.pit_job.specs.Shifts.{shifted}
use Rattle.pit_job.specs.declared.doing.StepStop.{StepStop}
use Rattle.pit_job.specs.declared.doing.StepStop.TheVariants as stop
use Rattle.pit_job.proofs.Agreeing.{seen-agrees}
use Rattle.pit_job.specs.Outcomes.{IfGoesOn, HasNoWrite, IsReadOver, IsReadAmong}
use Rattle.pit_job.specs.Inside.Doing.{own_of, Same, LooksUp, Puts, DoesStep, DoesSteps}
use Rattle.pit_job.proofs.Noting.{notes-none, notes-one, notes-map, notes-trans}
use Rattle.pit_job.proofs.Seeing.{sees-same, sees-trans}

-- ---- reads

-- a longer list holds all that a front of it does
read-front : (xs ys : List (ℕ × Option ℕ)) (b : ℕ) (v : Option ℕ) → read_in xs b ≡ Some v → read_in (xs ++ ys) b ≡ Some v
read-front [] ys b v is = absurd (cc is)
read-front (x ∷ xs) ys b v is = by (nat_eq b x.0) (read-front xs ys b v) is
  where
    by : (o : Bool) → (read_in xs b ≡ Some v → read_in (xs ++ ys) b ≡ Some v) → cond o (Some x.1) (read_in xs b) ≡ Some v → cond o (Some x.1) (read_in (xs ++ ys) b) ≡ Some v
    by true later is = is
    by false later is = later is

-- and where that doesn't hold a block, what the rest does
read-rest : (xs ys : List (ℕ × Option ℕ)) (b : ℕ) → read_in xs b ≡ None → read_in (xs ++ ys) b ≡ read_in ys b
read-rest [] ys b none = refl
read-rest (x ∷ xs) ys b none = by (nat_eq b x.0) (read-rest xs ys b) none
  where
    by : (o : Bool) → (read_in xs b ≡ None → read_in (xs ++ ys) b ≡ read_in ys b) → cond o (Some x.1) (read_in xs b) ≡ None → cond o (Some x.1) (read_in (xs ++ ys) b) ≡ read_in ys b
    by true later is = absurd (cc is)
    by false later is = later is

pub Agrees-refl : (k : Known) → Agrees k k
Agrees-refl k b v is = is

pub Agrees-trans : (k l m : Known) → Agrees k l → Agrees l m → Agrees k m
Agrees-trans k l m f g b v is = g b v (f b v is)

pub same-refl : (t : TransactionState) → Same t t
same-refl t = record { sees = sees-same t.planner t.planner refl; job = refl; start = refl; reads = Agrees-refl (read_in t.work.reads) }

pub same-trans : (a b c : TransactionState) → Same a b → Same b c → Same a c
same-trans a b c f g = record {
  sees = sees-trans a.planner b.planner c.planner f.sees g.sees;
  job = g.job ∙ f.job;
  start = g.start ∙ f.start;
  reads = Agrees-trans (read_in a.work.reads) (read_in b.work.reads) (read_in c.work.reads) f.reads g.reads;
}

-- a block that was known
pub looks-known : (old new : TransactionState) (b : ℕ) (period : Option ℕ) → new ≡ old → known_of old.work b ≡ Some period → LooksUp old b period new
looks-known old new b period same known = record {
  same = subst (λ (t : TransactionState). Same old t) (sym same) (same-refl old);
  own = ap (λ (t : TransactionState). own_of t.work) same;
  known = ap (λ (t : TransactionState). known_of t.work b) same ∙ known;
  noted = notes-none (λ c. (c ≡ b) × HasNoWrite (own_of old.work) c) old.work.reads new.work.reads (ap (λ (t : TransactionState). t.work.reads) same);
}

pub unwritten : (o p : Option (Option ℕ)) → (if is_some o then o else p) ≡ None → o ≡ None
unwritten None p is = refl
unwritten (Some v) p is = absurd (cc is)

unread-before : (o p : Option (Option ℕ)) → (if is_some o then o else p) ≡ None → p ≡ None
unread-before None p is = is
unread-before (Some v) p is = absurd (cc is)

same-key : (b : ℕ) (p : Option ℕ) → read_in ((b, p) ∷ []) b ≡ Some p
same-key b p = ap (λ (o : Bool). cond o (Some p) None) (nat_eq-same b)
  where
    nat_eq-same : (n : ℕ) → nat_eq n n ≡ true
    nat_eq-same n = elim (eqb_tells n n) [ inl h ↦ h.0 | inr h ↦ absurd (h.1 refl) ]

-- and one that was noted
pub looks-noted : (old new : TransactionState) (b : ℕ) (period : Option ℕ) → SeesOn old.planner new.planner → known_of old.work b ≡ None → IsNoted old b period new → LooksUp old b period new
looks-noted old new b period sees unknown noted = record {
  same = record {
    sees = sees;
    job = ap (λ (w : Sets). w.job) noted.work;
    start = ap (λ (w : Sets). w.start) noted.work;
    reads = subst (λ (w : Sets). Agrees (read_in old.work.reads) (read_in w.reads)) (sym noted.work) (λ c v is. read-front old.work.reads ((b, period) ∷ []) c v is);
  };
  own = ap (λ (w : Sets). own_of w) noted.work;
  known =
      ap (λ (w : Sets). known_of w b) noted.work
      ∙ ap (λ (o : Option (Option ℕ)). if is_some o then o else read_in (old.work.reads ++ (b, period) ∷ []) b) (unwritten (at_key nat_eq old.work.writes b) (read_in old.work.reads b) unknown)
      ∙ read-rest old.work.reads ((b, period) ∷ []) b (unread-before (at_key nat_eq old.work.writes b) (read_in old.work.reads b) unknown)
      ∙ same-key b period;
  noted =
      notes-one (λ c. (c ≡ b) × HasNoWrite (own_of old.work) c) b period old.work.reads new.work.reads (refl, unwritten (at_key nat_eq old.work.writes b) (read_in old.work.reads b) unknown)
      (ap (λ (w : Sets). w.reads) noted.work);
}

-- ---- steps

-- whoever holds the reads sees what was looked up
pub look-seen : (old new : TransactionState) (b : ℕ) (p : Option ℕ) → LooksUp old b p new → (known : Known) → Agrees (read_in new.work.reads) known → seen known (own_of old.work) b ≡ Some p
look-seen old new b p is known agrees =
    subst (λ (own : Commit). seen known own b ≡ Some p) is.own (seen-agrees (read_in new.work.reads) known (own_of new.work) agrees b p is.known)

pub read-does : (pit : Pit) (old new : TransactionState) (b : ℕ) (p : Option ℕ) → LooksUp old b p new → DoesStep pit old (step.Read b) true new
read-does pit old new b p is = record {
  same = is.same;
  does = λ known agrees. ap (looked (own_of old.work)) (look-seen old new b p is known agrees) ∙ ap changes (sym is.own);
  noted = λ known agrees. is.noted;
  stays = λ no. absurd (cc no);
}

-- a step that reads nothing
pub own-does : (pit : Pit) (old new : TransactionState) (s : Step) (own : Commit) → Same old new → new.work.reads ≡ old.work.reads
    → ((known : Known) → step_after pit known (own_of old.work) s ≡ changes own) → own_of new.work ≡ own → DoesStep pit old s true new
own-does pit old new s own same reads stated is = record {
  same = same;
  does = λ known agrees. stated known ∙ ap changes (sym is);
  noted = λ known agrees. notes-none (IsReadOver pit known (own_of old.work) s) old.work.reads new.work.reads reads;
  stays = λ no. absurd (cc no);
}

pub put-does : (pit : Pit) (old new : TransactionState) (b t : ℕ) (goes : Bool) → Puts old b (Some t) goes new → DoesStep pit old (step.Put b t) goes new
put-does pit old new b t goes puts =
    subst (λ (o : Bool). DoesStep pit old (step.Put b t) o new) (sym puts.done)
    (own-does pit old new (step.Put b t) (with_written (own_of old.work) b (Some t)) puts.same puts.reads (λ known. refl) puts.own)

pub clear-does : (pit : Pit) (old new : TransactionState) (b : ℕ) (goes : Bool) → Puts old b None goes new → DoesStep pit old (step.Clear b) goes new
clear-does pit old new b goes puts =
    subst (λ (o : Bool). DoesStep pit old (step.Clear b) o new) (sym puts.done)
    (own-does pit old new (step.Clear b) (with_written (own_of old.work) b None) puts.same puts.reads (λ known. refl) puts.own)

pub revise-does : (pit : Pit) (old new : TransactionState) (r t : ℕ) (upper : Option ℤ) → Same old new → new.work.reads ≡ old.work.reads → own_of new.work ≡ with_revised (own_of old.work) r t upper
    → DoesStep pit old (step.Revise r t upper) true new
revise-does pit old new r t upper same reads is = own-does pit old new (step.Revise r t upper) (with_revised (own_of old.work) r t upper) same reads (λ known. refl) is

pub bench-does : (pit : Pit) (old new : TransactionState) (height : ℤ) (t : ℕ) → Same old new → new.work.reads ≡ old.work.reads → own_of new.work ≡ with_bench (own_of old.work) (bench_of pit height) t
    → DoesStep pit old (step.Bench height t) true new
bench-does pit old new height t same reads is = own-does pit old new (step.Bench height t) (with_bench (own_of old.work) (bench_of pit height) t) same reads (λ known. refl) is

-- a block without a period can't be shifted
pub shift-none : (pit : Pit) (old new : TransactionState) (b by : ℕ) (is_back : Bool) → LooksUp old b None new → DoesStep pit old (step.Shift b is_back by) false new
shift-none pit old new b by is_back is = record {
  same = is.same;
  does = λ known agrees. ap (moved_by pit.periods (own_of old.work) b is_back by) (look-seen old new b None is known agrees);
  noted = λ known agrees. is.noted;
  stays = λ no. is.own;
}

-- nor can one that would leave the periods
pub shift-out : (pit : Pit) (old new : TransactionState) (b by t : ℕ) (is_back : Bool) → LooksUp old b (Some t) new → shifted pit.periods is_back by t ≡ None → DoesStep pit old (step.Shift b is_back by) false new
shift-out pit old new b by t is_back is out = record {
  same = is.same;
  does = λ known agrees. ap (moved_by pit.periods (own_of old.work) b is_back by) (look-seen old new b (Some t) is known agrees) ∙ ap (put_at (own_of old.work) b) out;
  noted = λ known agrees. is.noted;
  stays = λ no. is.own;
}

pub shift-does : (pit : Pit) (old mid new : TransactionState) (b by t u : ℕ) (is_back goes : Bool) → LooksUp old b (Some t) mid → shifted pit.periods is_back by t ≡ Some u → Puts mid b (Some u) goes new
    → DoesStep pit old (step.Shift b is_back by) goes new
shift-does pit old mid new b by t u is_back goes is in_range puts = subst (λ (o : Bool). DoesStep pit old (step.Shift b is_back by) o new) (sym puts.done) record {
  same = same-trans old mid new is.same puts.same;
  does = λ known agrees.
      ap (moved_by pit.periods (own_of old.work) b is_back by) (look-seen old mid b (Some t) is known (Agrees-trans (read_in mid.work.reads) (read_in new.work.reads) known puts.same.reads agrees))
      ∙ ap (put_at (own_of old.work) b) in_range
      ∙ ap (λ (own : Commit). changes (with_written own b (Some u))) (sym is.own)
      ∙ ap changes (sym puts.own);
  noted = λ known agrees.
      notes-trans (λ c. (c ≡ b) × HasNoWrite (own_of old.work) c) old.work.reads mid.work.reads new.work.reads is.noted
      (notes-none (λ c. (c ≡ b) × HasNoWrite (own_of old.work) c) mid.work.reads new.work.reads puts.reads);
  stays = λ no. absurd (cc no);
}

-- the same of what a call tells that only writes
pub put-told : (pit : Pit) (old new : TransactionState) (b t : ℕ) (s : Step) (r : Result Bool StepStop) → s ≡ step.Put b t → IfOk r (λ goes. Puts old b (Some t) goes new) → IfOk r (λ goes. DoesStep pit old s goes new)
put-told pit old new b t s (Ok goes) is puts = subst (λ (q : Step). DoesStep pit old q goes new) (sym is) (put-does pit old new b t goes puts)
put-told pit old new b t s (Err e) is puts = tt

pub clear-told : (pit : Pit) (old new : TransactionState) (b : ℕ) (s : Step) (r : Result Bool StepStop) → s ≡ step.Clear b → IfOk r (λ goes. Puts old b None goes new) → IfOk r (λ goes. DoesStep pit old s goes new)
clear-told pit old new b s (Ok goes) is puts = subst (λ (q : Step). DoesStep pit old q goes new) (sym is) (clear-does pit old new b goes puts)
clear-told pit old new b s (Err e) is puts = tt

pub shift-told : (pit : Pit) (old mid new : TransactionState) (b by t u : ℕ) (is_back : Bool) (r : Result Bool StepStop) → LooksUp old b (Some t) mid → shifted pit.periods is_back by t ≡ Some u
    → IfOk r (λ goes. Puts mid b (Some u) goes new) → IfOk r (λ goes. DoesStep pit old (step.Shift b is_back by) goes new)
shift-told pit old mid new b by t u is_back (Ok goes) is in_range puts = shift-does pit old mid new b by t u is_back goes is in_range puts
shift-told pit old mid new b by t u is_back (Err e) is in_range puts = tt

pub shifted-as : (pit other : Pit) (is_back : Bool) (by t : ℕ) (r period : Option ℕ) → other ≡ pit → r ≡ shifted other.periods is_back by t → r ≡ period → shifted pit.periods is_back by t ≡ period
shifted-as pit other is_back by t r period same is told = rw (sym same) (sym is ∙ told)

-- ---- steps in order

-- no step does nothing
pub steps-none : (pit : Pit) (t : TransactionState) → DoesSteps pit t [] true t
steps-none pit t = record { same = same-refl t; does = λ known agrees. refl; own = λ known agrees. refl; noted = λ known agrees. notes-none (IsReadAmong pit known (own_of t.work) []) t.work.reads t.work.reads refl }

-- a step and then the rest
pub steps-more : (pit : Pit) (old mid new : TransactionState) (s : Step) (ss : List Step) (goes : Bool) → DoesStep pit old s true mid → DoesSteps pit mid ss goes new → DoesSteps pit old (s ∷ ss) goes new
steps-more pit old mid new s ss goes first rest = record {
  same = same-trans old mid new first.same rest.same;
  does = λ known agrees.
      ap (λ (e : Effect). next e (λ after. steps_after pit known after ss)) (first.does known (Agrees-trans (read_in mid.work.reads) (read_in new.work.reads) known rest.same.reads agrees))
      ∙ rest.does known agrees;
  own = λ known agrees.
      ap (λ (e : Effect). up_to (own_of old.work) e (λ after. changes_after pit known after ss)) (first.does known (Agrees-trans (read_in mid.work.reads) (read_in new.work.reads) known rest.same.reads agrees))
      ∙ rest.own known agrees;
  noted = λ known agrees.
      let before : Agrees (read_in mid.work.reads) known = Agrees-trans (read_in mid.work.reads) (read_in new.work.reads) known rest.same.reads agrees in
      notes-trans (IsReadAmong pit known (own_of old.work) (s ∷ ss)) old.work.reads mid.work.reads new.work.reads
      (notes-map (IsReadOver pit known (own_of old.work) s) (IsReadAmong pit known (own_of old.work) (s ∷ ss)) (λ b is. inl is) old.work.reads mid.work.reads (first.noted known before))
      (notes-map (IsReadAmong pit known (own_of mid.work) ss) (IsReadAmong pit known (own_of old.work) (s ∷ ss))
      (λ b is. inr (subst (λ (e : Effect). IfGoesOn e (λ after. IsReadAmong pit known after ss b)) (sym (first.does known before)) is)) mid.work.reads new.work.reads (rest.noted known agrees));
}

-- a step that fails ends them
pub steps-fail : (pit : Pit) (old new : TransactionState) (s : Step) (ss : List Step) → DoesStep pit old s false new → DoesSteps pit old (s ∷ ss) false new
steps-fail pit old new s ss first = record {
  same = first.same;
  does = λ known agrees. ap (λ (e : Effect). next e (λ after. steps_after pit known after ss)) (first.does known agrees);
  own = λ known agrees. ap (λ (e : Effect). up_to (own_of old.work) e (λ after. changes_after pit known after ss)) (first.does known agrees) ∙ sym (first.stays refl);
  noted = λ known agrees.
      notes-map (IsReadOver pit known (own_of old.work) s) (IsReadAmong pit known (own_of old.work) (s ∷ ss)) (λ b is. inl is) old.work.reads new.work.reads (first.noted known agrees);
}

pub drop-here : {X : Type 0} (xs : List X) (i : ℕ) (d : X) → i < length xs → drop i xs ≡ get_or xs i d ∷ drop (i + 1) xs
drop-here xs i d h = rw (add-one, drop-cons xs i d)

-- the step at i, and then those after it
pub steps-next : (pit : Pit) (old mid new : TransactionState) (xs : List Step) (i : ℕ) (d : Step) (goes : Bool) → i < length xs
    → DoesStep pit old (get_or xs i d) true mid → DoesSteps pit mid (drop (i + 1) xs) goes new → DoesSteps pit old (drop i xs) goes new
steps-next pit old mid new xs i d goes less first rest =
    subst (λ (ss : List Step). DoesSteps pit old ss goes new) (sym (drop-here xs i d less)) (steps-more pit old mid new (get_or xs i d) (drop (i + 1) xs) goes first rest)

pub steps-stop : (pit : Pit) (old new : TransactionState) (xs : List Step) (i : ℕ) (d : Step) → i < length xs
    → DoesStep pit old (get_or xs i d) false new → DoesSteps pit old (drop i xs) false new
steps-stop pit old new xs i d less first =
    subst (λ (ss : List Step). DoesSteps pit old ss false new) (sym (drop-here xs i d less)) (steps-fail pit old new (get_or xs i d) (drop (i + 1) xs) first)

pub steps-end : (pit : Pit) (t : TransactionState) (xs : List Step) (i : ℕ) → length xs ≤ i → DoesSteps pit t (drop i xs) true t
steps-end pit t xs i past = subst (λ (ss : List Step). DoesSteps pit t ss true t) (sym (drop_all i xs past)) (steps-none pit t)

-- ---- what a call of a transaction leaves

writes-same : (old new : TransactionState) (writes : List (ℕ × Option ℕ)) → new.planner ≡ old.planner → new.work ≡ record old.work { writes = writes } → Same old new
writes-same old new writes planner work = record {
  sees = sees-same old.planner new.planner planner;
  job = ap (λ (w : Sets). w.job) work;
  start = ap (λ (w : Sets). w.start) work;
  reads = subst (λ (w : Sets). Agrees (read_in old.work.reads) (read_in w.reads)) (sym work) (Agrees-refl (read_in old.work.reads));
}

pub write-puts : {X E : Type 0} (old new : TransactionState) (b : ℕ) (period : Option ℕ) (told : Result X E) (r : Result Bool StepStop) → OnOk told (r ≡ Ok true) → OnErr told (r ≡ Err stop.NoMemory)
    → new.planner ≡ old.planner → OnOk told (new.work ≡ record old.work { writes = with_write nat_eq old.work.writes b period }) → IfOk r (λ goes. Puts old b period goes new)
write-puts old new b period (Ok x) r done stopped planner work = subst (λ (s : Result Bool StepStop). IfOk s (λ goes. Puts old b period goes new)) (sym done) record {
  done = refl;
  same = writes-same old new (with_write nat_eq old.work.writes b period) planner work;
  own = ap (λ (w : Sets). own_of w) work;
  reads = ap (λ (w : Sets). w.reads) work;
}
write-puts old new b period (Err e) r done stopped planner work = subst (λ (s : Result Bool StepStop). IfOk s (λ goes. Puts old b period goes new)) (sym stopped) tt

pub revise-told : {X E : Type 0} (pit : Pit) (old new : TransactionState) (r t : ℕ) (upper : Option ℤ) (told : Result X E) (answer : Result Bool StepStop) → OnOk told (answer ≡ Ok true)
    → OnErr told (answer ≡ Err stop.NoMemory) → new.planner ≡ old.planner → OnOk told (new.work ≡ record old.work { revises = with_write pair_eq old.work.revises (r, t) upper })
    → IfOk answer (λ goes. DoesStep pit old (step.Revise r t upper) goes new)
revise-told pit old new r t upper (Ok x) answer done stopped planner work = subst (λ (s : Result Bool StepStop). IfOk s (λ goes. DoesStep pit old (step.Revise r t upper) goes new)) (sym done)
    (revise-does pit old new r t upper (record {
      sees = sees-same old.planner new.planner planner;
      job = ap (λ (w : Sets). w.job) work;
      start = ap (λ (w : Sets). w.start) work;
      reads = subst (λ (w : Sets). Agrees (read_in old.work.reads) (read_in w.reads)) (sym work) (Agrees-refl (read_in old.work.reads));
    }) (ap (λ (w : Sets). w.reads) work) (ap (λ (w : Sets). own_of w) work))
revise-told pit old new r t upper (Err e) answer done stopped planner work =
    subst (λ (s : Result Bool StepStop). IfOk s (λ goes. DoesStep pit old (step.Revise r t upper) goes new)) (sym stopped) tt

pub looks-up : (pit : Pit) (old new : TransactionState) (b : ℕ) (r : Result (Option ℕ) ReadStop) (period : Option ℕ) → b < pit.blocks → r ≡ Ok period → SeesOn old.planner new.planner
    → ((p : Option ℕ) → b < pit.blocks → known_of old.work b ≡ Some p → (r ≡ Ok p) × (new ≡ old)) → (b < pit.blocks → known_of old.work b ≡ None → IsLookedUp old b r new)
    → LooksUp old b period new
looks-up pit old new b r period less is sees known unknown = by (known_of old.work b) refl
  where
    by : (o : Option (Option ℕ)) → known_of old.work b ≡ o → LooksUp old b period new
    by None e = looks-noted old new b period sees e (subst (λ (s : Result (Option ℕ) ReadStop). IsLookedUp old b s new) is (unknown less e))
    by (Some p) e =
        let answered = known p less e in
        let first = answered.0 in
        let same : p ≡ period = cc in
        looks-known old new b period answered.1 (e ∙ ap (λ (q : Option ℕ). Some q) same)

-- Each job's entries stand together.
use Rattle.std.proofs.lemmas.List.Elements.{All-append, All-nil, All-cons, All-head, All-tail, filter-append}
use Rattle.std.proofs.lemmas.Bool.Decides.{nat_tests}
use Rattle.std.proofs.Common.{◌≡◌, ℕ, zero, suc, ◌+◌, ◌<◌, ◌≤◌, ◌==◌, true, false, List, [], ◌∷◌, length, get_or, add-zero, refl, sym, ap, subst, ◌∙◌, arith, append-nil, inl, inr}
use Rattle.std.specs.Prelude.{All, Some, slice_get}
use Rattle.pit_model.specs.Pit.{Pit}
use Rattle.pit_desk.specs.History.{Answered}
use Rattle.pit_script.specs.Jobs.{Job}
use Rattle.pit_job.specs.declared.outcome.Outcome.{Outcome}
use Rattle.pit_job.specs.declared.outcome.RunEnd.{RunEnd}
use Rattle.pit_job.specs.declared.outcome.RunEnd.TheVariants as end
use Rattle.pit_job.specs.Outcomes.{IsItem, IsMovedTry, Repeats}
use Rattle.pit_job.specs.Runs.{Ran, RanFrom, EndedBefore}
use Rattle.pit_job.specs.JobByJob.{of_job, HasOwnEffect, EndsAfter}
use Rattle.pit_job.proofs.Growing.{ran-from, ran-on, ran-sees, all-sees}

All-map : {X : Type 0} (P Q : X → Type 0) → ((x : X) → P x → Q x) → (xs : List X) → All P xs → All Q xs
All-map P Q f xs all = λ k d less. f (get_or xs k d) (all k d less)

-- what tries and jobs leave are their items
try-items : (pit : Pit) (task : Job) (n : ℕ) (old new es : List Answered) (block version : ℕ) → IsMovedTry pit task n old new es block version → All (λ e. IsItem pit task n e) es
try-items pit task n old new es block version tried =
    elim tried.made [
      | inl one ↦ subst (All (λ e. IsItem pit task n e)) (sym one.1) (All-cons (λ e. IsItem pit task n e) one.0 [] one.2.item (All-nil (λ e. IsItem pit task n e)))
      | inr none ↦ subst (All (λ e. IsItem pit task n e)) (sym none) (All-nil (λ e. IsItem pit task n e))
    ]

repeats-items : (pit : Pit) (task : Job) (n k : ℕ) (old new es : List Answered) → Repeats pit task n k old new es → All (λ e. IsItem pit task n e) es
repeats-items pit task n zero old new es (none, sees) = subst (All (λ e. IsItem pit task n e)) (sym none) (All-nil (λ e. IsItem pit task n e))
repeats-items pit task n (suc k) old new es (mid, earlier, last, block, version, cut, repeats, moved) =
    subst (All (λ e. IsItem pit task n e)) (sym cut)
    (All-append (λ e. IsItem pit task n e) earlier last (repeats-items pit task n k old mid earlier repeats) (try-items pit task n mid new last block version moved))

pub ran-items : (pit : Pit) (task : Job) (retries n : ℕ) (old new es : List Answered) (o : Outcome) → Ran pit task retries n old new es o → All (λ e. IsItem pit task n e) es
ran-items pit task retries n old new es o (inl s) =
    subst (All (λ e. IsItem pit task n e)) (sym s.cut)
    (All-append (λ e. IsItem pit task n e) s.repeated (s.last ∷ []) (repeats-items pit task n s.before old s.mid s.repeated s.repeats)
    (All-cons (λ e. IsItem pit task n e) s.last [] s.item (All-nil (λ e. IsItem pit task n e))))
ran-items pit task retries n old new es o (inr g) =
    subst (All (λ e. IsItem pit task n e)) (sym g.cut)
    (All-append (λ e. IsItem pit task n e) g.repeated g.last (repeats-items pit task n retries old g.mid g.repeated g.repeats)
    (try-items pit task n g.mid new g.last g.block g.version g.moved))

own-now : (pit : Pit) (n : ℕ) (task : Job) (jobs : List Job) (e : Answered) → IsItem pit task n e → HasOwnEffect pit n (task ∷ jobs) e
own-now pit n task jobs e item = record { place = 0; task = task; number = item.job ∙ sym (add-zero n); at = refl; call = item.call }

own-later : (pit : Pit) (n : ℕ) (task : Job) (jobs : List Job) (e : Answered) → HasOwnEffect pit (n + 1) jobs e → HasOwnEffect pit n (task ∷ jobs) e
own-later pit n task jobs e own = let i = own.number in record { place = suc own.place; task = own.task; number = omega arith; at = own.at; call = own.call }

-- each entry has the effect of its own job
pub own-effects : (pit : Pit) (max_entries retries n : ℕ) (old new : List Answered) (jobs : List Job) (es : List Answered) (os : List Outcome) (ended : RunEnd) → RanFrom pit max_entries retries old new n jobs es os ended
    → All (λ e. HasOwnEffect pit n jobs e) es
own-effects pit max_entries retries n old new [] es [] ended (none, whole, sees) = subst (All (λ e. HasOwnEffect pit n [] e)) (sym none) (All-nil (λ e. HasOwnEffect pit n [] e))
own-effects pit max_entries retries n old new [] es (o ∷ os) ended ran = absurd ran
own-effects pit max_entries retries n old new (task ∷ rest) es [] ended (stop, left) =
    All-map (λ e. IsItem pit task n e) (λ e. HasOwnEffect pit n (task ∷ rest) e) (own-now pit n task rest) es
    (repeats-items pit task n left.before old new es left.repeats)
own-effects pit max_entries retries n old new (task ∷ rest) es (o ∷ os) ended (mid, here, later, cut, ran, more) =
    subst (All (λ e. HasOwnEffect pit n (task ∷ rest) e)) (sym cut)
    (All-append (λ e. HasOwnEffect pit n (task ∷ rest) e) here later
    (All-map (λ e. IsItem pit task n e) (λ e. HasOwnEffect pit n (task ∷ rest) e) (own-now pit n task rest) here (ran-items pit task retries n old mid here o ran))
    (All-map (λ e. HasOwnEffect pit (n + 1) rest e) (λ e. HasOwnEffect pit n (task ∷ rest) e) (own-later pit n task rest) later (own-effects pit max_entries retries (n + 1) mid new rest later os ended more)))

-- the entries of a job that all have its number
all-of : (n : ℕ) (es : List Answered) → All (λ e. e.call.job ≡ n) es → of_job n es ≡ es
all-of n [] all = refl
all-of n (e ∷ es) all =
    let here : (e.call.job == n) ≡ true = let h : e.call.job ≡ n = All-head (λ e. e.call.job ≡ n) e es all in grind (arith, nat_tests) in
    rw here (ap (λ (xs : List Answered). e ∷ xs) (all-of n es (All-tail (λ e. e.call.job ≡ n) e es all)))

none-of : (n : ℕ) (es : List Answered) → All (λ e. (e.call.job == n) ≡ false) es → of_job n es ≡ []
none-of n [] all = refl
none-of n (e ∷ es) all =
    let here : (e.call.job == n) ≡ false = All-head (λ e. (e.call.job == n) ≡ false) e es all in
    rw here (none-of n es (All-tail (λ e. (e.call.job == n) ≡ false) e es all))

other : (a b : ℕ) → a < b → (b == a) ≡ false
other a b less = grind (arith, nat_tests)

-- the j-th job's entries and its outcome
pub each-job : (pit : Pit) (max_entries retries n : ℕ) (old new : List Answered) (jobs : List Job) (es : List Answered) (os : List Outcome) (ended : RunEnd) → RanFrom pit max_entries retries old new n jobs es os ended
    → (j : ℕ) (task : Job) (o : Outcome) → slice_get jobs j ≡ Some task → slice_get os j ≡ Some o → Ran pit task retries (n + j) old new (of_job (n + j) es) o
each-job pit max_entries retries n old new [] es os ended ran j task o at got = absurd (cc at)
each-job pit max_entries retries n old new (x ∷ xs) es [] ended ran j task o at got = absurd (cc got)
each-job pit max_entries retries n old new (x ∷ xs) es (p ∷ ps) ended (mid, here, later, cut, ran, more) zero task o at got =
    let later-jobs = All-map (λ e. HasOwnEffect pit (n + 1) xs e) (λ e. (e.call.job == n) ≡ false) (λ e own. let i = own.number in other n e.call.job (omega arith)) later
    (own-effects pit max_entries retries (n + 1) mid new xs later ps ended more) in
    let same : of_job n es ≡ here =
    ap (of_job n) cut ∙ (filter-append (λ (e : Answered). e.call.job == n) here later ∙ (rw (all-of n here (All-map (λ e. IsItem pit x n e) (λ e. e.call.job ≡ n) (λ e i. i.job) here (ran-items pit x retries n old mid here p ran)), none-of n later later-jobs) (append-nil here))) in
    let a : x ≡ task = cc at in
    let b : p ≡ o = cc got in
    let sees = all-sees pit max_entries retries (n + 1) mid new xs later ps ended more in
    rw (add-zero, same, ← a, ← b) (ran-on pit x retries n old mid new here p sees ran)
each-job pit max_entries retries n old new (x ∷ xs) es (p ∷ ps) ended (mid, here, later, cut, ran, more) (suc j) task o at got =
    let behind = each-job pit max_entries retries (n + 1) mid new xs later ps ended more j task o at got in
    let rest = ran-from pit task retries ((n + 1) + j) old mid new (of_job ((n + 1) + j) later) o (ran-sees pit x retries n old mid here p ran) behind in
    let number : (n + 1) + j ≡ n + suc j = omega arith in
    let here-jobs = All-map (λ e. IsItem pit x n e) (λ e. (e.call.job == n + suc j) ≡ false) (λ e i. let h = i.job in grind (arith, nat_tests)) here (ran-items pit x retries n old mid here p ran) in
    let same : of_job (n + suc j) es ≡ of_job (n + suc j) later =
    ap (of_job (n + suc j)) cut ∙ (filter-append (λ (e : Answered). e.call.job == n + suc j) here later ∙ rw (none-of (n + suc j) here here-jobs) refl) in
    let there : Ran pit task retries (n + suc j) old new (of_job (n + suc j) later) o = subst (λ (m : ℕ). Ran pit task retries m old new (of_job m later) o) number rest in
    subst (λ (xs : List Answered). Ran pit task retries (n + suc j) old new xs o) (sym same) there

ends-after-none : (pit : Pit) (max_entries : ℕ) (seen : List Answered) (n : ℕ) (task : Job) (rest : List Job) (ended : RunEnd) → EndedBefore pit max_entries task.steps seen n ended → EndsAfter n (task ∷ rest) [] ended
ends-after-none pit max_entries seen n task rest end.Whole stop = absurd stop
ends-after-none pit max_entries seen n task rest (end.Full job) stop = (stop.0 ∙ sym (add-zero n), omega arith)
ends-after-none pit max_entries seen n task rest (end.NoMemory job) stop = (stop ∙ sym (add-zero n), omega arith)
ends-after-none pit max_entries seen n task rest (end.NoEntry job) stop = (stop.0 ∙ sym (add-zero n), omega arith)
ends-after-none pit max_entries seen n task rest end.NoThread stop = absurd stop

ends-more : (n : ℕ) (task : Job) (rest : List Job) (o : Outcome) (os : List Outcome) (ended : RunEnd) → EndsAfter (n + 1) rest os ended → EndsAfter n (task ∷ rest) (o ∷ os) ended
ends-more n task rest o os end.Whole is = omega arith
ends-more n task rest o os (end.Full job) (is, less) = (omega arith, omega arith)
ends-more n task rest o os (end.NoMemory job) (is, less) = (omega arith, omega arith)
ends-more n task rest o os (end.NoEntry job) (is, less) = (omega arith, omega arith)
ends-more n task rest o os end.NoThread is = is

-- an end since the history is full comes only where it was seen to be
pub ends-full : (pit : Pit) (max_entries retries n : ℕ) (old new : List Answered) (jobs : List Job) (es : List Answered) (os : List Outcome) (ended : RunEnd) → RanFrom pit max_entries retries old new n jobs es os ended
    → (job : ℕ) → ended ≡ end.Full job → max_entries ≤ length new
ends-full pit max_entries retries n old new [] es [] ended (none, whole, sees) job is = absurd (cc (whole, is))
ends-full pit max_entries retries n old new [] es (o ∷ os) ended ran job is = absurd ran
ends-full pit max_entries retries n old new (task ∷ rest) es [] ended (stop, left) job is = (subst (EndedBefore pit max_entries task.steps new n) is stop).1
ends-full pit max_entries retries n old new (task ∷ rest) es (o ∷ os) ended (mid, mine, later, cut, ran, more) job is =
    ends-full pit max_entries retries (n + 1) mid new rest later os ended more job is

pub ends-after : (pit : Pit) (max_entries retries n : ℕ) (old new : List Answered) (jobs : List Job) (es : List Answered) (os : List Outcome) (ended : RunEnd) → RanFrom pit max_entries retries old new n jobs es os ended
    → EndsAfter n jobs os ended
ends-after pit max_entries retries n old new [] es [] ended (none, whole, sees) = subst (EndsAfter n [] []) (sym whole) refl
ends-after pit max_entries retries n old new [] es (o ∷ os) ended ran = absurd ran
ends-after pit max_entries retries n old new (task ∷ rest) es [] ended (stop, left) = ends-after-none pit max_entries new n task rest ended stop
ends-after pit max_entries retries n old new (task ∷ rest) es (o ∷ os) ended (mid, here, later, cut, ran, more) = ends-more n task rest o os ended (ends-after pit max_entries retries (n + 1) mid new rest later os ended more)

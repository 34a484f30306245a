-- What is told of all that was found, and when it is that nothing is wrong.
use Rattle.std.proofs.Common.{◌≡◌, ℕ, ◌==◌, ◌&&◌, ℤ, Bool, true, false, List, [], ◌∷◌, ◌++◌, length, map, None, refl, sym, ap, subst, ◌∙◌, if◌then◌else◌, inl, inr}
use Rattle.std.proofs.lemmas.Bool.{false≢true}
use Rattle.std.proofs.lemmas.Bool.Decides.{eqb_tells}
use Rattle.pit_model.specs.Pit.{Pit, IsSound}
use Rattle.pit_plan.specs.Schedule.{Commit, held_period, limit_of}
use Rattle.pit_plan.specs.Shortfalls.{shortfalls_of}
use Rattle.pit_plan.specs.Breaches.{AreGood, IsFirstBreach}
use Rattle.pit_plan.specs.declared.breach.Breach.{Breach}
use Rattle.pit_plan.specs.declared.short.Short.{Short}
use Rattle.pit_plan.proofs.CallerLemmas.{one_first}
use Rattle.pit_step.specs.declared.status.Status.{Status}
use Rattle.pit_step.specs.declared.status.Status.TheVariants.{Fine, Failed}
use Rattle.pit_all.specs.declared.out_of_order.OutOfOrder.{OutOfOrder}
use Rattle.pit_all.specs.Breaches.{outs_of, overs_of, breach_of, breaches_of, first_of}
use Rattle.pit_all.specs.Outs.{Counted, Counts}
use Rattle.pit_all.specs.AllText.{is_fine, listing_text, listing_status, answer_with, all_answer}
use Rattle.pit_all.proofs.First.{none-of}
use Rattle.pit_all.proofs.FirstBreach.{first-breach}

-- ---- the answer, by what was found

pub answer-as : (value worth : ℤ) (counted : Counted) (outs : List OutOfOrder) (overs others : List Breach) (shorts lacks : List Short) (text : List ℕ) (status : Status)
    → text ≡ listing_text value counted.first counted.count overs shorts → status ≡ listing_status counted.count (length overs) (length shorts)
    → value ≡ worth → Counts counted outs → overs ≡ others → shorts ≡ lacks → (text, status) ≡ answer_with worth outs others lacks
answer-as value worth counted outs overs others shorts lacks text status text_is status_is value_is counts overs_are shorts_are =
    rw (text_is, status_is, value_is, counts.first, counts.count, overs_are, shorts_are) refl

-- ---- nothing is wrong

-- the first of two tests passes, and the other too
front_passes : (first other : Bool) → (first && other) ≡ true → first ≡ true
front_passes true other both = refl
front_passes false other both = absurd (false≢true both)

rest_passes : (first other : Bool) → (first && other) ≡ true → other ≡ true
rest_passes true other both = both
rest_passes false other both = absurd (false≢true both)

is-none : (n : ℕ) → (n == 0) ≡ true → n ≡ 0
is-none n passes =
    elim (eqb_tells n 0) [
      | inl none ↦ none.1
      | inr some ↦ absurd (false≢true (sym some.0 ∙ passes))
    ]

counts-none : (broken over short : ℕ) → is_fine broken over short ≡ true → (broken ≡ 0) × (over ≡ 0) × (short ≡ 0)
counts-none broken over short fine =
    let both = front_passes (broken == 0 && over == 0) (short == 0) fine in (
      is-none broken (front_passes (broken == 0) (over == 0) both),
      is-none over (rest_passes (broken == 0) (over == 0) both),
      is-none short (rest_passes (broken == 0 && over == 0) (short == 0) fine),
    )

no-items : {X : Type 0} (xs : List X) → length xs ≡ 0 → xs ≡ []
no-items [] none = refl
no-items (x ∷ xs) none = cc

said-fine : (fine : Bool) → (if fine then Fine else Failed) ≡ Fine → fine ≡ true
said-fine true said = refl
said-fine false said = cc

first-parts : (outs : List OutOfOrder) (overs : List Breach) → first_of (map breach_of outs ++ overs) ≡ None → (outs ≡ []) × (overs ≡ [])
first-parts [] overs none = (refl, none-of overs none)
first-parts (x ∷ xs) overs none = cc

pub fine-good : (pit : Pit) (commits : List Commit) → IsSound pit → (all_answer pit commits).1 ≡ Fine → AreGood pit commits × (shortfalls_of pit (held_period commits) ≡ [])
fine-good pit commits sound said =
    let s = held_period commits in
    let limit = limit_of pit commits in
    let none = counts-none (length (outs_of pit s)) (length (overs_of pit s limit)) (length (shortfalls_of pit s))
    (said-fine (is_fine (length (outs_of pit s)) (length (overs_of pit s limit)) (length (shortfalls_of pit s))) said) in
    let nothing : first_of (breaches_of pit s limit) ≡ None =
    ap (λ (outs : List OutOfOrder). first_of (map breach_of outs ++ overs_of pit s limit)) (no-items (outs_of pit s) none.0) ∙ ap first_of (no-items (overs_of pit s limit) none.1) in
    (subst (IsFirstBreach pit s limit) nothing (first-breach pit s limit sound), no-items (shortfalls_of pit s) none.2)

pub good-fine : (pit : Pit) (commits : List Commit) → IsSound pit → AreGood pit commits × (shortfalls_of pit (held_period commits) ≡ []) → (all_answer pit commits).1 ≡ Fine
good-fine pit commits sound good =
    let s = held_period commits in
    let limit = limit_of pit commits in
    let nothing : first_of (breaches_of pit s limit) ≡ None =
    one_first pit s limit (first_of (breaches_of pit s limit)) None (first-breach pit s limit sound) good.0 in
    let parts = first-parts (outs_of pit s) (overs_of pit s limit) nothing in
    ap (λ (xs : List OutOfOrder). listing_status (length xs) (length (overs_of pit s limit)) (length (shortfalls_of pit s))) parts.0
    ∙ ap (λ (xs : List Breach). listing_status 0 (length xs) (length (shortfalls_of pit s))) parts.1
    ∙ ap (λ (xs : List Short). listing_status 0 0 (length xs)) good.1

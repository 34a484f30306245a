-- Planners that ran, one after the other.
use Rattle.std.proofs.Math.ListN.{get_or-append}
use Rattle.std.proofs.Math.Seq.{get_or-append_seam, take-suc}
use Rattle.std.proofs.lemmas.List.Elements.{All-nil, All-cons, All-head, All-tail, All-contains_itself}
use Rattle.std.proofs.Common.{◌≡◌, ℕ, ◌+◌, ◌<◌, ◌≤◌, List, [], ◌∷◌, ◌++◌, length, get_or, take, drop, inl, inr, refl, sym, ap, subst, ◌∙◌, arith, length-append, length-take, add-zero, add-one}
use Rattle.std.specs.Prelude.{All, ◌⊎◌}
use mathlib.Core.List.{IsPrefix}
use Rattle.pit_model.specs.Pit.{Pit}
use Rattle.pit_desk.specs.History.{Answered}
use Rattle.pit_script.specs.Jobs.{Job}
use Rattle.pit_share.specs.Planners.{PlannerState}
use Rattle.pit_share.specs.Logs.{entries_of, AreLogged}
use Rattle.pit_share.specs.Opening.{AreSeats}
use Rattle.pit_job.specs.Runs.{RanFrom}
use Rattle.pit_job.proofs.CallerLemmas.{all-on}
use Rattle.pit_run.specs.Reports.{RunState, NotStarted, RanScript, PlannerRan, AllRan, AllDid}

-- the last seat has the last number, and the others keep theirs
pub numbered-last : (xs : List ℕ) (x : ℕ) → AreSeats (length (xs ++ x ∷ [])) (xs ++ x ∷ []) → x ≡ length xs + 1
numbered-last xs x all =
    let seam = get_or-append_seam xs x [] 0 in
    sym seam ∙ all.each (length xs) (omega (arith, length-append xs (x ∷ [])))

pub numbered-front : (xs : List ℕ) (x : ℕ) → AreSeats (length (xs ++ x ∷ [])) (xs ++ x ∷ []) → AreSeats (length xs) xs
numbered-front xs x all = record {
  many = refl;
  each = λ i less. sym (get_or-append xs (x ∷ []) 0 i less) ∙ all.each i (omega (arith, length-append xs (x ∷ []), less));
}

pub ran-more : (pit : Pit) (max_entries retries : ℕ) (opening : List Answered) (k : ℕ) (ss : List (List Job)) (ls : List PlannerState) (rs : List RunState) (s : List Job) (l : PlannerState) (r : RunState)
    → AllRan pit max_entries retries opening k ss ls rs → PlannerRan pit max_entries retries opening s (k + length ss) l r → AllRan pit max_entries retries opening k (ss ++ s ∷ []) (ls ++ l ∷ []) (rs ++ r ∷ [])
ran-more pit max_entries retries opening k [] [] [] s l r all last = (subst (λ (n : ℕ). PlannerRan pit max_entries retries opening s n l r) (add-zero k) last, tt)
ran-more pit max_entries retries opening k [] [] (x ∷ rs) s l r all last = absurd all
ran-more pit max_entries retries opening k [] (x ∷ ls) rs s l r all last = absurd all
ran-more pit max_entries retries opening k (x ∷ ss) [] rs s l r all last = absurd all
ran-more pit max_entries retries opening k (x ∷ ss) (y ∷ ls) [] s l r all last = absurd all
ran-more pit max_entries retries opening k (x ∷ ss) (y ∷ ls) (z ∷ rs) s l r (first, rest) last =
    let same : k + length (x ∷ ss) ≡ (k + 1) + length ss = omega arith in
    (first, ran-more pit max_entries retries opening (k + 1) ss ls rs s l r rest (subst (λ (n : ℕ). PlannerRan pit max_entries retries opening s n l r) same last))

take-here : (xs : List (List Job)) (k : ℕ) (s : List Job) → k < length xs → s ≡ get_or xs k s → take (k + 1) xs ≡ take k xs ++ s ∷ []
take-here xs k s less at = rw (add-one, take-suc xs k s, ← at)

-- one planner more
pub ran-next : (pit : Pit) (max_entries retries : ℕ) (opening : List Answered) (n k : ℕ) (scripts : List (List Job)) (ls logs : List PlannerState) (rs runs : List RunState) (s : List Job) (l : PlannerState) (r : RunState)
    → n ≡ k + 1 → k < length scripts → s ≡ get_or scripts k s → AllRan pit max_entries retries opening 1 (take k scripts) ls rs → PlannerRan pit max_entries retries opening s n l r → logs ≡ ls ++ l ∷ [] → runs ≡ rs ++ r ∷ []
    → AllRan pit max_entries retries opening 1 (take n scripts) logs runs
ran-next pit max_entries retries opening n k scripts ls logs rs runs s l r is less at all last here there =
    let same : n ≡ 1 + length (take k scripts) = omega (arith, length-take k scripts, is) in
    let more = ran-more pit max_entries retries opening 1 (take k scripts) ls rs s l r all (subst (λ (m : ℕ). PlannerRan pit max_entries retries opening s m l r) same last) in
    let scripted : take n scripts ≡ take k scripts ++ s ∷ [] = ap (λ (m : ℕ). take m scripts) is ∙ take-here scripts k s less at in
    rw (scripted, here, there) more

-- ---- with its log for its entries, each planner did its script

abbrev pub IsFrom : ℕ → ℕ → PlannerState → Type 0
IsFrom k n log = (k ≤ log.number) × (log.number < k + n)

numbers : (pit : Pit) (max_entries retries : ℕ) (opening : List Answered) (k : ℕ) (ss : List (List Job)) (ls : List PlannerState) (rs : List RunState) → AllRan pit max_entries retries opening k ss ls rs → All (IsFrom k (length ss)) ls
numbers pit max_entries retries opening k [] [] [] all = All-nil (IsFrom k 0)
numbers pit max_entries retries opening k [] [] (x ∷ rs) all = absurd all
numbers pit max_entries retries opening k [] (x ∷ ls) rs all = absurd all
numbers pit max_entries retries opening k (x ∷ ss) [] rs all = absurd all
numbers pit max_entries retries opening k (x ∷ ss) (y ∷ ls) [] all = absurd all
numbers pit max_entries retries opening k (x ∷ ss) (y ∷ ls) (z ∷ rs) (first, rest) =
    let number = first.number in
    let more = numbers pit max_entries retries opening (k + 1) ss ls rs rest in
    All-cons (IsFrom k (length (x ∷ ss))) y ls (omega (arith, number), omega (arith, number))
    (λ i d less. let one = more i d less in (omega (arith, one.0), omega (arith, one.1)))

abbrev pub IsItsLog : List Answered → PlannerState → Type 0
IsItsLog past log = entries_of log.number past ≡ log.items

-- each log is what the entries are of its planner
each-log : (past : List Answered) (planners : ℕ) (ls : List PlannerState) → AreLogged planners past ls → All (IsFrom 1 planners) ls → All (IsItsLog past) ls
each-log past planners ls logged all i d less =
    let one = all i d less in
    (logged.each (get_or ls i d).number (one.0, omega (arith, one.1))).each (get_or ls i d) (All-contains_itself ls i d less) refl

-- a script's run, where more is seen then
pub script-on : (pit : Pit) (max_entries retries k : ℕ) (old new more : List Answered) (s : List Job) (es : List Answered) (r : RunState) → IsPrefix new more
    → RanScript pit max_entries retries old new s k es r → RanScript pit max_entries retries old more s k es r
script-on pit max_entries retries k old new more s es r on ran = record { number = ran.number; ran = by ran.ran }
  where
    by : (RanFrom pit max_entries retries old new 1 s es r.jobs r.ended ⊎ NotStarted es r) → RanFrom pit max_entries retries old more 1 s es r.jobs r.ended ⊎ NotStarted es r
    by (inl h) = inl (all-on pit max_entries retries 1 old new more s es r.jobs r.ended on h)
    by (inr none) = inr none

did-all : (pit : Pit) (max_entries retries : ℕ) (opening history : List Answered) (k : ℕ) (ss : List (List Job)) (ls : List PlannerState) (rs : List RunState)
    → AllRan pit max_entries retries opening k ss ls rs → All (IsItsLog (drop (length opening) history)) ls → All (λ log. IsPrefix log.seen history) ls
    → AllDid pit max_entries retries opening history k ss rs
did-all pit max_entries retries opening history k [] [] [] all logged seen = tt
did-all pit max_entries retries opening history k [] [] (x ∷ rs) all logged seen = absurd all
did-all pit max_entries retries opening history k [] (x ∷ ls) rs all logged seen = absurd all
did-all pit max_entries retries opening history k (x ∷ ss) [] rs all logged seen = absurd all
did-all pit max_entries retries opening history k (x ∷ ss) (y ∷ ls) [] all logged seen = absurd all
did-all pit max_entries retries opening history k (x ∷ ss) (y ∷ ls) (z ∷ rs) (first, rest) logged seen =
    let past = drop (length opening) history in
    let here : entries_of y.number past ≡ y.items = All-head (IsItsLog past) y ls logged in
    let same : y.items ≡ entries_of k past = sym here ∙ ap (λ (n : ℕ). entries_of n past) first.number in
    let own = subst (λ (es : List Answered). RanScript pit max_entries retries opening y.seen x k es z) same first.script_ran in (
      script-on pit max_entries retries k opening y.seen history x (entries_of k past) z (All-head (λ log. IsPrefix log.seen history) y ls seen) own,
      did-all pit max_entries retries opening history (k + 1) ss ls rs rest (All-tail (IsItsLog past) y ls logged) (All-tail (λ log. IsPrefix log.seen history) y ls seen),
    )

pub did : (pit : Pit) (max_entries retries : ℕ) (opening history : List Answered) (ss : List (List Job)) (ls : List PlannerState) (rs : List RunState)
    → AllRan pit max_entries retries opening 1 ss ls rs → AreLogged (length ss) (drop (length opening) history) ls → All (λ log. IsPrefix log.seen history) ls
    → AllDid pit max_entries retries opening history 1 ss rs
did pit max_entries retries opening history ss ls rs all logged seen =
    did-all pit max_entries retries opening history 1 ss ls rs all
    (each-log (drop (length opening) history) (length ss) ls logged (numbers pit max_entries retries opening 1 ss ls rs all)) seen

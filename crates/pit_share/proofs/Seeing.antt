-- What logs have seen, beside a history.
use Rattle.std.proofs.Common.{◌≡◌, ℕ, ◌+◌, ◌<◌, List, ◌∷◌, ◌++◌, length, get_or, take, drop, refl, sym, ap, ◌∙◌, subst}
use Rattle.std.specs.Prelude.{All}
use Rattle.std.proofs.lemmas.List.{take_more, drop_more, take-append-drop}
use Rattle.std.proofs.lemmas.List.Elements.{All-push}
use mathlib.Core.List.{IsPrefix}
use Rattle.pit_desk.specs.History.{Answered}
use Rattle.pit_share.specs.Planners.{PlannerState}
use Rattle.pit_share.specs.Logs.{IsFirstSeeingMore}

-- the history begins with what each of the first logs has seen
abbrev pub AllBegin : List Answered → List PlannerState → Type 0
AllBegin history logs = All (λ log. IsPrefix log.seen history) logs

-- one log more
pub begins-more : (history : List Answered) (logs : List PlannerState) (i : ℕ) (log : PlannerState) → i < length logs → log ≡ get_or logs i log → AllBegin history (take i logs)
    → IsPrefix log.seen history → AllBegin history (take (i + 1) logs)
begins-more history logs i log below is all here =
    let P : PlannerState → Type 0 = λ l. IsPrefix l.seen history in
    subst (λ (ls : List PlannerState). All P ls) (sym (take_more logs i log below)) (All-push P (take i logs) (get_or logs i log) all (subst P is here))

-- a log that has seen more
pub first-more : (history : List Answered) (logs : List PlannerState) (i : ℕ) (log : PlannerState) → i < length logs → log ≡ get_or logs i log → AllBegin history (take i logs)
    → IsPrefix history log.seen → length history < length log.seen → IsFirstSeeingMore history logs log.number
first-more history logs i log below is all begins more = record {
  before = take i logs;
  log = log;
  behind = drop (i + 1) logs;
  order =
      sym (take-append-drop i logs)
      ∙ ap (λ (ls : List PlannerState). take i logs ++ ls) (drop_more logs i log below ∙ ap (λ (l : PlannerState). l ∷ drop (i + 1) logs) (sym is));
  number = refl;
  seen_before = all;
  begins = begins;
  more = more;
}

-- For the crates above: a fault that is handed on, what no call does, what devices determine, where memory runs out behind a text, and numbers below
-- one more.
pub use Rattle.pit_step.proofs.HandedOn.{handed_on, err_handed}
pub use Rattle.pit_step.proofs.Known.{keeps_itself}
pub use Rattle.pit_step.proofs.Shorts.{shorts_none}
pub use Rattle.pit_step.proofs.Determined.{IsDetermined, IsDecided, HasSome, FailsOnly, IsShown, IsNeverBoth, in_turn-determined, in_turn-decided, in_turn-only, beside-determined, beside-decided, carrying-determined, pass-decided, may-decided, run-decided, each-untouched, each-decided, each-only, seen_run, shown_run}
pub use Rattle.pit_step.proofs.Each.{each-goes_on, each-stops}
pub use Rattle.pit_step.proofs.DeterminedSteps.{IsSeen, IsOfInputs, never_two, inputs-seen, IsOneText, IsDecidedText, text-decided, judge-decided, input-determined, write-determined, write-shown, write-never_both}
pub use Rattle.pit_step.proofs.DeterminedInputs.{decided-model, decided-order, decided-places, decided-solution, model-determined, ordered_pit-determined}
pub use Rattle.pit_step.proofs.DeterminedHistory.{IsOneHistory, IsNeverBad, IsOneFault, one-history_text}
pub use Rattle.pit_step.proofs.Stops.{made, model-stop, order-stop, places-stop, solution-stop}
pub use Rattle.pit_step.proofs.LeftText.{left_text-of_periods}
pub use Rattle.pit_step.proofs.Ranges.{range-more, count-more}
pub use Rattle.pit_step.proofs.Rising.{few-rising, few-preds}

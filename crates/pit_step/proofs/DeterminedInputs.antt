-- What the devices of a model, of precedences and of a solution determine.
use Rattle.std.proofs.Common.{ℕ, List, IsSome}
use Rattle.pit_model.specs.Pit.{Pit}
use Rattle.pit_text.specs.Cutting.{cut_of, end_line}
use Rattle.pit_text.specs.Causes.{cause_of}
use Rattle.pit_text.specs.Stands.{StandsFor, FailsFirst, StandsWhole, FailsWhole, NamesFault}
use Rattle.pit_text.specs.Model.{model_line, model_end, pit_of}
use Rattle.pit_text.specs.Precedence.{precedence_line, pit_with_preds}
use Rattle.pit_text.specs.Blocks.{block_line, pit_with_places}
use Rattle.pit_text.specs.Solution.{solution_line, period_in, schedule_of}
use Rattle.pit_text.proofs.CallerLemmas.{one_result, one_whole_result, named-result}
use Rattle.pit_step.specs.declared.input.Input.{Input}
use Rattle.pit_step.specs.declared.input.Input.TheVariants.{Model, Precedence, Blocks}
use Rattle.pit_step.specs.Devices.{Reading}
use Rattle.pit_step.specs.Inputs.{IsModel, IsModelStop, IsModelFault, IsOrder, IsOrderStop, IsOrderFault, IsPlaced, IsPlacesStop, IsPlacesFault, IsSolutionOf, IsSolutionStop, IsSolutionFault, model_step, order_step, ordered_pit_step}
use Rattle.pit_step.proofs.Determined.{IsDetermined, in_turn-determined}
use Rattle.pit_step.proofs.DeterminedSteps.{IsSeen, IsDecidedText, text-decided, input-determined}

pub decided-model : (bytes : List ℕ) → IsDecidedText (IsModel bytes) (IsModelFault bytes)
decided-model bytes =
    text-decided Model (StandsWhole model_line model_end (cut_of bytes)) (λ place. NamesFault cause_of (FailsWhole model_line model_end (cut_of bytes) (end_line bytes) place)) (IsModelStop bytes) pit_of
    (named-result cause_of _ _ (one_whole_result model_line model_end (cut_of bytes) (end_line bytes)))

pub decided-order : (given : Pit) (bytes : List ℕ) → IsDecidedText (IsOrder given bytes) (IsOrderFault given bytes)
decided-order given bytes =
    text-decided Precedence (StandsFor (precedence_line given) (cut_of bytes)) (λ place. NamesFault cause_of (FailsFirst (precedence_line given) (cut_of bytes) place)) (IsOrderStop given bytes) (pit_with_preds given)
    (named-result cause_of _ _ (one_result (precedence_line given) (cut_of bytes)))

pub decided-places : (given : Pit) (bytes : List ℕ) → IsDecidedText (IsPlaced given bytes) (IsPlacesFault given bytes)
decided-places given bytes =
    text-decided Blocks (StandsFor (block_line given) (cut_of bytes)) (λ place. NamesFault cause_of (FailsFirst (block_line given) (cut_of bytes) place)) (IsPlacesStop given bytes) (pit_with_places given)
    (named-result cause_of _ _ (one_result (block_line given) (cut_of bytes)))

pub decided-solution : (file : Input) (pit : Pit) (bytes : List ℕ) → IsDecidedText (IsSolutionOf pit bytes) (IsSolutionFault file pit bytes)
decided-solution file pit bytes =
    text-decided file (StandsFor (solution_line pit.blocks pit.periods) (cut_of bytes)) (λ place. NamesFault cause_of (FailsFirst (solution_line pit.blocks pit.periods) (cut_of bytes) place)) (IsSolutionStop pit bytes)
    (λ facts. schedule_of pit.blocks (period_in facts)) (named-result cause_of _ _ (one_result (solution_line pit.blocks pit.periods) (cut_of bytes)))

pub model-determined : (model : Reading) → IsSome model.before → IsDetermined IsSeen (model_step model) tt
model-determined model told = input-determined Model model (λ _. IsModel) (λ _. IsModelFault) tt told (λ bytes. (decided-model bytes).once)

order-determined : (precedence : Reading) (given : Pit) → IsSome precedence.before → IsDetermined IsSeen (order_step precedence) given
order-determined precedence given told = input-determined Precedence precedence IsOrder IsOrderFault given told (λ bytes. (decided-order given bytes).once)

pub ordered_pit-determined : (model precedence : Reading) → IsSome model.before → IsSome precedence.before → IsDetermined IsSeen (ordered_pit_step model precedence) tt
ordered_pit-determined model precedence told also =
    in_turn-determined IsSeen (model_step model) (order_step precedence) tt (model-determined model told) (λ given. order-determined precedence given also)

-- The run of `info`.
use Rattle.std.specs.Prelude.{◌≡◌, ℕ, Bool, List, Option, Some, None, is_some, IsSome, MatchOption, ⊤}
use Rattle.pit_model.specs.Pit.{Pit, IsMeetable, IsFirstUnmeetable}
use Rattle.pit_text.specs.Cutting.{cut_of}
use Rattle.pit_step.specs.declared.fault.CliFault.{CliFault}
use Rattle.pit_step.specs.declared.fault.CliFault.TheVariants.{NoMemory}
use Rattle.pit_step.specs.declared.input.Input.TheVariants.{Model}
use Rattle.pit_step.specs.declared.status.Status.{Status}
use Rattle.pit_step.specs.declared.status.Status.TheVariants.{Fine}
use Rattle.pit_step.specs.Steps.{Step, in_turn, carrying, judge_step}
use Rattle.pit_step.specs.Devices.{Reading, Writing, input_step, write_step}
use Rattle.pit_step.specs.Inputs.{IsModel, IsModelFault, order_step, places_if_step}
use Rattle.pit_info.specs.Unknown.{unknown_text}
use Rattle.pit_info.specs.InfoText.{info_text}

-- ---- the inputs

-- a model's pit, and the lines of the unknown keys of its header
pub record IsHeaded (bytes : List ℕ) (headed : Pit × List ℕ) : Type 0 where
  pub stands : IsModel bytes headed.0
  pub unknown : headed.1 ≡ unknown_text (cut_of bytes)

abbrev pub headed_step : Reading → Step CliFault (Unit {0}) (Pit × List ℕ)
headed_step model = input_step Model model (λ _. IsHeaded) (λ _. IsModelFault)

-- the source, if there is one, tells its bytes
abbrev pub IsToldIf : Option Reading → Type 0
IsToldIf None = ⊤
IsToldIf (Some blocks) = IsSome blocks.before

-- the precedences and the places of a pit
abbrev pub ordered_step : Reading → Option Reading → Step CliFault Pit Pit
ordered_step precedence blocks = in_turn (order_step precedence) (places_if_step blocks)

-- the pit of all inputs, and the lines of the unknown keys
abbrev pub inputs_step : Reading → Reading → Option Reading → Step CliFault (Unit {0}) (Pit × List ℕ)
inputs_step model precedence blocks = in_turn (headed_step model) (carrying (ordered_step precedence blocks))

-- ---- the answer

-- the text of a pit and of the lines of the unknown keys
pub record IsInfo (with_places : Bool) (pit : Pit) (unknown : List ℕ) (text : List ℕ) : Type 0 where
  pub unmeetable : Option (ℕ × ℕ)
  pub is_first : MatchOption unmeetable (IsMeetable pit) (IsFirstUnmeetable pit)
  pub says : text ≡ info_text with_places pit unmeetable unknown

-- the text, or there is no memory for it
abbrev pub rendered_step : Bool → Step CliFault (Pit × List ℕ) (List ℕ)
rendered_step with_places =
    judge_step (λ given text. IsInfo with_places given.0 given.1 text) (λ given fault. fault ≡ NoMemory)

-- The model, the precedences, the places where there is a source for them, and then what is rendered of them is written.
abbrev pub info_run : Reading → Reading → Option Reading → Writing → Step CliFault (Unit {0}) Status
info_run model precedence blocks out =
    in_turn (inputs_step model precedence blocks) (in_turn (rendered_step (is_some blocks)) (write_step out (λ text. text) (λ _. Fine)))

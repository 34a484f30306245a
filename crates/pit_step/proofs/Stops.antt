-- Where memory runs out behind a text that stands for a value, and which texts have a fault of their own.
use Rattle.std.proofs.Common.{◌≡◌, ◌⊎◌, inl, inr, ℕ, List, Result, MatchResult, sym, refl, subst}
use Rattle.std.proofs.lemmas.Result.{MatchResult-weaker}
use Rattle.pit_model.specs.Pit.{Pit}
use Rattle.pit_text.specs.Cutting.{cut_of, end_line}
use Rattle.pit_text.specs.declared.error.Cause.TheVariants.{NoMemory as WantsMemory}
use Rattle.pit_text.specs.declared.error.TextError.{TextError}
use Rattle.pit_text.specs.Stands.{StopsAt}
use Rattle.pit_text.specs.Model.{ModelStops}
use Rattle.pit_text.specs.Precedence.{precedence_line}
use Rattle.pit_text.specs.Blocks.{block_line}
use Rattle.pit_text.specs.Solution.{SolutionStops}
use Rattle.pit_text.proofs.CallerLemmas.{no_fault_wants, stop_alone}
use Rattle.pit_step.specs.declared.input.Input.{Input}
use Rattle.pit_step.specs.declared.input.Input.TheVariants.{Precedence}
use Rattle.pit_step.specs.declared.fault.CliFault.{CliFault}
use Rattle.pit_step.specs.declared.fault.CliFault.TheVariants.{NoMemory}
use Rattle.pit_step.specs.Steps.{IsResultOf}
use Rattle.pit_step.specs.Devices.{Reading, input_step}
use Rattle.pit_step.specs.Inputs.{IsModel, IsBadModel, IsModelStop, IsOrder, IsBadOrder, IsOrderStop, IsPlaced, IsBadPlaces, IsPlacesStop, IsSolutionOf, IsBadSolution, IsSolutionStop, IsOrderFault, model_step, order_step, ordered_pit_step}

-- ---- behind the whole text

pub model-stop : (bytes : List ℕ) (pit : Pit) → IsModel bytes pit → IsModelStop bytes
unfolding IsModelStop
model-stop bytes pit is = (end_line bytes, inr (is.facts, is.stands, refl))

pub order-stop : (given : Pit) (bytes : List ℕ) (pit : Pit) → IsOrder given bytes pit → IsOrderStop given bytes
unfolding IsOrderStop
order-stop given bytes pit is = inr (is.facts, is.stands)

pub places-stop : (given : Pit) (bytes : List ℕ) (pit : Pit) → IsPlaced given bytes pit → IsPlacesStop given bytes
unfolding IsPlacesStop
places-stop given bytes pit is = inr (is.facts, is.stands)

pub solution-stop : (pit : Pit) (bytes : List ℕ) (schedule : List (ℕ × ℕ)) → IsSolutionOf pit bytes schedule → IsSolutionStop pit bytes
unfolding IsSolutionStop
solution-stop pit bytes schedule is = inr (is.facts, is.stands)

-- ---- where a reader is out of memory

pub model-wants : (bytes : List ℕ) (error : TextError) → error.cause ≡ WantsMemory → ((error.cause ≡ WantsMemory) × ModelStops (cut_of bytes) (end_line bytes) error.line) ⊎ IsBadModel bytes error → IsModelStop bytes
unfolding IsModelStop
model-wants bytes error is answered = (error.line, stop_alone no_fault_wants is answered)

pub order-wants : (given : Pit) (bytes : List ℕ) (error : TextError) → error.cause ≡ WantsMemory → ((error.cause ≡ WantsMemory) × StopsAt (precedence_line given) (cut_of bytes) error.line) ⊎ IsBadOrder given bytes error
    → IsOrderStop given bytes
unfolding IsOrderStop
order-wants given bytes error is answered = inl (error.line, stop_alone no_fault_wants is answered)

pub places-wants : (given : Pit) (bytes : List ℕ) (error : TextError) → error.cause ≡ WantsMemory → ((error.cause ≡ WantsMemory) × StopsAt (block_line given) (cut_of bytes) error.line) ⊎ IsBadPlaces given bytes error
    → IsPlacesStop given bytes
unfolding IsPlacesStop
places-wants given bytes error is answered = inl (error.line, stop_alone no_fault_wants is answered)

pub solution-wants : (pit : Pit) (bytes : List ℕ) (error : TextError) → error.cause ≡ WantsMemory
    → ((error.cause ≡ WantsMemory) × SolutionStops pit.blocks pit.periods (cut_of bytes) (end_line bytes) error.line) ⊎ IsBadSolution pit bytes error → IsSolutionStop pit bytes
unfolding IsSolutionStop
solution-wants pit bytes error is answered = inl (error.line, stop_alone no_fault_wants is answered)

-- ---- a value that is made of what a text stands for, or there is no memory for it

module _ {A B C : Type 0} (file : Input) (source : Reading) (Stands : A → List ℕ → B → Type 0) (Made : A → List ℕ → C → Type 0) (IsFault : A → List ℕ → CliFault → Type 0) (given : A) where
  made_gives : {X : Type 0} (value_of : X → C) (value : B) (P : X → Type 0) → ((bytes : List ℕ) (x : X) → Stands given bytes value → P x → Made given bytes (value_of x))
      → (input_step file source Stands IsFault).Gives given value → (x : X) → P x → (input_step file source Made IsFault).Gives given (value_of x)
  made_gives value_of value P make read x is = (read.0, read.1, make read.0 x read.2 is)

  wants : (value : B) (fault : CliFault) → ((bytes : List ℕ) → Stands given bytes value → IsFault given bytes NoMemory) → (input_step file source Stands IsFault).Gives given value → fault ≡ NoMemory
      → (input_step file source Made IsFault).Fails given fault
  wants value fault stop read is =
      inr (read.0, read.1, subst (λ (f : CliFault). IsFault given read.0 f) (sym is) (stop read.0 read.2))

  pub made : {X : Type 0} (value_of : X → C) (value : B) (P : X → Type 0) (result : Result X CliFault) → ((bytes : List ℕ) (x : X) → Stands given bytes value → P x → Made given bytes (value_of x))
      → ((bytes : List ℕ) → Stands given bytes value → IsFault given bytes NoMemory) → (input_step file source Stands IsFault).Gives given value → MatchResult result P (λ fault. fault ≡ NoMemory)
      → MatchResult result (λ x. (input_step file source Made IsFault).Gives given (value_of x)) ((input_step file source Made IsFault).Fails given)
  made value_of value P result make stop read answered =
      MatchResult-weaker result answered (made_gives value_of value P make read) (λ fault is. wants value fault stop read is)

-- the pit that a model and precedences stand for is made, or there is no memory for it
pub ordered-made : (model precedence : Reading) (given pit : Pit) (result : Result Pit CliFault) → (model_step model).Gives tt given → (order_step precedence).Gives given pit
    → MatchResult result (λ (p : Pit). p ≡ pit) (λ fault. fault ≡ NoMemory) → IsResultOf (ordered_pit_step model precedence) tt result
ordered-made model precedence given pit result first behind answered =
    let order = made Precedence precedence IsOrder IsOrder IsOrderFault given (λ (p : Pit). p) pit (λ (p : Pit). p ≡ pit) result
    (λ bytes p stands is. subst (λ (q : Pit). IsOrder given bytes q) (sym is) stands) (λ bytes stands. order-stop given bytes pit stands) behind answered in
    MatchResult-weaker result order (λ p gives. (given, first, gives)) (λ fault fails. inr (given, first, fails))

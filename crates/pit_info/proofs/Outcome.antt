-- The run of `info` has one outcome.
use Rattle.std.proofs.Common.{◌≡◌, ℕ, ◌<◌, Bool, List, ◌++◌, length, length-append, Option, Some, None, IsSome, is_some, MatchOption, refl, sym, ap, subst, ◌∙◌, true≢false, arith}
use Rattle.pit_num.proofs.CallerLemmas.{one-least_of, total-pairs}
use Rattle.pit_num.specs.Least.{ComesBefore}
use Rattle.pit_model.specs.Pit.{Pit, IsUnmeetable, IsMeetable, IsFirstUnmeetable}
use Rattle.pit_step.specs.declared.fault.CliFault.TheVariants.{NoMemory}
use Rattle.pit_step.specs.declared.input.Input.TheVariants.{Model, Precedence, Blocks}
use Rattle.pit_step.specs.declared.status.Status.TheVariants.{Fine}
use Rattle.pit_step.specs.Steps.{carrying, HasOneOutcome}
use Rattle.pit_step.specs.Devices.{Reading, Writing, write_step}
use Rattle.pit_step.specs.Inputs.{IsModelFault, IsOrder, IsOrderFault, IsPlaced, IsPlacesFault, order_step, places_if_step}
use Rattle.pit_step.proofs.CallerLemmas.{IsSeen, IsDetermined, IsOneText, shown_run, in_turn-determined, carrying-determined, input-determined, decided-model, decided-order, decided-places, write-determined, write-shown, write-never_both}
use Rattle.pit_info.specs.InfoText.{size_text, info_text}
use Rattle.pit_info.specs.Info.{IsHeaded, IsInfo, IsToldIf, headed_step, ordered_step, inputs_step, rendered_step, info_run}

-- ---- the inputs

-- a model has one pit, and so one text of its unknown keys
headed_text : (bytes : List ℕ) → IsOneText (IsHeaded bytes) (IsModelFault bytes)
headed_text bytes = record {
  values = λ value other p q.
      ap (λ (pit : Pit). (pit, value.1)) ((decided-model bytes).once.values value.0 other.0 p.stands q.stands) ∙ ap (λ (xs : List ℕ). (other.0, xs)) (p.unknown ∙ sym q.unknown);
  apart = λ value fault some p q. (decided-model bytes).once.apart value.0 fault some p.stands q;
  faults = (decided-model bytes).once.faults;
}

headed-determined : (model : Reading) → IsSome model.before → IsDetermined IsSeen (headed_step model) tt
headed-determined model told = input-determined Model model (λ _. IsHeaded) (λ _. IsModelFault) tt told headed_text

places-determined : (blocks : Option Reading) (given : Pit) → IsToldIf blocks → IsDetermined IsSeen (places_if_step blocks) given
places-determined None given told = record {
  values = λ value other p q. p ∙ sym q;
  apart = λ value fault due p q. q;
  faults = λ fault other due also p q. absurd p;
}
places-determined (Some blocks) given told = input-determined Blocks blocks IsPlaced IsPlacesFault given told (λ bytes. (decided-places given bytes).once)

ordered-determined : (precedence : Reading) (blocks : Option Reading) (given : Pit) → IsSome precedence.before → IsToldIf blocks → IsDetermined IsSeen (ordered_step precedence blocks) given
ordered-determined precedence blocks given told also =
    in_turn-determined IsSeen (order_step precedence) (places_if_step blocks) given
    (input-determined Precedence precedence IsOrder IsOrderFault given told (λ bytes. (decided-order given bytes).once)) (λ between. places-determined blocks between also)

inputs-determined : (model precedence : Reading) (blocks : Option Reading) → IsSome model.before → IsSome precedence.before → IsToldIf blocks → IsDetermined IsSeen (inputs_step model precedence blocks) tt
inputs-determined model precedence blocks told_model told_precedence told_blocks =
    in_turn-determined IsSeen (headed_step model) (carrying (ordered_step precedence blocks)) tt (headed-determined model told_model)
    (λ headed. carrying-determined IsSeen (ordered_step precedence blocks) headed (ordered-determined precedence blocks headed.0 told_precedence told_blocks))

-- ---- the answer

-- there is one first limit that can't be met, or none
one-unmeetable : (pit : Pit) (found other : Option (ℕ × ℕ)) → MatchOption found (IsMeetable pit) (IsFirstUnmeetable pit) → MatchOption other (IsMeetable pit) (IsFirstUnmeetable pit) → found ≡ other
one-unmeetable pit None None p q = refl
one-unmeetable pit None (Some y) p q = absurd (true≢false (sym q.passes.2 ∙ p y.0 y.1 q.passes.1 q.passes.0))
one-unmeetable pit (Some x) None p q = absurd (true≢false (sym p.passes.2 ∙ q x.0 x.1 p.passes.1 p.passes.0))
one-unmeetable pit (Some x) (Some y) p q =
    ap (λ (pair : ℕ × ℕ). Some (pair.1, pair.0)) (one-least_of ComesBefore (IsUnmeetable pit) (x.1, x.0) (y.1, y.0) total-pairs p q)

one-text : (with_places : Bool) (pit : Pit) (unknown text other : List ℕ) → IsInfo with_places pit unknown text → IsInfo with_places pit unknown other → text ≡ other
one-text with_places pit unknown text other p q =
    p.says ∙ ap (λ (found : Option (ℕ × ℕ)). info_text with_places pit found unknown) (one-unmeetable pit p.unmeetable q.unmeetable p.is_first q.is_first) ∙ sym q.says

rendered-determined : (with_places : Bool) (given : Pit × List ℕ) → IsDetermined IsSeen (rendered_step with_places) given
rendered-determined with_places given = record {
  values = λ text other p q. one-text with_places given.0 given.1 text other p q;
  apart = λ text fault due p q. due q;
  faults = λ fault other due also p q. absurd (due p);
}

-- the text has the word `blocks` at least
some_size : (pit : Pit) → 0 < length (size_text pit)
unfolding size_text
some_size pit = omega arith

some_text : (with_places : Bool) (pit : Pit) (unknown text : List ℕ) → IsInfo with_places pit unknown text → 0 < length text
some_text with_places pit unknown text is =
    subst (λ (xs : List ℕ). 0 < length xs) (sym is.says) (front_some (size_text pit) _ (some_size pit))
  where
    front_some : (xs ys : List ℕ) → 0 < length xs → 0 < length (xs ++ ys)
    front_some xs ys some = let long = length-append xs ys in omega (arith, long, some)

pub info_outcome : (model precedence : Reading) (blocks : Option Reading) (out : Writing) → IsSome model.before → IsSome precedence.before → IsToldIf blocks → IsSome out.before
    → HasOneOutcome NoMemory (info_run model precedence blocks out)
info_outcome model precedence blocks out told_model told_precedence told_blocks told_out =
    shown_run NoMemory (inputs_step model precedence blocks) (rendered_step (is_some blocks)) (write_step out (λ (text : List ℕ). text) (λ _. Fine))
    (inputs-determined model precedence blocks told_model told_precedence told_blocks) (rendered-determined (is_some blocks))
    (λ text. write-determined out (λ (t : List ℕ). t) (λ _. Fine) text)
    (λ given text is. write-shown out (λ (t : List ℕ). t) (λ _. Fine) text told_out (some_text (is_some blocks) given.0 given.1 text is))
    (λ text. write-never_both out (λ (t : List ℕ). t) (λ _. Fine) text)

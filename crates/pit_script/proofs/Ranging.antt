-- What is read stays in the ranges of the pit.
use Rattle.std.proofs.Common.{◌≡◌, [], sym, subst, arith, unwrap_or}
use Rattle.std.specs.List.{All}
use Rattle.std.proofs.lemmas.List.Elements.{All-push}
use Rattle.pit_model.specs.Pit.{Pit}
use Rattle.pit_script.specs.Jobs.{Progress, no_job, with_fact}
use Rattle.pit_script.specs.Ranges.{IsStepIn, IsFactIn, IsJobIn}
use Rattle.pit_script.specs.Inside.Ranges.{IsProgressIn}
use Rattle.pit_script.specs.declared.fact.ScriptFact.{ScriptFact}
use Rattle.pit_script.specs.declared.fact.ScriptFact.TheVariants.{Begin, Does, Ends}

no-step : (pit : Pit) → All (IsStepIn pit) []
no-step pit k d less = absurd (omega (arith, less))

in_range-none : (pit : Pit) → IsProgressIn pit no_job
in_range-none pit = record {
  jobs = λ k d less. absurd (omega (arith, less));
  steps = no-step pit;
}

pub in_range-begins : (pit : Pit) (at : Progress) → at ≡ no_job → IsProgressIn pit at
in_range-begins pit at none = subst (λ (p : Progress). IsProgressIn pit p) (sym none) (in_range-none pit)

one-more : (pit : Pit) (at : Progress) (fact : ScriptFact) → IsFactIn pit fact → IsProgressIn pit at → IsProgressIn pit (with_fact at fact)
one-more pit at Begin stated so_far = record {
  jobs = so_far.jobs;
  steps = no-step pit;
}
one-more pit at (Does step) stated so_far = record {
  jobs = so_far.jobs;
  steps = All-push (IsStepIn pit) (unwrap_or at.current []) step so_far.steps stated;
}
one-more pit at (Ends end) stated so_far = record {
  jobs = All-push (IsJobIn pit) at.jobs (record { steps = unwrap_or at.current []; end = end }) so_far.jobs so_far.steps;
  steps = no-step pit;
}

pub in_range-more : (pit : Pit) (at after : Progress) (fact : ScriptFact) → IsFactIn pit fact → after ≡ with_fact at fact → IsProgressIn pit at → IsProgressIn pit after
in_range-more pit at after fact stated is so_far = subst (λ (p : Progress). IsProgressIn pit p) (sym is) (one-more pit at fact stated so_far)

use Rattle.std.proofs.Common.{inl, inr, map, refl, subst}
use Rattle.pit_cli.specs.Texts.{scripts_judged}
use Rattle.pit_cli.proofs.texts.parsed.Goals as goal

pub returns-in-Err-clause-result : goal.returns-in-Err-clause-result
returns-in-Err-clause-result g c = rw (← c.input.view_is) (inl (c.in-Err.ensures, (tt, tt)))

pub returns-in-Err-opening_of-clause-result : goal.returns-in-Err-opening_of-clause-result
returns-in-Err-opening_of-clause-result g c =
    rw (← c.input.view_is) (inr (c.in-Ok.pit, c.in-Ok.ensures, inl (c.in-Err-opening_of.ensures.result, tt)))

pub returns-in-Err-scripts_of-clause-result : goal.returns-in-Err-scripts_of-clause-result
returns-in-Err-scripts_of-clause-result g c =
    let fault = c.in-Err-scripts_of.fault in
    rw (← c.input.view_is) (inr (
      c.in-Ok.pit,
      c.in-Ok.ensures,
      inr (
        (c.in-Ok.pit, c.in-Ok-opening_of.opening),
        (refl, c.in-Ok-opening_of.ensures.result),
        subst (λ xs. (scripts_judged (map (λ bytes. bytes.items) xs) c.in-Ok.pit).Fails tt fault) c.deref.ensures.value c.in-Err-scripts_of.ensures.result,
      ),
    ))

pub returns-clause-result : goal.returns-clause-result
returns-clause-result g c =
    let pit = c.in-Ok.pit in
    let opening = c.in-Ok-opening_of.opening in
    let jobs = map (λ script. script.jobs) c.in-Ok-scripts_of.scripts.items in
    rw (← c.input.view_is) (
      pit,
      c.in-Ok.ensures,
      (
        (pit, opening),
        (refl, c.in-Ok-opening_of.ensures.result),
        (refl, subst (λ xs. (scripts_judged (map (λ bytes. bytes.items) xs) pit).Gives tt jobs) c.deref.ensures.value c.in-Ok-scripts_of.ensures.result),
      ),
    )

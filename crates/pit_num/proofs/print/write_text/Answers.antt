use Rattle.std.proofs.Common.{take, ◌++◌, arith, refl}
use Rattle.std.proofs.lemmas.Grind.{common_steps}
use Rattle.pit_num.proofs.Written.{appends_more, appends_kept, failed_early_if_any, rest_after, rest_of_none}
use Rattle.pit_num.proofs.print.write_text.Goals as goal

pub loop-rest-preserved : goal.loop-rest-preserved
loop-rest-preserved g c = record {
  given = (c.loop-rest.invariant.given.0 ++ take c.in-Ok.n c.loop-rest.rest.now, rest_after c.args.text.now c.loop-rest.invariant.given.0 c.loop-rest.rest.now c.in-Ok.n c.loop-rest.invariant.given.1, appends_more _ _ _ _ _ c.loop-rest.invariant.given.2 c.in-Ok.ensures.taken);
  untouched = λ e. absurd (rest_of_none c.args.text.now c.loop-rest.invariant.given.0 c.loop-rest.rest.now c.loop-rest.invariant.given.1 (grind (arith, common_steps)) e);
  sound = λ _. c.in-Ok.ensures.failed;
}

pub returns-in-Err : goal.returns-in-Err
returns-in-Err g c =
    failed_early_if_any _ _ _ _ _ _ refl
    (record {
      written = c.loop-rest.invariant.given.0;
      rest = c.loop-rest.rest.now;
      whole = c.loop-rest.invariant.given.1;
      appended = appends_kept _ _ _ _ c.loop-rest.invariant.given.2 c.in-Err.ensures.kept;
    })
    c.in-Err.ensures.failed
    (rest_of_none c.args.text.now c.loop-rest.invariant.given.0 c.loop-rest.rest.now c.loop-rest.invariant.given.1 (grind (arith, common_steps)))

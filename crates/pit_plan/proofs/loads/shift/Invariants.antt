use Rattle.std.proofs.Common.{◌≡◌, take}
use Rattle.pit_model.specs.Pit.{coefs_of}
use Rattle.pit_plan.specs.Schedule.{coef_in}
use Rattle.pit_plan.specs.Inside.Totals.{Moves, signed_coef}
use Rattle.pit_plan.specs.Limits.{at_cell}
use Rattle.pit_plan.proofs.loads.shift.Given as goal

abbrev pub invariant-loop-r : goal.invariant-loop-r
invariant-loop-r g l = record {
  sound : g.L.Loads.is_sound l.loads;
  stays : g.L.Loads.base l.loads ≡ g.L.Loads.base l.fn.loads;
  moves : Moves l.pit (at_cell l.pit (g.L.Loads.load_in l.fn.loads)) l.t (λ r. signed_coef l.up (coef_in (take l.r-index (coefs_of l.pit l.b)) r)) (at_cell l.pit (g.L.Loads.load_in l.loads));
}

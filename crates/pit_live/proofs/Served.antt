-- A planner whose session was served.
use Rattle.std.proofs.Common.{◌≡◌, inl, ℕ, List, [], length, Option, ap, subst, ◌∙◌}
use Rattle.pit_model.specs.Pit.{Pit}
use Rattle.pit_desk.specs.History.{Answered}
use Rattle.pit_share.specs.Planners.{PlannerState, planner_of}
use Rattle.pit_serve.specs.Sessions.{IsSession}
use Rattle.pit_serve.specs.declared.session_end.SessionEnd.{SessionEnd}
use Rattle.pit_serve.proofs.CallerLemmas.{session_number}
use Rattle.pit_live.specs.Sat.{PlannerSat}

pub seated_sat : (pit : Pit) (max_entries : ℕ) (opening : List Answered) (seat : ℕ) (planner log : PlannerState) (input before after : Option (List ℕ)) (end : SessionEnd) (number replies entries : ℕ)
    → planner ≡ planner_of seat [] opening → number ≡ planner.number → entries ≡ length log.items → IsSession pit max_entries planner input before after end replies log
    → PlannerSat pit max_entries opening seat log (record { planner = number; replies = replies; entries = entries; ended = end })
seated_sat pit max_entries opening seat planner log input before after end number replies entries is numbered counted session = record {
  number = session_number pit max_entries planner input before after end replies log session ∙ ap (λ (p : PlannerState). p.number) is;
  of_sitting = numbered ∙ ap (λ (p : PlannerState). p.number) is;
  entries = counted;
  sat = inl (record {
    input = input;
    before = before;
    after = after;
    session = subst (λ (p : PlannerState). IsSession pit max_entries p input before after end replies log) is session;
  });
}

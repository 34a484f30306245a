-- What an ending that got no answer leaves.
use Rattle.std.proofs.Common.{◌≡◌, ℕ, ◌≤◌, List, length, refl, sym, subst, arith}
use mathlib.Core.List.{IsPrefix}
use Rattle.pit_model.specs.Pit.{Pit}
use Rattle.pit_tx.specs.Sets.{Sets}
use Rattle.pit_desk.specs.History.{Answered}
use Rattle.pit_desk.specs.declared.error.Stop.{Stop}
use Rattle.pit_desk.specs.declared.error.Stop.TheVariants as stop
use Rattle.pit_board.specs.Views.{Sight}
use Rattle.pit_share.specs.Planners.{TransactionState, planner_of, IsTransactionKept}
use Rattle.pit_share.specs.Endings.{IsStopped}
use Rattle.pit_share.specs.Inside.Floors.{IsStoppedAt}
use Rattle.pit_share.proofs.Looking.{kept-grows}
use Rattle.pit_board.proofs.CallerLemmas.{length-prefix}

-- who has seen all of a full history has seen that many entries
pub full-seen : (max_entries : ℕ) (history seen : List Answered) → length history ≡ max_entries → IsPrefix history seen → max_entries ≤ length seen
full-seen max_entries history seen full learnt = omega (arith, full, length-prefix history seen learnt)

-- the planner whose view was stopped so
pub stopped-planner : (max_entries number : ℕ) (items more : List Answered) (old new : Sight) (work back : Sets) (why : Stop) → more ≡ items → back ≡ work
    → IsStoppedAt max_entries old why new
    → IsStopped max_entries (record { planner = planner_of number items old.seen; work = work }) why (record { planner = planner_of number more new.seen; work = back })
stopped-planner max_entries number items more old new work back stop.Full same given stopped =
    (given, record { number = refl; items = same; seen = stopped.0 }, stopped.2)
stopped-planner max_entries number items more old new work back stop.NoMemory same given stopped =
    λ i. record { planner = planner_of number (same i) (stopped i).seen; work = given i }

-- a transaction that was stopped so is still one
pub kept-stopped : (pit : Pit) (max_entries : ℕ) (old new : TransactionState) (why : Stop) → IsStopped max_entries old why new → IsTransactionKept pit old → IsTransactionKept pit new
kept-stopped pit max_entries old new stop.Full stopped kept =
    subst (λ (w : Sets). IsTransactionKept pit (record { planner = new.planner; work = w })) (sym stopped.0) (kept-grows pit old.planner new.planner old.work stopped.1 kept)
kept-stopped pit max_entries old new stop.NoMemory stopped kept = subst (λ (t : TransactionState). IsTransactionKept pit t) (sym stopped) kept

-- What entries leave of a block.
use Rattle.std.specs.Prelude.{ℕ, nat_eq, List, Option, fold, unwrap_or}
use Rattle.std.specs.Map.{lookup}
use Rattle.pit_desk.specs.History.{Answered}
use Rattle.pit_desk.specs.declared.reply.EntryReply.TheVariants.{Committed, Refused, Withdrawn}

-- what is held behind an entry: what it writes, where it was committed and writes the block, and else what was held before
abbrev pub laid_on : ℕ → Option ℕ → Answered → Option ℕ
laid_on b held e = elim e.reply [ Committed number ↦ unwrap_or (lookup (nat_eq b) e.call.writes) held | Refused why ↦ held | Withdrawn ↦ held ]

-- the writes of the entries that were committed, laid over what was held, in order
unfoldable pub laid_over : ℕ → Option ℕ → List Answered → Option ℕ
laid_over b held entries = fold (laid_on b) held entries

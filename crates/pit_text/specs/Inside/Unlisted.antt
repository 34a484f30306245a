-- How a line of precedences is judged without a list.
use Rattle.std.specs.Prelude.{ℕ, nat_le, Bool, List, Result, Ok}
use Rattle.std.specs.List.{list_any}
use Rattle.pit_text.specs.declared.error.Fault.{Fault}
use Rattle.pit_text.specs.Stands.{◌>>=◌}

-- a block with the predecessors that were listed
abbrev pub with_block : ℕ → Result (List ℕ) Fault → Result (ℕ × List ℕ) Fault
with_block block listed = listed >>= (λ blocks. Ok (block, blocks))

-- whether one of them is this block or a greater one
abbrev pub has_from : ℕ → Result (List ℕ) Fault → Result Bool Fault
has_from least listed = listed >>= (λ blocks. Ok (list_any (λ a. nat_le least a) blocks))

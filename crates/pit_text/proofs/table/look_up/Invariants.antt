use Rattle.std.proofs.Common.{◌≡◌, map, length}
use Rattle.std.specs.Map.{lookup}
use Rattle.std.specs.Str.{bytes_eq}
use Rattle.pit_text.proofs.table.look_up.Given as goal

abbrev pub invariant-loop-left : goal.invariant-loop-left
invariant-loop-left g l = lookup (bytes_eq l.text) (map (λ row. (row.0.now, row.1)) l.left) ≡ lookup (bytes_eq l.text) (map (λ row. (row.0.now, row.1)) l.rows)

abbrev pub decreases-loop-left : goal.decreases-loop-left
decreases-loop-left g l = length l.left

use Rattle.std.proofs.Common.{◌<◌, length, sym, ap, subst, arith}
use Rattle.pit_model.specs.Pit.{ArePreds, preds_in, succs_in}
use Rattle.pit_model.proofs.Preds.{ArePreds-succs_in, length-succs, get_or-succs}
use Rattle.pit_model.proofs.instance.Instance.succs.Goals as goal

pub row-requires : goal.row-requires
row-requires g c =
    let same = ap (λ pit. pit.blocks) c.self.view_is in
    let each = c.self.invariant.0.each_preds in
    let long = length-succs c.self.inside.deposit.preds c.self.inside.succs.value c.self.invariant.1 in
    rw c.deref.ensures (omega arith)

pub returns-clause-value : goal.returns-clause-value
returns-clause-value g c =
    let same = ap (λ pit. pit.blocks) c.self.view_is in
    let each = c.self.invariant.0.each_preds in
    let within : c.args.b < length c.self.inside.deposit.preds = omega arith in
    rw (c.row.ensures, c.deref.ensures, ← c.self.view_is) (get_or-succs c.self.inside.deposit.preds c.self.inside.succs.value c.args.b c.self.invariant.1 within)

pub returns-clause-sound : goal.returns-clause-sound
returns-clause-sound g c =
    let same = ap (λ pit. pit.blocks) c.self.view_is in
    let each = c.self.invariant.0.each_preds in
    let within : c.args.b < length c.self.inside.deposit.preds = omega arith in
    let own = subst (λ n. ArePreds n c.args.b (preds_in c.self.inside.deposit.preds c.args.b)) (sym each) (c.self.invariant.0.preds c.args.b) in
    let sound = subst (λ n. ArePreds n c.args.b (succs_in c.self.inside.deposit.preds c.args.b)) each (ArePreds-succs_in c.self.inside.deposit.preds c.args.b own) in
    rw (c.row.ensures, c.deref.ensures, ← c.self.view_is, get_or-succs c.self.inside.deposit.preds c.self.inside.succs.value c.args.b c.self.invariant.1 within) sound

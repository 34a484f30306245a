use Rattle.std.proofs.Common.{arith, ◌-◌}
use Rattle.pit_text.proofs.Plain.{read_none, read_one, read_last}
use Rattle.pit_text.proofs.cutting.plain.listed_line.Goals as goal

pub loop-left-init : goal.loop-left-init
loop-left-init g c = record {
  some = c.requires;
  most = omega arith;
  read = read_none c.args.text.now _ _ (omega arith) c.clear.ensures.items;
}

pub loop-left-preserved : goal.loop-left-preserved
loop-left-preserved g c = record {
  some = omega arith;
  most = omega arith;
  read = read_one c.args.text.now c.loop-left.rest.now c.in-Some.behind.now (c.args.count - c.loop-left.left) _ c.loop-left.listed.items _ c.in-Some.n c.loop-left.invariant.read c.in-Some.ensures (omega arith) c.in_ok-push.ensures.items;
}

pub returns : goal.returns
returns g c =
    read_last c.args.text.now c.loop-left.rest.now c.in-Some-whole_before.behind.now (c.args.count - c.loop-left.left) c.args.count c.loop-left.listed.items _ c.in-Some-whole_before.n c.loop-left.invariant.read c.in-Some-whole_before.ensures (omega arith) c.in_ok-push-2.ensures.items

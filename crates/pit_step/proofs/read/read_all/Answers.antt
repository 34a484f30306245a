use Rattle.std.proofs.Common.{◌++◌, take, length-append, length-take, arith}
use Rattle.pit_step.proofs.Known.{consumes_more}
use Rattle.pit_step.proofs.read.read_all.Goals as goal

pub returns-then-is_err-clause-err : goal.returns-then-is_err-clause-err
returns-then-is_err-clause-err g c = (
  c.loop-chunk.text.items ++ take c.in-Ok.n c.take.new.buffer,
  consumes_more _ _ _ c.loop-chunk.text.items (take c.in-Ok.n c.take.new.buffer) c.loop-chunk.invariant.taken c.in-Ok.ensures.given,
)

pub returns-then-is_err-clause-memory : goal.returns-then-is_err-clause-memory
returns-then-is_err-clause-memory g c = λ _. (
  c.loop-chunk.text.items ++ take c.in-Ok.n c.take.new.buffer,
  omega (arith, length-append c.loop-chunk.text.items (take c.in-Ok.n c.take.new.buffer), length-take c.in-Ok.n c.take.new.buffer),
  consumes_more _ _ _ c.loop-chunk.text.items (take c.in-Ok.n c.take.new.buffer) c.loop-chunk.invariant.taken c.in-Ok.ensures.given,
)

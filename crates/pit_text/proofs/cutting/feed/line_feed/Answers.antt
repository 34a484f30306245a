use Rattle.std.proofs.Common.{◌+◌, arith}
use Rattle.std.proofs.lemmas.Simd.{run_in_chunk_stops}
use Rattle.pit_text.proofs.Feeds.{first_feed, no_feed_in_run, is_feed}
use Rattle.pit_text.proofs.cutting.feed.line_feed.Goals as goal

pub returns-then-run-lt-LANES : goal.returns-then-run-lt-LANES
returns-then-run-lt-LANES c =
    let text = c.args.text.now in
    let from = c.loop-from.from in
    let run = c.run_in_lanes-run.result in
    first_feed text (from + run) (omega arith) (no_feed_in_run text from 32 run (omega arith) c.run_in_lanes-run.ensures c.loop-from.invariant.before)
    (run_in_chunk_stops is_feed text from 32 run 0 (omega arith) c.run_in_lanes-run.ensures c.if-run-lt-LANES.true)

pub loop-from-preserved : goal.loop-from-preserved
loop-from-preserved c = record {
  place = omega arith;
  before = λ k below. no_feed_in_run c.args.text.now c.loop-from.from 32 c.run_in_lanes-run.result (omega arith) c.run_in_lanes-run.ensures c.loop-from.invariant.before k (omega arith);
}

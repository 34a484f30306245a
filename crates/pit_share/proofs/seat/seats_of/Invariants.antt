use Rattle.std.proofs.Common.{ℕ, ◌≡◌, ◌+◌, ◌<◌, slice_index, vec_len}
use Rattle.pit_share.proofs.seat.seats_of.Given as goal

abbrev pub invariant-loop-before : goal.invariant-loop-before
invariant-loop-before g l = record {
  publisher : l.publisher ≡ l.initial.publisher;
  parts : l.rest.parts + l.before ≡ l.initial.rest.parts;
  none_left : l.rest.amount ≡ 0;
  many : vec_len l.seats ≡ l.before;
  each : (k : ℕ) → k < l.before → slice_index l.seats.items k ≡ k + 1;
}

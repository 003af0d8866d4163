use Rattle.std.proofs.Common.{◌≡◌, ◌+◌, ◌≤◌, length}
use Rattle.capture_vectors.proofs.capture_run.feed.Given as goal

abbrev pub invariant-loop-chunk : goal.invariant-loop-chunk
invariant-loop-chunk l = record {
  size : 1 ≤ l.chunk-iterator.size;
  seen : l.seen + length l.chunk-iterator.rest.now ≡ length l.capture;
  used : l.run.used ≤ l.seen;
}

use Rattle.std.proofs.Common.{◌≡◌, ◌+◌, ◌≤◌, length, drop}
use Rattle.capture_lines.specs.Lines.{line_length}
use Rattle.capture_lines.proofs.skipped_from.Given as goal

abbrev pub invariant-loop-chunk : goal.invariant-loop-chunk
invariant-loop-chunk l = record {
  within : l.i ≤ length l.bytes;
  size : l.chunk-iterator.size ≡ 32;
  rest : l.chunk-iterator.rest.now ≡ drop l.i l.bytes;
  newline : l.i + line_length (drop l.i l.bytes) ≡ l.from + line_length (drop l.from l.bytes);
}

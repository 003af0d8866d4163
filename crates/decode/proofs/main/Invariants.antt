use Prim.Native.Nat.{◌*◌, ◌≤◌}
use mathlib.Core.Path.{◌≡◌}
use mathlib.Core.Bool.{true}
use lib.ListN.{length}
use Rattle.decode.specs.Turns.{stage_in, Reached}
use Rattle.decode.specs.Inner.Sizes.{input_room, output_room, lines_most, Counted}
use Rattle.decode.proofs.main.Given as goal

abbrev pub invariant-loop-turn : goal.invariant-loop-turn
invariant-loop-turn l = record {
  input : length l.buf ≡ input_room;
  output : length l.out ≡ output_room;
  lines : l.run.lines ≤ input_room * l.turn;
  counted : Counted lines_most l.run;
  more : l.run.more ≡ true;
  reached : Reached (stage_in l.run l.buf);
}

-- What one line comes to, return by return.
use Prim.Native.Nat.{ℕ, ◌+◌, ◌-◌, ◌*◌, ◌≤◌, ◌<◌}
use Rattle.std.specs.Prelude.{Some, None, Result, Err}
use mathlib.Core.Path.{◌≡◌, ◌∙◌, ap}
use mathlib.Core.List.{List}
use native.Mathlib.Omega.{arith}
use lib.ListN.{length, take, drop}
use borrow.Author.Tests.{ltb-false}
use Rattle.text.specs.Laid.{laid}
use Rattle.text.proofs.LaidLaws.{after-fits, laid-fits}
use Rattle.tlp.specs.declared.settings.Settings.{Settings}
use Rattle.tlp.specs.declared.refusal.Refusal.{Refusal}
use Rattle.tlp.specs.declared.refusal.Refusal.TheVariants.{BadLine}
use Rattle.tlp.specs.declared.packet.Packet.{Packet}
use Rattle.capture_lines.specs.Lines.{text_most, over_long, next_line}
use Rattle.capture_lines.specs.declared.NextLine.{NextLine}
use Rattle.capture_lines.specs.declared.NextLine.TheVariants.{Ended, OverLong, Unended}
use Rattle.capture_lines.proofs.NextLaws.{Complete, unended-line, ended-line, over-long-line}
use Rattle.capture_print.specs.Outputs.{output_line}
use Rattle.capture.specs.PacketLines.{packet_line}
use Rattle.capture_decode.specs.Decode.{text_read, line_read, refused_count}
use Rattle.capture_decode.specs.PacketReads.{packet_read}
use Rattle.capture_decode.specs.Printed.{printed_front, printed_each}
use Rattle.capture_decode.proofs.RoomLaws.{output-room}
use Rattle.capture_decode.proofs.PacketReadLaws.{front-printed, front-counted}
use Rattle.capture_blocks.specs.Inner.Lines.{printed_line, line_done, line_over}
use Rattle.capture_blocks.specs.declared.lines.LineDone.{LineDone}
use Rattle.capture_blocks.proofs.LinesLaws.{refused-most}

-- ---- the line at a place

module _ (c : Settings) (bytes : List ℕ) (place at : ℕ) (out : List ℕ) (l : place ≤ length bytes) (v : NextLine) (q : v ≡ next_line bytes place) where
  pub unended-done : (end : ℕ) → v ≡ Unended end → None ≡ line_done c bytes place at
  unfolding line_done
  unended-done end u = rw (unended-line bytes place l v q end u).0

  pub unended-over : (end : ℕ) → v ≡ Unended end → out ≡ line_over c bytes place at out
  unfolding line_over
  unended-over end u = rw (unended-line bytes place l v q end u).0

  module _ (room : at + printed_each * (length bytes - place) ≤ length out) (r : LineDone) (out' : List ℕ) (a : Result Packet Refusal) (end : ℕ) (d : r ≡ printed_line a end at out) (o : out' ≡ laid at (output_line a) out) where
    module _ (text : List ℕ) (f : Complete bytes place end text) (k : output_line a ≡ output_line (line_read c text)) (m : refused_count a ≡ refused_count (line_read c text)) where
      line-fits : at + length (output_line a) ≤ length out
      line-fits = rw k (omega (arith, room, output-room c text, f.size, f.inside))

      line-done : Some r ≡ line_done c bytes place at
      unfolding line_done
      line-done = rw (d, f.first, ← k, ← m, ← f.size, after-fits at (output_line a) out line-fits)

      line-over : out' ≡ line_over c bytes place at out
      unfolding line_over
      line-over = o ∙ rw (f.first, ← k, laid-fits at (output_line a) out line-fits)

    module _ (u : v ≡ OverLong end) (k : a ≡ Err BadLine) where
      abbrev over : List ℕ
      over = take (end - 1 - place) (drop place bytes)

      over-read : a ≡ line_read c over
      unfolding line_read
      over-read = k ∙ rw (over-long-line bytes place l v q end u).1

      pub over-long-done : Some r ≡ line_done c bytes place at
      over-long-done = line-done over (over-long-line bytes place l v q end u).0 (ap output_line over-read) (ap refused_count over-read)

      pub over-long-over : out' ≡ line_over c bytes place at out
      over-long-over = line-over over (over-long-line bytes place l v q end u).0 (ap output_line over-read) (ap refused_count over-read)

    module _ (u : v ≡ Ended end) (text space : List ℕ) (t : text ≡ take (end - 1 - place) (drop place bytes)) (wide : length space ≡ 4133)
        (k : a ≡ packet_read c printed_front (packet_line text) space) where
      complete : Complete bytes place end text
      complete = rw t (ended-line bytes place l v q end u).0

      text-fits : length text ≤ 2 * length space
      unfolding over_long
      text-fits = rw t (omega (arith, wide, ltb-false text_most (length (take (end - 1 - place) (drop place bytes))) (ended-line bytes place l v q end u).1))

      ended-read : text_read c (packet_line text) ≡ line_read c text
      unfolding line_read
      ended-read = rw (t, (ended-line bytes place l v q end u).1)

      ended-output : output_line a ≡ output_line (line_read c text)
      ended-output = ap output_line k ∙ (front-printed c printed_front (omega arith) text space text-fits ∙ ap output_line ended-read)

      ended-count : refused_count a ≡ refused_count (line_read c text)
      ended-count = ap refused_count k ∙ (front-counted c printed_front (omega arith) text space text-fits ∙ ap refused_count ended-read)

      pub ended-done : Some r ≡ line_done c bytes place at
      ended-done = line-done text complete ended-output ended-count

      pub ended-over : out' ≡ line_over c bytes place at out
      ended-over = line-over text complete ended-output ended-count

-- what the calls on the way ask, and how far the line goes

module _ (bytes : List ℕ) (place : ℕ) (l : place ≤ length bytes) (v : NextLine) (q : v ≡ next_line bytes place) (end : ℕ) where
  pub ended-least : v ≡ Ended end → 1 ≤ end
  ended-least u = omega (arith, (ended-line bytes place l v q end u).0.size)

  module _ (r : LineDone) (a : Result Packet Refusal) (at : ℕ) (out : List ℕ) (d : r ≡ printed_line a end at out) where
    pub over-long-forward : v ≡ OverLong end → (place < r.end) × (r.end ≤ length bytes) × (r.refused ≤ 1)
    over-long-forward u = let f = (over-long-line bytes place l v q end u).0 in rw d (omega (arith, f.size), f.inside, refused-most a)

    pub ended-forward : v ≡ Ended end → (place < r.end) × (r.end ≤ length bytes) × (r.refused ≤ 1)
    ended-forward u = let f = (ended-line bytes place l v q end u).0 in rw d (omega (arith, f.size), f.inside, refused-most a)

pub ruleset line-at-laws = (unended-done, unended-over, over-long-done, over-long-over, ended-done, ended-over)

use mathlib.Core.Path.{sym, ◌∙◌}
use Rattle.std.proofs.lemmas.Result.{err_from_is_err_and}
use Rattle.capture.proofs.PacketLineLaws.{packet_line_laws, ok-none}
use Rattle.capture.proofs.packet_line.packet_line.Goals as goal

pub returns-then-out-min : goal.returns-then-out-min
returns-then-out-min c =
    let was = c.in_ok-front.was in
    record { answer = search packet_line_laws depth 12 fits 4000; output = search packet_line_laws depth 12 fits 4000 }

pub returns-in_err-size : goal.returns-in_err-size
returns-in_err-size c =
    let was = c.in_ok-front.was in
    let none = ok-none c.hex_front.result _ (sym c.ok_or-2.ensures.value ∙ c.in_err-size.was) in
    let p = err_from_is_err_and c.from_residual-in_err-size.result c.from_residual-in_err-size.ensures.1 in
    let missing = none.0 in
    record { answer = rw (p.1, p.2, none.1) (search packet_line_laws depth 12 fits 4000); output = search packet_line_laws depth 12 fits 4000 }

pub returns : goal.returns
returns c =
    let was = c.in_ok-front.was in
    let size = c.in_ok-size.was in
    record { answer = search packet_line_laws depth 12 fits 4000; output = search packet_line_laws depth 12 fits 4000 }

use Rattle.std.proofs.Common.{rules, ◌∙◌, refl}
use Rattle.text.proofs.Bounds.{read-word}
use Rattle.text.proofs.fields.read_after.Goals as goal

pub returns-in_err-value : goal.returns-in_err-value
returns-in_err-value g c = λ number law.
    let n = law c.part.result.now c.parse.result (record { shown = c.part.result; shows = refl; says = search rules }) in
    let e = read-word number c.args.line.now c.args.key.now c.args.at c.in_ok-place.place c.value_at.result c.part.result.now c.parse.result c.value_at.ensures c.in_ok-place.was c.part.ensures n in
    c.from_residual-in_err-value.ensures ∙ (rw c.in_err-value.was at e)

pub returns : goal.returns
returns g c = λ number law.
    let n = law c.part.result.now c.parse.result (record { shown = c.part.result; shows = refl; says = search rules }) in
    let e = read-word number c.args.line.now c.args.key.now c.args.at c.in_ok-place.place c.value_at.result c.part.result.now c.parse.result c.value_at.ensures c.in_ok-place.was c.part.ensures n in
    rw c.in_ok-value.was at e

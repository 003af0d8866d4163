use Rattle.text.proofs.number.put_plain.Goals as goal

pub returns : goal.returns
returns c = record { value = cc; out_after = cc }

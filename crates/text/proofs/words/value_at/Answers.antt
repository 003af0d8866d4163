use Rattle.text.proofs.WordLaws.{found-laws}
use Rattle.text.proofs.words.value_at.Goals as goal

pub returns-then-not-starts_with : goal.returns-then-not-starts_with
returns-then-not-starts_with c = search found-laws

pub returns : goal.returns
returns c = search found-laws

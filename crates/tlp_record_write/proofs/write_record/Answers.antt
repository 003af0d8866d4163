use Rattle.tlp_record_write.proofs.RecordWriteLaws.{unlisted-answer, unlisted-out, unfit-answer, unfit-out, written-answer, written_out}
use Rattle.tlp_record_write.proofs.write_record.Goals as goal

pub returns-then-not-settings_listed : goal.returns-then-not-settings_listed
returns-then-not-settings_listed c = record { value = search unlisted-answer; out_after = search unlisted-out }

pub returns-in_default : goal.returns-in_default
returns-in_default c =
    let k = c.in_default.ensures in
    record { value = search (unfit-answer, k); out_after = search (unfit-out, k) }

pub returns : goal.returns
returns c =
    let (k, j) = c.in-Some.ensures in
    record { value = search (written-answer, k, j); out_after = search (written_out, k, j) }

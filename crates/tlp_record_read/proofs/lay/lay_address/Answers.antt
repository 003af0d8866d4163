use Rattle.std.proofs.Common.{rules}
use Rattle.tlp_record_read.proofs.LayLaws.{wide-bytes, narrow-bytes, wide-laid, narrow-laid}
use Rattle.tlp_record_read.proofs.lay.lay_address.Goals as goal

pub returns-then-is_wide : goal.returns-then-is_wide
returns-then-is_wide c =
    let e = wide-bytes _ _ _ (λ i. (c.type_inv.packet i).fits) c.lay.ensures in
    search (wide-laid, rules)

pub returns-else-is_wide : goal.returns-else-is_wide
returns-else-is_wide c =
    let e = narrow-bytes _ _ _ (λ i. (c.type_inv.packet i).fits) c.lay-else-is_wide.ensures in
    search (narrow-laid, rules)

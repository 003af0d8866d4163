use Rattle.tlp_read.proofs.ReadReturns.{later-laws, later-family, later-listed, later-known, later-room}
use Rattle.tlp.proofs.RefusalLaws.{refused, through}
use borrow.Author.Rules.{rules}
use Rattle.tlp_read.proofs.rows.header_fault.Goals as goal

pub returns-then-not-is_listed : goal.returns-then-not-is_listed
returns-then-not-is_listed c = search (later-laws, refused, through)

pub header_size-header-requires : goal.header_size-header-requires
header_size-header-requires c = search later-listed

pub returns-then-bytes-header : goal.returns-then-bytes-header
returns-then-bytes-header c = search (later-laws, refused, through)

pub data_size-payload-requires : goal.data_size-payload-requires
data_size-payload-requires c = search later-listed

pub returns-then-bytes-size_with_digest : goal.returns-then-bytes-size_with_digest
returns-then-bytes-size_with_digest c = search (later-laws, refused, through)

pub fault-requires : goal.fault-requires
fault-requires c = search (later-family, later-known, later-room, rules)

pub returns : goal.returns
returns c = search (later-laws, through)

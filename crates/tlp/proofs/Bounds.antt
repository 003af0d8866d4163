-- Bounds on the parts of a packet's size.
use Prim.Native.Nat.{ℕ, ◌*◌, ◌≤◌}
use mathlib.Core.Bool.{Bool, true, false}
use native.Mathlib.Nat.{le_refl}
use native.Mathlib.Omega.{arith}
use lib.Dec.{lit≤}
use Rattle.bits.specs.Choice.{pick}
use Rattle.tlp.specs.declared.packet_type.PacketType.{PacketType}
use Rattle.tlp.specs.declared.packet_type.PacketType.TheVariants.{MRd32, MRd64, MWr32, MWr64, IORd, IOWr, CfgRd0, CfgWr0, CfgRd1, CfgWr1, Msg, MsgD, Cpl, CplD, Unlisted}
use Rattle.tlp.specs.PacketTypes.{header_dw, has_data}
use Rattle.tlp.specs.Sizes.{data_bytes, digest_bytes}

pub header-le : (t : PacketType) → header_dw t ≤ 4
header-le MRd32 = lit≤ tt
header-le MRd64 = lit≤ tt
header-le MWr32 = lit≤ tt
header-le MWr64 = lit≤ tt
header-le IORd = lit≤ tt
header-le IOWr = lit≤ tt
header-le CfgRd0 = lit≤ tt
header-le CfgWr0 = lit≤ tt
header-le CfgRd1 = lit≤ tt
header-le CfgWr1 = lit≤ tt
header-le Msg = lit≤ tt
header-le MsgD = lit≤ tt
header-le Cpl = lit≤ tt
header-le CplD = lit≤ tt
header-le Unlisted = lit≤ tt

picked-le : (b : Bool) (n : ℕ) → pick b n 0 ≤ n
picked-le true n = le_refl n
picked-le false n = omega arith

pub data-le : (t : PacketType) (n : ℕ) → data_bytes t n ≤ 4 * n
unfolding data_bytes
data-le t n = picked-le (has_data t) (4 * n)

pub digest-le : (b : Bool) → digest_bytes b ≤ 4
unfolding digest_bytes
digest-le b = picked-le b 4

-- `BitMap::in_byte` meets its contract: a byte below 8 is made of its bits. Assumes nothing.
use Rattle.std.proofs.Common.{arith, div-one}
use Rattle.link_format.specs.Format.{has}
use Rattle.link_format.proofs.BitMaps.{its_bits}
use Rattle.link_fields.proofs.bit_maps.BitMap.in_byte.Goals as goal

pub returns : goal.returns
unfolding has
returns c = rw div-one at (its_bits c.args.byte (omega arith))

-- `BitMap::of_header` meets its contract: its bits are those of the format's own bit map. Assumes nothing.
use Rattle.link_format.specs.Format.{header_bits}
use Rattle.link_fields.proofs.bit_maps.BitMap.of_header.Goals as goal

pub returns : goal.returns
unfolding header_bits
returns c n wanted same = rw same

-- `BitMap::in_header` meets its contract: by the values of the byte. Assumes nothing.
use Rattle.std.proofs.Common.{arith}
use Rattle.link_format.specs.Reading.{forbidden_header}
use Rattle.link_format.specs.Format.{has}
use Rattle.std.proofs.lemmas.Bool.Decides.{nat_tests}
use Rattle.link_fields.proofs.bit_maps.BitMap.in_header.Goals as goal

pub returns-in-1 : goal.returns-in-1
unfolding forbidden_header has
returns-in-1 c = (grind (arith, nat_tests), c.in_byte.ensures)

pub returns-in_default : goal.returns-in_default
unfolding forbidden_header has
returns-in_default c = grind (arith, nat_tests)

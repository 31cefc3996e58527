-- `BitMap::in_record` meets its contract: by the range of the byte, and below 7 by the record before. Assumes nothing.
use Rattle.std.proofs.Common.{arith}
use Rattle.std.proofs.lemmas.Bool.Decides.{nat_tests}
use Rattle.link_format.specs.Reading.{forbidden}
use Rattle.link_fields.proofs.bit_maps.BitMap.in_record.Goals as goal

pub returns-in-0-to-6 : goal.returns-in-0-to-6
unfolding forbidden
returns-in-0-to-6 c = grind (arith, nat_tests)

pub returns-in-0-to-7 : goal.returns-in-0-to-7
unfolding forbidden
returns-in-0-to-7 c = (grind (arith, nat_tests), c.in_byte.ensures)

pub returns-in-8-to-255 : goal.returns-in-8-to-255
unfolding forbidden
returns-in-8-to-255 c = grind (arith, nat_tests)

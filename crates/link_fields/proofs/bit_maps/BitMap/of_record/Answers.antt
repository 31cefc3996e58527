-- `BitMap::of_record` meets its contract: by cases on the record before. Assumes nothing.
use Rattle.table.specs.Table.{arc}
use Rattle.link_format.specs.Format.{record_bits}
use Rattle.link_fields.proofs.bit_maps.BitMap.of_record.Goals as goal

pub returns-in-None : goal.returns-in-None
unfolding record_bits
returns-in-None c = rw c.in-None.is

pub returns-in-Some : goal.returns-in-Some
unfolding record_bits arc
returns-in-Some c = rw (c.in-Some.is, c.from.ensures, c.from-in-Some.ensures)

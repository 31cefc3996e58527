-- `FileHeader::new` meets its contract: the bit map is the canonical one of the format. Assumes nothing.
use Rattle.link_writer.proofs.header.FileHeader.new.Goals as goal

pub invariant_of-result : goal.invariant_of-result
invariant_of-result c = record { canonical = rw c.from.ensures at (c.of_header-map.ensures _ _ c.is_all.ensures) }

-- `records::record_size` meets its contract: the bit map and the fields that stand. Assumes nothing.
use Rattle.std.proofs.Common.{arith, length-append}
use Rattle.table.specs.Lent.{arc_of}
use Rattle.table.specs.Table.{arc}
use Rattle.link_writer.proofs.Pieces.{length_field}
use Rattle.link_writer.proofs.records.Bytes.{record_pieces}
use Rattle.link_writer.proofs.records.record_size.Goals as goal

pub returns-clause-same : goal.returns-clause-same
unfolding arc
returns-clause-same c =
    rw (record_pieces _ (arc_of c.args.arc) _ c.of_record-map.ensures, c.from-tail.ensures, c.from-head.ensures, c.from-length.ensures)
    (simp (length-append, length_field) (omega arith))

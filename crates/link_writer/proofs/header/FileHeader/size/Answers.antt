-- `FileHeader::size` meets its contract: the bit map and the fields that stand. Assumes nothing.
use Rattle.std.proofs.Common.{arith, length-append}
use Rattle.link_format.proofs.Numbers.{length_bytes}
use Rattle.link_writer.proofs.Pieces.{length_field}
use Rattle.link_writer.proofs.header.Bytes.{header_pieces, length_wanted}
use Rattle.link_writer.proofs.header.FileHeader.size.Goals as goal

pub returns-clause-same : goal.returns-clause-same
returns-clause-same c =
    rw (header_pieces c.args.self, c.from-origin.ensures, c.from.ensures) (simp (length-append, length_bytes, length_field, length_wanted) (omega arith))

-- `records::records_size` meets its contract: the loop's invariant is `Sizing`. Assumes nothing.
use Rattle.link_fields.specs.Fields.{arc_before}
use Rattle.link_writer.proofs.records.Runs.{Sizing}
use Rattle.link_writer.proofs.records.records_size.Given as goal

abbrev pub invariant-loop-i : goal.invariant-loop-i
invariant-loop-i l = Sizing l.columns l.size (arc_before l.previous) l.i

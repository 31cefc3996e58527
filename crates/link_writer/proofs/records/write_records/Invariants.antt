-- `records::write_records` meets its contract: the records of the arcs behind those passed are left to put. Assumes nothing.
use mathlib.Core.Option.{none}
use Rattle.table.proofs.Columns.{arcs_left}
use Rattle.link_format.specs.Format.{records_bytes}
use Rattle.link_fields.specs.Fields.{arc_before}
use Rattle.link_fields.proofs.fields.Putting.{Putting}
use Rattle.link_writer.specs.Says.{arcs_in}
use Rattle.link_writer.proofs.records.write_records.Given as goal

abbrev pub invariant-loop-i : goal.invariant-loop-i
invariant-loop-i l =
    Putting (records_bytes none (arcs_in l.columns)) (records_bytes (arc_before l.previous) (arcs_left l.columns l.i)) l.initial.output l.output

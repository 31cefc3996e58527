-- `records::fill_records` meets its contract: an accepted file has no refused record, and each record's arc goes to the columns' next
-- element. Assumes nothing.
use Rattle.link_fields.specs.Fields.{arc_before}
use Rattle.link_reader.proofs.records.Filling.{Filling}
use Rattle.link_reader.proofs.records.fill_records.Given as goal

abbrev pub invariant-loop-i : goal.invariant-loop-i
invariant-loop-i l = Filling l.file l.start l.initial.tails l.initial.heads l.initial.lengths l.tails l.heads l.lengths l.at l.i (arc_before l.previous)

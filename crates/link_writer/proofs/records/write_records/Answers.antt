-- `records::write_records` meets its contract: the records of the arcs behind those passed are left to put. Assumes nothing.
use Rattle.table.proofs.Columns.{arcs_more, arcs_none}
use Rattle.link_fields.specs.Fields.{arc_before}
use Rattle.link_fields.proofs.fields.Putting.{none_put, part_room, part_put, all_put}
use Rattle.link_writer.proofs.records.Runs.{bytes_more, bytes_none}
use Rattle.link_writer.proofs.records.write_records.Goals as goal

pub loop-i-init : goal.loop-i-init
loop-i-init c = none_put _ _ c.requires

pub write_record-requires : goal.write_record-requires
write_record-requires c =
    let l = c.loop-i in
    let a = c.arc-arc.ensures in
    let more = arcs_more c.args.columns l.i c.arc-arc.result c.loop-i-test.true a.tail a.head a.length in
    part_room _ _ (rw (bytes_more (arc_before l.previous) more) at l.invariant)

pub loop-i-preserved : goal.loop-i-preserved
loop-i-preserved c =
    let l = c.loop-i in
    let a = c.arc-arc.ensures in
    let more = arcs_more c.args.columns l.i c.arc-arc.result c.loop-i-test.true a.tail a.head a.length in
    part_put _ _ (rw (bytes_more (arc_before l.previous) more) at l.invariant) c.write_record.ensures

pub returns : goal.returns
returns c = all_put (rw (bytes_none (arc_before c.loop-i.previous) (arcs_none c.args.columns c.loop-i.i c.loop-i-test.false)) at c.loop-i.invariant)

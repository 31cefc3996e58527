-- `records::records_size` meets its contract: the loop's invariant is `Sizing`. Assumes nothing.
use Rattle.table.proofs.Columns.{arcs_more}
use Rattle.link_writer.proofs.records.Runs.{sizing_next, sizing_done}
use Rattle.link_writer.proofs.records.records_size.Goals as goal

pub loop-i-preserved : goal.loop-i-preserved
loop-i-preserved c =
    let a = c.arc-arc.ensures in
    let more = arcs_more c.args.columns c.loop-i.i c.arc-arc.result c.loop-i-test.true a.tail a.head a.length in
    sizing_next c.loop-i.invariant more c.record_size-size.ensures.same c.record_size-size.ensures.low

pub returns-clause-same : goal.returns-clause-same
returns-clause-same c = sizing_done c.loop-i.invariant c.loop-i-test.false

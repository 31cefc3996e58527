-- `header::fill_nodes` meets its contract: the nodes are there, and those that are left stand behind those that were put. Assumes nothing.
use Rattle.std.proofs.Common.{arith, ◌≡◌, ◌-◌, ◌<◌}
use lib.Seq.{length-take-le}
use Rattle.link_reader.specs.Says.{nodes_in}
use Rattle.table.proofs.Storing.{column_next, start_done}
use Rattle.link_fields.proofs.fields.Parts.{field_value}
use Rattle.link_reader.proofs.header.NodeRuns.{along_next, nodes_left, length_nodes_in}
use Rattle.link_reader.proofs.header.fill_nodes.Goals as goal

pub loop-wanted_node-preserved : goal.loop-wanted_node-preserved
loop-wanted_node-preserved c =
    let loop = c.loop-wanted_node in
    let more : loop.wanted_node-index < c.args.count = omega (arith, length-take-le c.args.count c.args.wanted.now (omega arith)) in
    let node = field_value c.in-Some.ensures in
    record {
      along = along_next loop.invariant.along node.1 c.in-Some.ensures.inside;
      column = rw (node.0, node.1) (column_next (rw (nodes_left _ _ _ _ more) at loop.invariant.column));
    }

pub returns : goal.returns
unfolding nodes_in
returns c =
    let none_left : c.args.count - c.loop-wanted_node.wanted_node-index ≡ 0 = omega (arith, length-take-le c.args.count c.args.wanted.now (omega arith)) in
    start_done c.args.wanted.now c.args.count (rw none_left at c.loop-wanted_node.invariant.column) (omega arith) (length_nodes_in c.args.count _)

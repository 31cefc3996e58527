-- `header::write_nodes` meets its contract: the nodes behind those passed are left to put. Assumes nothing.
use Rattle.std.proofs.Common.{arith, get_or}
use Rattle.link_format.specs.Format.{bytes}
use Rattle.link_format.proofs.Numbers.{length_bytes}
use Rattle.link_fields.proofs.fields.Putting.{none_put, part_room, part_put, all_put}
use Rattle.link_writer.proofs.header.Bytes.{more_nodes, no_nodes}
use Rattle.link_writer.proofs.header.write_nodes.Goals as goal

pub loop-node-init : goal.loop-node-init
loop-node-init c = none_put _ _ c.requires

pub field-requires : goal.field-requires
field-requires c =
    let l = c.loop-node in
    let node = get_or c.args.wanted.now l.node-index 0 in
    let left = rw (more_nodes c.args.wanted.now l.node-index c.loop-node-test.true) at l.invariant in
    omega (arith, length_bytes 2 node, part_room (bytes 2 node) _ left)

pub loop-node-preserved : goal.loop-node-preserved
loop-node-preserved c =
    let l = c.loop-node in
    part_put _ _ (rw (more_nodes c.args.wanted.now l.node-index c.loop-node-test.true) at l.invariant) (rw c.from.ensures at c.field.ensures)

pub returns : goal.returns
returns c = all_put (rw (no_nodes c.args.wanted.now c.loop-node.node-index c.loop-node-test.false) at c.loop-node.invariant)

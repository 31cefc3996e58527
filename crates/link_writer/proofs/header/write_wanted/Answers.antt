-- `header::write_wanted` meets its contract: the count and the nodes, or nothing. Assumes nothing.
use Rattle.std.proofs.Common.{arith, ◌++◌, length, List, ℕ}
use Rattle.link_format.specs.Format.{bytes, nodes_bytes, wanted_bytes}
use Rattle.link_format.proofs.Numbers.{length_bytes}
use Rattle.link_fields.proofs.fields.Putting.{Putting, none_put, part_room, part_put, rest_room, rest_put, puts_nothing}
use Rattle.link_writer.proofs.header.write_wanted.Goals as goal
use Rattle.link_writer.proofs.header.write_wanted.Goals.{Then-stands}

-- a list that stands: its count and its nodes
abbrev listed : List ℕ → List ℕ
listed ws = bytes 2 (length ws) ++ nodes_bytes ws

-- they are left to put
to_put : (c : Then-stands) → Putting (listed c.args.wanted.now) (listed c.args.wanted.now) c.args.output.now c.args.output.now
unfolding wanted_bytes
to_put c = none_put _ _ (rw c.if-stands.true at c.requires)

pub field-requires : goal.field-requires
field-requires c =
    let ws = c.args.wanted.now in
    omega (arith, length_bytes 2 (length ws), part_room (bytes 2 (length ws)) (nodes_bytes ws) (to_put (goal.at.field-requires c).Then-stands))

pub write_nodes-requires : goal.write_nodes-requires
write_nodes-requires c =
    let ws = c.args.wanted.now in
    rest_room (part_put (bytes 2 (length ws)) (nodes_bytes ws) (to_put (goal.at.write_nodes-requires c).Then-stands) c.field.ensures)

pub returns-then-stands : goal.returns-then-stands
unfolding wanted_bytes
returns-then-stands c =
    let ws = c.args.wanted.now in
    let nodes_left = part_put (bytes 2 (length ws)) (nodes_bytes ws) (to_put (goal.at.returns-then-stands c).Then-stands) c.field.ensures in
    rw c.if-stands.true (rest_put nodes_left c.write_nodes.ensures)

pub returns-else-stands : goal.returns-else-stands
unfolding wanted_bytes
returns-else-stands c = rw c.if-stands.false (puts_nothing c.args.output.now)

-- `header::write_nodes` meets its contract: the nodes behind those passed are left to put. Assumes nothing.
use lib.ListN.{drop}
use Rattle.link_format.specs.Format.{nodes_bytes}
use Rattle.link_fields.proofs.fields.Putting.{Putting}
use Rattle.link_writer.proofs.header.write_nodes.Given as goal

abbrev pub invariant-loop-node : goal.invariant-loop-node
invariant-loop-node l = Putting (nodes_bytes l.wanted) (nodes_bytes (drop l.node-index l.wanted)) l.initial.output l.output

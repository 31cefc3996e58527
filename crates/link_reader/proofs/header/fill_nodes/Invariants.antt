-- `header::fill_nodes` meets its contract: the nodes are there, and those that are left stand behind those that were put. Assumes nothing.
use Rattle.std.proofs.Common.{◌-◌, drop}
use Rattle.link_reader.specs.Says.{nodes_in}
use Rattle.table.proofs.Storing.{Column}
use Rattle.link_reader.proofs.header.NodeRuns.{Along}
use Rattle.link_reader.proofs.header.fill_nodes.Given as goal

abbrev pub invariant-loop-wanted_node : goal.invariant-loop-wanted_node
invariant-loop-wanted_node l = record {
  along : Along l.file l.from l.next l.wanted_node-index;
  column : Column l.initial.wanted_node-items 0 (nodes_in l.count (drop l.from l.file)) l.wanted_node-items l.wanted_node-index (nodes_in (l.count - l.wanted_node-index) (drop l.next l.file));
}

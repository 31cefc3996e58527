-- `header::check_nodes` meets its contract: the loop's invariant is `Checking`. Assumes nothing.
use Rattle.link_reader.proofs.header.NodeRuns.{Checking}
use Rattle.link_reader.proofs.header.check_nodes.Given as goal

abbrev pub invariant-loop-i : goal.invariant-loop-i
invariant-loop-i l = Checking l.file l.from l.count l.next l.ascending l.i

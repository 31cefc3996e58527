-- The nodes before the one at hand have forgotten; the state that is held is as it was. Assumes nothing.
use Rattle.solver.proofs.run.Forgetting.{Forgotten}
use Rattle.solver.proofs.run.forget_all.Given as goal

abbrev pub invariant-loop-node : goal.invariant-loop-node
invariant-loop-node l = Forgotten l.node-index l.initial.nodes l.nodes

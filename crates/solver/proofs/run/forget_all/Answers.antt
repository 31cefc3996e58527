-- The node at hand forgets; the others stay. Assumes nothing.
use native.Mathlib.Omega.{arith}
use Rattle.solver.proofs.run.Forgetting.{one_more}
use Rattle.solver.proofs.run.forget_all.Goals as goal

pub loop-node-preserved : goal.loop-node-preserved
loop-node-preserved c = let inv = c.loop-node.invariant in one_more inv (omega (arith, inv.long, c.loop-node-test.true))

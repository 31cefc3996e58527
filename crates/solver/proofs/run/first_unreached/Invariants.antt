-- The wanted nodes from the first index up to w have been reached. Assumes nothing.
use Rattle.steps.specs.Seen.{statuses_in}
use Rattle.solver.proofs.run.Wanted.{Seeking}
use Rattle.solver.proofs.run.first_unreached.Given as goal

abbrev pub invariant-loop-w : goal.invariant-loop-w
invariant-loop-w l = Seeking l.from l.wanted (statuses_in l.nodes) l.w

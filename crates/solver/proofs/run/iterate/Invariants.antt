-- A state of the run is held; each iteration is counted, and the auction's bound on them is the measure. Assumes nothing.
use Prim.Native.Nat.{suc, ◌-◌}
use Rattle.auction.specs.Auction.{most_iterations}
use Rattle.steps.specs.Seen.{iterations_in, run_of}
use Rattle.solver.proofs.run.Iterating.{Iterating}
use Rattle.solver.proofs.run.iterate.Given as goal

abbrev pub invariant-loop-w : goal.invariant-loop-w
invariant-loop-w l = Iterating l.linked l.limit (run_of l.path l.nodes l.g) l.w l.scans

abbrev pub decreases-loop-w : goal.decreases-loop-w
decreases-loop-w l = suc (most_iterations l.linked.table.n) - iterations_in l.g

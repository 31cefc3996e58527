-- The arcs before p have been offered; p rises along the node's list. Assumes nothing.
use Prim.Native.Nat.{◌-◌}
use Rattle.table.specs.Table.{no_arc}
use Rattle.steps.proofs.reaching.Walk.{Walk}
use Rattle.steps.proofs.reaching.offer_arcs.Given as goal

abbrev pub invariant-loop-p : goal.invariant-loop-p
invariant-loop-p l = Walk l.star l.v l.distance l.initial.nodes l.nodes l.p

abbrev pub decreases-loop-p : goal.decreases-loop-p
decreases-loop-p l = no_arc - l.p

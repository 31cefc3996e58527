-- The bids from p on are left to compare; p rises along the node's list. Assumes nothing.
use Prim.Native.Nat.{◌-◌}
use Rattle.table.specs.Table.{Table, no_arc}
use Rattle.forward_star.specs.Lent.{IsStarOf}
use Rattle.steps.proofs.bids.Bidding.{Uncompared}
use Rattle.steps.proofs.bids.least_bid.Given as goal

abbrev pub invariant-loop-p : goal.invariant-loop-p
invariant-loop-p l = (t : Table) → IsStarOf t l.star → Uncompared t l.v l.nodes l.least l.p

abbrev pub decreases-loop-p : goal.decreases-loop-p
decreases-loop-p l = no_arc - l.p

-- The arcs from p on are left to compare; p rises along the node's list. Assumes nothing.
use Prim.Native.Nat.{◌-◌}
use Rattle.table.specs.Table.{no_arc}
use Rattle.table.specs.Lent.{table_in}
use Rattle.keeper.specs.Totals.{met}
use Rattle.keeper.proofs.Stepping.{Uncompared}
use Rattle.keeper.proofs.step_length.Given as goal

abbrev pub invariant-loop-p : goal.invariant-loop-p
invariant-loop-p l = Uncompared (table_in l.linked.table) l.from l.to (met l.shortest) l.p

abbrev pub decreases-loop-p : goal.decreases-loop-p
decreases-loop-p l = no_arc - l.p

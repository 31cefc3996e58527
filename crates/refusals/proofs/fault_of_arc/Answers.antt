-- The ends are tested before the length. Assumes nothing.
use native.Mathlib.Omega.{arith}
use Rattle.std.proofs.lemmas.Bool.Decides.{nat_tests}
use Rattle.table.specs.Table.{arc}
use Rattle.table.specs.Refusals.{arc_fault}
use Rattle.refusals.proofs.fault_of_arc.Goals as goal

pub returns-then-n-from : goal.returns-then-n-from
unfolding arc_fault arc
returns-then-n-from c = grind (arith, nat_tests)

pub returns-then-arc-eq0 : goal.returns-then-arc-eq0
unfolding arc_fault arc
returns-then-arc-eq0 c = grind (arith, nat_tests)

pub returns : goal.returns
unfolding arc_fault arc
returns c = grind (arith, nat_tests)

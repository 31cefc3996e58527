-- The four lengths are compared at once. Assumes nothing.
use native.Mathlib.Omega.{arith}
use Rattle.std.proofs.lemmas.Bool.Decides.{nat_tests}
use Rattle.table.specs.Refusals.{rooms_fit, room}
use Rattle.auction.specs.Plan.{rooms}
use Rattle.refusals.proofs.check_rooms.Goals as goal

pub returns-then-ne : goal.returns-then-ne
unfolding rooms_fit rooms room
returns-then-ne c = grind (arith, nat_tests, c.ne.ensures, c.if-ne.true, c.at.ensures)

pub returns : goal.returns
unfolding rooms_fit rooms room
returns c = grind (arith, nat_tests, c.ne.ensures, c.if-ne.false)

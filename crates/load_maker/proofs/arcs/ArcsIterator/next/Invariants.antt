-- The arcs that are left are the same; each turn leaves fewer pairs. Assumes nothing.
use Rattle.std.proofs.Common.{◌≡◌, length}
use Rattle.load_maker.specs.Left.{pairs_left, arcs_left}
use Rattle.load_maker.proofs.arcs.ArcsIterator.next.Given as goal

abbrev pub invariant-loop-pair : goal.invariant-loop-pair
invariant-loop-pair l = arcs_left l.self ≡ arcs_left l.initial.self

abbrev pub decreases-loop-pair : goal.decreases-loop-pair
decreases-loop-pair l = length (pairs_left l.self.pairs)

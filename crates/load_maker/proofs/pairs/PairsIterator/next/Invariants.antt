-- The pairs that are left are the same; each turn leaves fewer heads, or fewer tails. Assumes nothing.
use Rattle.std.proofs.Common.{◌≡◌, ◌+◌, ◌-◌, ◌*◌}
use Rattle.load_maker.specs.Left.{pairs_left}
use Rattle.load_maker.proofs.pairs.PairsIterator.next.Given as goal

abbrev pub invariant-loop-head : goal.invariant-loop-head
invariant-loop-head l = pairs_left l.self ≡ pairs_left l.initial.self

abbrev pub decreases-loop-head : goal.decreases-loop-head
decreases-loop-head l = (l.self.tails.end - l.self.tails.start) * (l.self.n + 1) + (l.self.heads.end - l.self.heads.start)

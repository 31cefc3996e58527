-- The entries below i are made. Assumes nothing.
use Rattle.std.proofs.Common.{ℕ, ◌<◌, get_or}
use Rattle.hand_over.proofs.fill.Given as goal

abbrev pub invariant-loop-i : goal.invariant-loop-i
invariant-loop-i g l = (k : ℕ) (d : _) → k < l.i → goal.F-post g l.entry k (get_or l.column k d)

-- No node that was reached is farther than the horizon. Assumes nothing.
use native.Mathlib.Omega.{arith}
use Rattle.hand_over.proofs.Handing.{not_farther}
use Rattle.hand_over.proofs.price_at.Goals as goal

pub overflow_sub-result : goal.overflow_sub-result
overflow_sub-result c = omega (arith, c.entry.ensures, not_farther c.args.nodes.now c.args.horizon c.requires.1 c.args.v c.requires.0)

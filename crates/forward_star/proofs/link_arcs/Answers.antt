-- The arcs from p on are linked; p falls to 0. Assumes nothing.
use Rattle.std.proofs.Common.{◌-◌, refl}
use Rattle.forward_star.proofs.Linking.{begins, goes_on, goes_past}
use Rattle.forward_star.proofs.link_arcs.Goals as goal

pub loop-p-init : goal.loop-p-init
loop-p-init c = begins c.requires.next_len.0 c.requires.empty

pub loop-p-preserved-then-lengths-p : goal.loop-p-preserved-then-lengths-p
loop-p-preserved-then-lengths-p c =
    goes_on c.from-v.result (c.loop-p.p - 1) c.loop-p.invariant c.loop-p-test.true c.if-lengths-p.true c.from-v.ensures refl c.requires.tails_in

pub loop-p-preserved : goal.loop-p-preserved
loop-p-preserved c = goes_past c.loop-p.invariant c.loop-p-test.true c.if-lengths-p.false

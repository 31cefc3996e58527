-- The arcs from p on are linked; p falls to 0. Assumes nothing.
use Rattle.forward_star.proofs.Linking.{Linking}
use Rattle.forward_star.proofs.link_arcs.Given as goal

abbrev pub invariant-loop-p : goal.invariant-loop-p
invariant-loop-p l = Linking l.tails l.lengths l.initial.first l.first l.next l.p

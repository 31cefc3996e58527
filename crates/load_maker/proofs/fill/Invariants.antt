-- The arcs that are left stand behind those that were put. Assumes nothing.
use Rattle.load_maker.specs.Left.{arcs_left}
use Rattle.load_maker.specs.Says.{load_of}
use Rattle.load_maker.proofs.Filling.{Filling}
use Rattle.load_maker.proofs.fill.Given as goal

abbrev pub invariant-loop-i : goal.invariant-loop-i
invariant-loop-i l =
    Filling (load_of l.fn.recipe) l.initial.tails l.initial.heads l.initial.lengths l.tails l.heads l.lengths l.i-iterator.count (arcs_left l.i-iterator.iter)

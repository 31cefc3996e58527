-- `printer::plan::FinishedPlan::next_piece` meets its contract: the loop's invariant is `Filling`, and its measure the lines still to come. Assumes
-- nothing.
use lib.ListN.{length}
use Rattle.printer.specs.Lines.{printing, rest}
use Rattle.printer.proofs.pieces.Filling.{Filling}
use Rattle.printer.proofs.plan.FinishedPlan.next_piece.Given as goal

abbrev pub invariant-loop-out : goal.invariant-loop-out
invariant-loop-out l = Filling (printing l.self) l.initial.piece.next l.initial.out l.out l.piece.count l.piece.next

abbrev pub decreases-loop-out : goal.decreases-loop-out
decreases-loop-out l = length (rest (printing l.self) l.piece.next)

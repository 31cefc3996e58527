-- `routes::print_pieces` ends: each piece has a line, so fewer lines are to come after it. Assumes nothing.
use lib.ListN.{length}
use Rattle.printer.specs.Lines.{printing, rest}
use Rattle.routes.proofs.print_pieces.Given as goal

abbrev pub decreases-loop-piece : goal.decreases-loop-piece
decreases-loop-piece l = length (rest (printing l.plan) l.cursor)

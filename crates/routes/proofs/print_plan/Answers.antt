-- `routes::print_plan` meets what its calls ask: the parts of the columns that were filled are lent, and their sheet is what is printed of the input.
-- Assumes nothing.
use Rattle.hand_over.specs.Answered.{answered}
use Rattle.input.specs.Input.{printing_read}
use Rattle.printer.specs.Lines.{printing}
use Rattle.routes.proofs.print_plan.Goals as goal

pub print_pieces-requires-clause-prints : goal.print_pieces-requires-clause-prints
unfolding printing_read printing answered
print_pieces-requires-clause-prints c = rw c.order_paths-k.ensures.ordered c.requires.prints

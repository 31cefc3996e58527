-- `printer::plan::FinishedPlan::next_line` meets its contract: at each cursor the line that stands there is put, and the next cursor leads to the
-- rest. Assumes nothing.
use mathlib.Core.Path.{refl}
use Rattle.hand_over.specs.Answered.{answered}
use Rattle.sheet.specs.Sheet.{from_counts}
use Rattle.printer.specs.Lines.{printing, rest, Gives}
use Rattle.printer.proofs.lines.Rest.{gives_put, counts_some, nodes_all}
use Rattle.printer.proofs.plan.FinishedPlan.next_line.Goals as goal

pub returns-in-Counts : goal.returns-in-Counts
unfolding printing answered rest from_counts
returns-in-Counts c = rw c.in-Counts.is (gives_put _ _ _ _ _ _ _ refl (counts_some _ _ _) c.put_counts.ensures (nodes_all _))

pub returns-in-End : goal.returns-in-End
unfolding rest Gives
returns-in-End c = rw c.in-End.is refl

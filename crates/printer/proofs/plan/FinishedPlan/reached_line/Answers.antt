-- `printer::plan::FinishedPlan::reached_line` meets its contract: behind the line of the reached nodes come the counts. Assumes nothing.
use mathlib.Core.Path.{refl}
use Rattle.hand_over.specs.Answered.{answered}
use Rattle.sheet.specs.Sheet.{from_reached}
use Rattle.printer.specs.declared.plan.Cursor.TheVariants.{Counts}
use Rattle.printer.specs.Lines.{printing, rest}
use Rattle.printer.proofs.lines.Rest.{gives_put, reached_some}
use Rattle.printer.proofs.plan.FinishedPlan.reached_line.Goals as goal

pub returns : goal.returns
unfolding printing answered rest from_reached
returns c =
    let put = c.put_reached in
    gives_put (printing c.args.self.now) _ _ _ (record { count = put.result; next = Counts }) _ _ refl (reached_some _ _ _) put.ensures refl

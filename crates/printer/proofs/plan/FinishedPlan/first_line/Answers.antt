-- `printer::plan::FinishedPlan::first_line` meets its contract: the refusal's line first, and what follows it. Assumes nothing.
use mathlib.Core.Path.{refl, sym, ◌∙◌}
use Rattle.hand_over.specs.Answered.{answered}
use Rattle.printer.specs.Lines.{printing, rest}
use Rattle.printer.proofs.lines.Rest.{gives_put, gives_as, refused_some, start_unrefused, start_no_route, start_refused_only}
use Rattle.printer.proofs.plan.FinishedPlan.first_line.Goals as goal

pub returns-then-number-eq0 : goal.returns-then-number-eq0
unfolding printing answered rest
returns-then-number-eq0 c = gives_as _ _ _ _ _ _ (start_unrefused (printing c.args.self.now) c.if-number-eq0.true) c.reached_line.ensures

pub returns-then-number : goal.returns-then-number
unfolding printing answered rest
returns-then-number c =
    gives_put _ _ _ _ _ _ _
    (start_no_route (printing c.args.self.now) c.if-number-eq0.false (c.if-number.true ∙ c.number.ensures)) (refused_some _ _)
    c.put_refused.ensures refl

pub returns-else-number : goal.returns-else-number
unfolding printing answered rest
returns-else-number c =
    gives_put _ _ _ _ _ _ _
    (start_refused_only (printing c.args.self.now) c.if-number-eq0.false (λ e. c.if-number.false (e ∙ sym c.number.ensures))) (refused_some _ _)
    c.put_refused.ensures refl

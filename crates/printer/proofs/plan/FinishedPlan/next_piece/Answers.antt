-- `printer::plan::FinishedPlan::next_piece` meets its contract: the loop's invariant is `Filling`, and its measure the lines still to come. Assumes
-- nothing.
use mathlib.Core.Path.{sym, ap, ◌∙◌}
use native.Mathlib.Omega.{arith}
use Rattle.printer.specs.Lines.{printing, rest}
use Rattle.printer.proofs.pieces.Filling.{filling_next, none_given, fewer_given}
use Rattle.printer.proofs.plan.FinishedPlan.next_piece.Goals.{else-loop-out-test, then-loop-out-test+in_default}
use Rattle.printer.proofs.plan.FinishedPlan.next_piece.Goals as goal

pub overflow_add-piece : goal.overflow_add-piece
overflow_add-piece c =
    let l = c.loop-out in
    let line = c.next_line in
    let f =
    filling_next (printing c.args.self.now) _ _ l.out l.piece.count _ l.invariant line.new.out c.in-Some.line line.auto.out c.in-Some.ensures in
    omega (arith, f.inside, f.same)

pub loop-out-smaller : goal.loop-out-smaller
loop-out-smaller c = fewer_given (printing c.args.self.now) _ _ _ _ c.in-Some.ensures

pub loop-out-preserved : goal.loop-out-preserved
loop-out-preserved c =
    let l = c.loop-out in
    let line = c.next_line in
    filling_next (printing c.args.self.now) _ _ l.out l.piece.count _ l.invariant line.new.out c.in-Some.line line.auto.out c.in-Some.ensures

pub returns-then-piece-eq0 : goal.returns-then-piece-eq0
returns-then-piece-eq0 c =
    let l = c.loop-out in
    elim c.loop-out-test.branch [
      | else-loop-out-test w ↦ absurd (omega arith)
      | then-loop-out-test+in_default w ↦
          ap (rest (printing c.args.self.now)) (sym (l.invariant.nothing_yet c.if-piece-eq0.true))
          ∙ none_given (printing c.args.self.now) _ _ _ w.in_default.ensures
    ]

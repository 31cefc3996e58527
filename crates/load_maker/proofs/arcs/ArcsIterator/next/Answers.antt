-- The next pair has an arc, or it has none, or no pair is left. Assumes nothing.
use mathlib.Core.Path.{sym, ◌∙◌}
use Rattle.load_maker.specs.Left.{arcs_left}
use Rattle.test_load.specs.Load.{pair}
use Rattle.load_maker.proofs.Leaving.{no_pair, taken, passed, goes}
use Rattle.load_maker.proofs.arcs.ArcsIterator.next.Goals as goal

pub returns-in_err-pair-clause-steps : goal.returns-in_err-pair-clause-steps
returns-in_err-pair-clause-steps c =
    let none = c.in_err-pair.ensures.steps in
    rw c.from_residual.ensures (sym c.loop-pair.invariant ∙ no_pair _ _ _ _ none.0, no_pair _ _ _ _ none.1)

pub returns-then-self-clause-steps : goal.returns-then-self-clause-steps
unfolding pair
returns-then-self-clause-steps c =
    sym c.loop-pair.invariant
    ∙ taken _ _ _ _ _ _ c.in_ok-pair.ensures.steps _ c.draw-self.ensures c.if-self.true _ c.draw-self-then-self.ensures

pub returns-then-self-clause-goes : goal.returns-then-self-clause-goes
returns-then-self-clause-goes c = goes arcs_left tt (returns-then-self-clause-steps c)

pub loop-pair-preserved : goal.loop-pair-preserved
loop-pair-preserved c =
    sym (passed _ _ _ _ _ _ c.in_ok-pair.ensures.steps _ c.draw-self.ensures c.if-self.false) ∙ c.loop-pair.invariant

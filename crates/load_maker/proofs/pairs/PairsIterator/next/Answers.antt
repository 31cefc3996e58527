-- The next head is no pair, or it is one, or no head is left and the next tail has them all. Assumes nothing.
use mathlib.Core.Path.{sym, ◌∙◌}
use Rattle.load_maker.specs.Left.{pairs_left}
use Rattle.load_maker.proofs.Leaving.{own, other, next_tail, none_left, goes}
use Rattle.load_maker.proofs.pairs.PairsIterator.next.Goals as goal

pub loop-head-preserved-then-head-self : goal.loop-head-preserved-then-head-self
loop-head-preserved-then-head-self c =
    own c.loop-head.self c.in-Some.head c.next.new.self c.in-Some.ensures.steps c.if-head-self.true ∙ c.loop-head.invariant

pub returns-in-Some-2-clause-steps : goal.returns-in-Some-2-clause-steps
returns-in-Some-2-clause-steps c =
    sym c.loop-head.invariant ∙ other c.loop-head.self c.in-Some.head c.next.new.self c.in-Some.ensures.steps c.if-head-self.false

pub returns-in-Some-2-clause-goes : goal.returns-in-Some-2-clause-goes
returns-in-Some-2-clause-goes c = goes pairs_left tt (returns-in-Some-2-clause-steps c)

pub returns-in_err-self-in-None-clause-steps : goal.returns-in_err-self-in-None-clause-steps
returns-in_err-self-in-None-clause-steps c =
    let none = none_left c.loop-head.self c.next.new.self c.in-None.ensures.steps c.next-in-None.new.self c.in_err-self-in-None.ensures.steps in
    rw c.from_residual.ensures (sym c.loop-head.invariant ∙ none.0, none.1)

pub loop-head-preserved : goal.loop-head-preserved
loop-head-preserved c =
    next_tail c.loop-head.self c.next.new.self c.in-None.ensures.steps c.in_ok-self-in-None.field-0 c.next-in-None.new.self c.in_ok-self-in-None.ensures.steps
    ∙ c.loop-head.invariant

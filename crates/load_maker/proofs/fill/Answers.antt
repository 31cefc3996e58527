-- Each arc goes to the columns' next element, until none is left. Assumes nothing.
use Rattle.load_maker.proofs.Filling.{puts, done}
use Rattle.load_maker.proofs.fill.Goals as goal

pub loop-i-preserved : goal.loop-i-preserved
loop-i-preserved c =
    let steps = c.in-Some.ensures.steps in
    puts c.loop-i.invariant c.in-Some.arc _ steps.0 _ _ steps.1 steps.2

pub returns-clause-tails : goal.returns-clause-tails
returns-clause-tails c = (done c.loop-i.invariant c.in-None.ensures.steps.0.0).0

pub returns-clause-heads : goal.returns-clause-heads
returns-clause-heads c = (done c.loop-i.invariant c.in-None.ensures.steps.0.0).1.0

pub returns-clause-lengths : goal.returns-clause-lengths
returns-clause-lengths c = (done c.loop-i.invariant c.in-None.ensures.steps.0.0).1.1

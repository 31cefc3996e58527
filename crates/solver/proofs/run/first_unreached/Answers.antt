-- The wanted nodes from the first index up to w have been reached. Assumes nothing.
use mathlib.Core.Path.{◌≡◌, sym, subst, ◌∙◌}
use native.Mathlib.Omega.{arith}
use lib.ListN.{length}
use Rattle.solver.specs.Runs.{FirstFrom}
use borrow.Author.Tests.{ltb-true, ltb-false}
use Rattle.steps.specs.Seen.{status_number, statuses_in}
use Rattle.steps.proofs.Nodes.{entry}
use Rattle.solver.proofs.run.Wanted.{seeks_on, found_here, found_none}
use Rattle.solver.proofs.run.first_unreached.Goals as goal

pub returns-then-not-was_reached : goal.returns-then-not-was_reached
returns-then-not-was_reached c =
    let s = entry (λ m. status_number m.status) c.args.nodes.now c.from-v.result in
    found_here c.loop-w.invariant c.from-v.result c.from-v.ensures c.loop-w-test.true
    (omega (arith, s, ltb-false _ _ (sym c.was_reached.ensures ∙ c.if-not-was_reached.true)))

pub loop-w-preserved : goal.loop-w-preserved
loop-w-preserved c =
    let s = entry (λ m. status_number m.status) c.args.nodes.now c.from-v.result in
    seeks_on c.loop-w.invariant c.from-v.result c.from-v.ensures c.loop-w-test.true
    (λ z. omega (arith, s, z, ltb-true _ _ (sym c.was_reached.ensures ∙ c.if-not-was_reached.false)))

pub returns : goal.returns
returns c =
    let i = c.loop-w.invariant in
    let end : c.loop-w.w ≡ length c.args.wanted.now = omega (arith, i.low, c.loop-w-test.false) in
    subst (FirstFrom c.args.from c.args.wanted.now (statuses_in c.args.nodes.now)) end (found_none i c.loop-w-test.false)

-- The way back from where we are gives the whole path. Assumes nothing.
use mathlib.Core.Path.{◌∙◌}
use native.Mathlib.Omega.{arith}
use Rattle.paths.proofs.Counting.{begins, next, arrived, stray, too_many}
use Rattle.paths.proofs.tree.Tree.count_nodes.Goals as goal

pub loop-count-init : goal.loop-count-init
loop-count-init c = begins _ _ _ c.requires

pub returns-then-v-self : goal.returns-then-v-self
returns-then-v-self c = arrived _ _ _ _ _ c.loop-count.invariant c.loop-count-test.true c.if-v-self.true

pub node_before-requires : goal.node_before-requires
node_before-requires c = c.loop-count.invariant.low

pub returns-in_err-v : goal.returns-in_err-v
returns-in_err-v c = c.from_residual.ensures ∙ stray _ _ _ _ _ c.loop-count.invariant c.loop-count-test.true c.if-v-self.false c.in_err-v.ensures

pub loop-count-preserved : goal.loop-count-preserved
loop-count-preserved c = next _ _ _ _ _ c.loop-count.invariant c.loop-count-test.true c.if-v-self.false c.in_ok-v.v c.in_ok-v.ensures

pub returns-in_ok-v : goal.returns-in_ok-v
returns-in_ok-v c =
    too_many _ _ _ _ _ (next _ _ _ _ _ c.loop-count.invariant c.loop-count-test.true c.if-v-self.false c.in_ok-v.v c.in_ok-v.ensures)
    (omega arith)

-- The path loses its first node, and the one before it forgets, unless that is the origin. Assumes nothing.
use mathlib.Core.Path.{ap, ◌∙◌}
use Rattle.steps.specs.Seen.{memory_in}
use Rattle.steps.specs.Memory.{before}
use Rattle.steps.proofs.steps.Writing.{priced, origin_priced, other_priced, memory_priced, memory_forgets}
use Rattle.steps.proofs.steps.contract.Goals as goal

pub returns-then-v-origin-clause-contracts : goal.returns-then-v-origin-clause-contracts
returns-then-v-origin-clause-contracts c = λ t eo.
    let a = c.args in origin_priced a.path.now a.nodes.now a.g a.v 0 a.value t a.origin eo c.if-v-origin.true

pub returns-then-v-origin-clause-at_origin : goal.returns-then-v-origin-clause-at_origin
returns-then-v-origin-clause-at_origin c = λ e. let a = c.args in memory_priced a.path.now a.nodes.now a.g a.v 0 a.value

pub returns-clause-contracts : goal.returns-clause-contracts
returns-clause-contracts c = λ t eo.
    let a = c.args in
    rw c.forget_before.ensures
    (other_priced a.path.now a.nodes.now a.g a.v (before a.g.depth a.path.now) a.value t a.origin eo c.if-v-origin.false
    c.requires.v_in_bounds.0)

pub returns-clause-remembers : goal.returns-clause-remembers
returns-clause-remembers c = λ d.
    let a = c.args in
    let u = before a.g.depth a.path.now in
    ap memory_in c.forget_before.ensures
    ∙ memory_forgets u (priced a.path.now a.nodes.now a.g a.v u a.value) a.nodes.now (memory_priced a.path.now a.nodes.now a.g a.v u a.value)

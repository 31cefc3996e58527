-- The path and the nodes are filled as the definition fills its lists. Assumes nothing.
use mathlib.Core.Path.{refl}
use native.Mathlib.Omega.{arith}
use Rattle.table.specs.Table.{most_nodes}
use Rattle.steps.specs.Memory.{nobody}
use Rattle.steps.proofs.Arrays.{fresh_seen, taken}
use Rattle.steps.proofs.state.RunState.fresh.Goals as goal

pub returns-clause-so : goal.returns-clause-so
returns-clause-so c = λ t eo h l.
    let many = taken most_nodes c.args.n nobody c.requires.1 in
    fresh_seen most_nodes _ _ _ (c.fill.ensures.after (λ y s. s)) t c.args.origin c.from-at.result _ c.from-at.ensures eo h
    (omega (arith, many)) (omega (arith, many, c.requires.1)) refl refl refl refl

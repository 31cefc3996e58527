-- The path loses its first node, and the one before it forgets. Assumes nothing.
use mathlib.Core.Path.{refl, ap, ◌∙◌}
use native.Mathlib.Omega.{arith}
use Rattle.steps.specs.Seen.{memory_in}
use Rattle.steps.specs.Memory.{before}
use Rattle.steps.proofs.Nodes.{unwritten}
use Rattle.steps.proofs.steps.Writing.{deleted_nodes}
use Rattle.steps.proofs.steps.delete.Goals as goal

pub returns-clause-deletes : goal.returns-clause-deletes
returns-clause-deletes c =
    let a = c.args in
    rw c.forget_before.ensures (deleted_nodes a.path.now a.nodes.now a.g a.v (before a.g.depth a.path.now) (omega (arith, c.requires.has_before.some_node)))

pub returns-clause-remembers : goal.returns-clause-remembers
returns-clause-remembers c = unwritten (λ m. m.remembered) c.forget_before.new.nodes c.args.v _ refl ∙ ap memory_in c.forget_before.ensures

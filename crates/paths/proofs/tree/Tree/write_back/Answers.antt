-- So many nodes are written, and the next one is the one before. Assumes nothing.
use native.Mathlib.Omega.{arith}
use Rattle.paths.proofs.Writing.{sized, begins, first, goes, goes_on, done}
use Rattle.paths.proofs.tree.Tree.write_back.Goals.{then-i-gt0, else-i-gt0}
use Rattle.paths.proofs.tree.Tree.write_back.Goals as goal

pub loop-i-init : goal.loop-i-init
loop-i-init c = begins _ _ _ _ _ (sized _ _ c.requires.count).0 c.requires.node_in_bounds

pub known_before-v-requires-clause-leads : goal.known_before-v-requires-clause-leads
known_before-v-requires-clause-leads c =
    let s = (sized _ _ c.requires.count).1 in
    let g = goes _ _ _ _ _ _ c.loop-i.invariant (omega arith) (omega arith) in
    g.leads_on

pub loop-i-preserved : goal.loop-i-preserved
loop-i-preserved c =
    let s = (sized _ _ c.requires.count).1 in
    elim c.if-i-gt0.branch [
      | then-i-gt0 w ↦ rw w.v-is (goes_on _ _ _ _ _ _ c.loop-i.invariant (omega arith) (omega arith) (omega arith) _ w.known_before-v.ensures)
      | else-i-gt0 w ↦ rw w.v-is (first _ _ _ _ _ _ c.loop-i.invariant (omega arith) (omega arith))
    ]

pub returns : goal.returns
returns c = let s = (sized _ _ c.requires.count).1 in done _ _ _ _ _ _ c.loop-i.invariant (omega arith) (omega arith)

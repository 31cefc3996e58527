-- What is left to test from i on decides. Assumes nothing.
use mathlib.Core.Path.{◌≡◌}
use Rattle.table.specs.Table.{arcs_of}
use Rattle.table.specs.Refusals.{arcs_from, arcs_refusal}
use Rattle.table.proofs.Columns.{arcs_left}
use Rattle.refusals.proofs.check_arcs.Given as goal

abbrev pub invariant-loop-i : goal.invariant-loop-i
invariant-loop-i l =
    let c = l.columns in
    arcs_from l.i l.n (arcs_left c l.i) ≡ arcs_refusal l.n (arcs_of c.tails.now c.heads.now c.lengths.now)

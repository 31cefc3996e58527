-- Reaching the origin gives the start. Assumes nothing.
use mathlib.Core.Path.{sym, ap, subst, ◌∙◌}
use Prim.Native.Nat.{ℕ, ◌≤◌}
use native.Mathlib.Omega.{arith}
use lib.ListN.{get_or}
use Rattle.table.specs.Lent.{table_in}
use Rattle.forward_star.proofs.Columns.{nodes_listed}
use Rattle.steps.specs.Seen.{run_of, bounds_in, statuses_in, greatest_sum}
use Rattle.solver.proofs.run.Beginning.{origin_below, origin_bound, origin_unreached, nodes_ready, started, still_forgotten}
use Rattle.solver.proofs.run.run_linked.Goals as goal

pub reach-requires : goal.reach-requires
reach-requires c =
    let a = c.args in
    let r = run_of a.path.now a.nodes.now a.begun in
    let many = c.requires.long.1 in
    let same = c.from-origin.ensures in
    record {
      ready = nodes_ready a.linked.now r c.requires.begun many;
      v_in_bounds = (
        omega (arith, origin_below a.linked.now r c.requires.begun many, same, nodes_listed a.linked.now),
        subst (λ (v : ℕ). get_or (bounds_in a.nodes.now) v 0 ≤ greatest_sum) (sym same) (origin_bound a.linked.now r c.requires.begun many),
      );
    }

pub iterate-requires-clause-begun : goal.iterate-requires-clause-begun
iterate-requires-clause-begun c =
    let a = c.args in
    started a.linked.now (run_of a.path.now a.nodes.now a.begun) c.requires.begun c.requires.long.1 (run_of a.path.now c.reach.new.nodes a.begun) c.from-origin.result
    c.from-origin.ensures (c.reach.ensures.reaches (table_in a.linked.now.table) a.path.now a.begun a.linked.now.listed)

pub iterate-requires-clause-forgotten : goal.iterate-requires-clause-forgotten
iterate-requires-clause-forgotten c =
    let a = c.args in
    let r = run_of a.path.now a.nodes.now a.begun in
    let unreached = ap (λ (v : ℕ). get_or (statuses_in a.nodes.now) v 0) c.from-origin.ensures ∙ origin_unreached a.linked.now r c.requires.begun c.requires.long.1 in
    still_forgotten a.linked.now r c.requires.begun c.requires.long.1 (run_of a.path.now c.reach.new.nodes a.begun) c.from-origin.result c.from-origin.ensures
    c.requires.forgotten c.reach.auto.nodes (c.reach.ensures.remembers a.path.now a.begun unreached)

-- The refusals in their order, and the file of the columns that were filled. Assumes nothing.
use mathlib.Core.Path.{◌≡◌, refl, sym, ap, ◌∙◌}
use Prim.Native.Nat.{◌≤◌}
use native.Mathlib.Omega.{arith}
use lib.ListN.{length}
use Rattle.table.specs.Refusals.{no_refusal}
use Rattle.table.specs.Table.{most_nodes}
use Rattle.table.proofs.Telling.{passed, passed_on}
use Rattle.link_format.proofs.AllNodes.{length_count_up}
use Rattle.load_file.proofs.Writing.{of_load, nothing_written, load_refuses, origin_refuses, load_passes, load_refused, load_made, filled, all_wanted, all_written}
use Rattle.load_file.proofs.LoadFile.write.Goals as goal
use Rattle.load_file.proofs.LoadFile.write.Goals.{In_ok-arcs}

-- where the load was made, it is not refused, and there are not too many nodes
made : (c : In_ok-arcs) → no_refusal ≡ of_load c.args.self
made c = load_made c.args.self _ _ _ _ _ _ (refl, refl, refl) _ c.in_ok-arcs.ensures.answer

few : (c : In_ok-arcs) → c.args.self.n ≤ most_nodes
few c = (load_passes c.args.self (made c)).few_nodes

pub returns-in_err-arcs-clause-answer : goal.returns-in_err-arcs-clause-answer
returns-in_err-arcs-clause-answer c =
    rw (passed_on _ _ c.from_residual.ensures.1)
    (nothing_written c.args.self _ _
    (load_refuses _ _ _ (load_refused c.args.self _ _ _ _ _ _ (refl, refl, refl) _ c.in_err-arcs.ensures.answer)))

pub returns-in_err-check_node-clause-answer : goal.returns-in_err-check_node-clause-answer
returns-in_err-check_node-clause-answer c =
    rw (passed_on _ _ c.from_residual-in_err-check_node.ensures.1)
    (nothing_written c.args.self _ _
    (origin_refuses _ _ _ (made (goal.at.returns-in_err-check_node-clause-answer c).In_ok-arcs) c.in_err-check_node.ensures))

pub fill_all-requires : goal.fill_all-requires
fill_all-requires c = let few_here = few (goal.at.fill_all-requires c).In_ok-arcs in (few_here, few_here)

pub slice_bounds-wanted-end : goal.slice_bounds-wanted-end
slice_bounds-wanted-end c =
    let here = goal.at.slice_bounds-wanted-end c in
    omega (arith, few here.In_ok-arcs, (all_wanted _ _ _ (few here.In_ok-arcs) c.fill_all.ensures).0)

pub slice_bounds-write_file-end-4 : goal.slice_bounds-write_file-end-4
slice_bounds-write_file-end-4 c =
    let here = goal.at.slice_bounds-write_file-end-4 c in
    let list = (all_wanted _ _ _ (few here.In_ok-arcs) c.fill_all.ensures).1 in
    sym (ap length list ∙ length_count_up 0 c.args.self.n)

pub returns-clause-answer : goal.returns-clause-answer
returns-clause-answer c =
    let here = goal.at.returns-clause-answer c in
    let put = filled c.args.self _ _ _ _ _ _ (refl, refl, refl) _ c.in_ok-arcs.ensures.answer in
    all_written c.args.self (made here.In_ok-arcs)
    (passed _ 4 0 (omega arith) c.in_ok-check_node.ensures) _ _ _ _ _ _ _ put.0 put.1 put.2
    (all_wanted _ _ _ (few here.In_ok-arcs) c.fill_all.ensures).1 c.write_file.ensures.answer

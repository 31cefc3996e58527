-- The first parts of the fresh state's arrays are lent to the run, and an answer is made of what it leaves. Assumes nothing.
use mathlib.Core.Path.{◌≡◌, sym, ap, subst, ◌∙◌}
use mathlib.Core.List.{List, ◌++◌}
use native.Mathlib.Omega.{arith}
use borrow.Author.Rules.{rules}
use lib.ListN.{length, take, drop}
use lib.Seq.{take_at}
use Rattle.std.proofs.lemmas.List.{length-append}
use Rattle.forward_star.proofs.Columns.{few_nodes}
use Rattle.steps.specs.declared.state.Node.{Node}
use Rattle.planner.specs.Ends.{RunEnds}
use Rattle.planner.proofs.Planning.{origin_low, lent_fresh, part_long}
use Rattle.planner.proofs.run_fresh.Goals as goal
use Rattle.planner.proofs.run_fresh.Goals.{After-run-end}

pub fresh-fresh-requires : goal.fresh-fresh-requires
fresh-fresh-requires g c = let l = c.args.table.now in (omega (arith, origin_low l, few_nodes l), few_nodes l)

pub slice_bounds-path-end : goal.slice_bounds-path-end
slice_bounds-path-end g c = omega (arith, c.fresh-fresh.ensures.long.0, few_nodes c.args.table.now)

pub slice_bounds-run-end : goal.slice_bounds-run-end
slice_bounds-run-end g c = sym (part_long c.fresh-fresh.result.path c.args.table.now.n c.fresh-fresh.ensures.long.0 (few_nodes c.args.table.now))

pub slice_bounds-nodes-end : goal.slice_bounds-nodes-end
slice_bounds-nodes-end g c = omega (arith, c.fresh-fresh.ensures.long.1, few_nodes c.args.table.now)

pub slice_bounds-run-end-2 : goal.slice_bounds-run-end-2
slice_bounds-run-end-2 g c = sym (part_long c.fresh-fresh.result.nodes c.args.table.now.n c.fresh-fresh.ensures.long.1 (few_nodes c.args.table.now))

pub run-end-requires-clause-long : goal.run-end-requires-clause-long
run-end-requires-clause-long g c =
    let l = c.args.table.now in
    let fresh = c.fresh-fresh in
    (part_long fresh.result.path l.n fresh.ensures.long.0 (few_nodes l), part_long fresh.result.nodes l.n fresh.ensures.long.1 (few_nodes l))

pub run-end-requires-clause-begun : goal.run-end-requires-clause-begun
run-end-requires-clause-begun g c = lent_fresh c.args.table.now c.fresh-fresh.result c.fresh-fresh.ensures.so

-- the nodes that it has left are those that are answered on, as many as the table has
module _ (g : _) (c : After-run-end g) where
  as_many : length c.run-end.new.nodes ≡ c.args.table.now.n
  as_many = c.run-end.auto.nodes ∙ part_long c.fresh-fresh.result.nodes c.args.table.now.n c.fresh-fresh.ensures.long.1 (few_nodes c.args.table.now)

  same_nodes : (rest : List Node) → take c.args.table.now.n (c.run-end.new.nodes ++ rest) ≡ c.run-end.new.nodes
  same_nodes rest = take_at c.run-end.new.nodes rest c.args.table.now.n as_many

  ends : (rest : List Node) → RunEnds c.args.table.now c.args.limit c.run-end.result (take c.args.table.now.n (c.run-end.new.nodes ++ rest))
  ends rest =
      subst (RunEnds c.args.table.now c.args.limit c.run-end.result) (sym (same_nodes rest))
      (record { many = as_many; path = c.run-end.new.path; ran = c.run-end.ensures })

pub slice_bounds-nodes-end-2 : goal.slice_bounds-nodes-end-2
slice_bounds-nodes-end-2 g c =
    omega (
      arith,
      as_many g (goal.at.slice_bounds-nodes-end-2 g c).After-run-end,
      length-append c.run-end.new.nodes (drop c.args.table.now.n c.fresh-fresh.result.nodes),
    )

pub slice_bounds-answer-end : goal.slice_bounds-answer-end
slice_bounds-answer-end g c =
    let at = (goal.at.slice_bounds-answer-end g c).After-run-end in
    let rest = drop c.args.table.now.n c.fresh-fresh.result.nodes in
    sym (ap length (same_nodes g at rest) ∙ as_many g at)

pub answer-requires : goal.answer-requires
answer-requires g c =
    let e = ends g (goal.at.answer-requires g c).After-run-end (drop c.args.table.now.n c.fresh-fresh.result.nodes) in
    search rules

pub returns : goal.returns
returns g c = (_, _, ends g (goal.at.returns g c).After-run-end (drop c.args.table.now.n c.fresh-fresh.result.nodes), c.answer.ensures)

-- The table is refused, or it is planned. Assumes nothing.
use mathlib.Core.Path.{refl, ap, sym, ◌∙◌}
use Rattle.std.proofs.Common.{rules}
use Rattle.table.specs.Table.{Below}
use Rattle.table.specs.Refusals.{Refusal, refusal, no_refusal}
use Rattle.table.proofs.Telling.{numbered}
use Rattle.auction.specs.Plan.{plan_refusal}
use Rattle.hand_over.specs.Answered.{answered}
use Rattle.planner.proofs.Planning.{Given, table_so, fine, refused, planned, given_back}
use Rattle.planner.proofs.plan_routes.Goals as goal
use Rattle.planner.proofs.plan_routes.Goals.{In-Ok}

-- where the table is not refused
module _ (c : In-Ok) where
  given : let a = c.args in Given c.in-Ok.table a.n a.origin a.tails.now a.heads.now a.lengths.now a.wanted.now
  given = record { nodes = c.in-Ok.ensures.nodes; columns = c.in-Ok.ensures.columns }

pub plan_table-requires : goal.plan_table-requires
unfolding plan_refusal Below no_refusal refusal
plan_table-requires c =
    let a = c.args in
    let g = given (goal.at.plan_table-requires c).In-Ok in
    let fits = fine a.n a.origin a.tails.now a.heads.now a.lengths.now a.wanted.now _
    (λ i. (c.type_inv.lengths i).fits) (sym (ap (λ (f : Refusal). f.number) c.in-Ok.ensures.told)) in
    rw (g.nodes.0, g.columns.1) fits

pub returns-in-Ok : goal.returns-in-Ok
unfolding plan_refusal no_refusal refusal
returns-in-Ok c =
    let a = c.args in
    let g = given (goal.at.returns-in-Ok c).In-Ok in
    planned a.n a.origin a.tails.now a.heads.now a.lengths.now a.wanted.now a.distances.now a.prices.now a.tree.now a.marks.now
    no_refusal _ c.in-Ok.ensures.told refl
    (given_back _ c.plan_table.new.buffers (c.plan_table.ensures.answer ∙ rw (table_so g, g.nodes.2))
    (search rules) (search rules) (search rules) (search rules))

pub returns-in-Err : goal.returns-in-Err
unfolding answered plan_refusal refusal
returns-in-Err c =
    let a = c.args in
    rw c.from.ensures
    (refused a.n a.origin a.tails.now a.heads.now a.lengths.now a.wanted.now a.distances.now a.prices.now a.tree.now a.marks.now
    _ c.in-Err.ensures.told (numbered c.in-Err.refusal.fault))

-- The first test that refuses decides; where none does, the arcs are put. Assumes nothing.
use mathlib.Core.Path.{ap, ◌∙◌}
use native.Mathlib.Omega.{arith}
use lib.ListN.{length}
use Rattle.table.proofs.Counts.{few_nodes}
use Rattle.table.proofs.Columns.{roomy_columns}
use Rattle.table.proofs.Telling.{goes_on, stops, passed, passed_on}
use Rattle.load_maker.proofs.Making.{in_order, few, nothing_made, all_made}
use Rattle.load_maker.proofs.make.Goals as goal

pub returns-in_err-check_count-clause-answer : goal.returns-in_err-check_count-clause-answer
returns-in_err-check_count-clause-answer c =
    rw (passed_on _ _ c.from_residual.ensures.1)
    (nothing_made _ _ _ _ _ _ _ _ (stops _ _ _ c.in_err-check_count.ensures ∙ in_order _ _ _ _ _ _ _))

pub returns-in_err-check_room-clause-answer : goal.returns-in_err-check_room-clause-answer
returns-in_err-check_room-clause-answer c =
    rw (passed_on _ _ c.from_residual-in_err-check_room.ensures.1)
    (nothing_made _ _ _ _ _ _ _ _ (goes_on c.in_ok-check_count.ensures (stops _ _ _ c.in_err-check_room.ensures) ∙ in_order _ _ _ _ _ _ _))

pub check_range-requires : goal.check_range-requires
check_range-requires c = few_nodes (passed _ _ _ (omega arith) c.in_ok-check_count.ensures)

pub returns-in_err-recipe-clause-answer : goal.returns-in_err-recipe-clause-answer
returns-in_err-recipe-clause-answer c =
    rw (passed_on _ _ c.from_residual-in_err-recipe.ensures.1)
    (nothing_made _ _ _ _ _ _ _ _
    (goes_on c.in_ok-check_count.ensures (goes_on c.in_ok-check_room.ensures (stops _ _ _ c.in_err-recipe.ensures.told)) ∙ in_order _ _ _ _ _ _ _))

pub returns-in_err-count-clause-answer : goal.returns-in_err-count-clause-answer
returns-in_err-count-clause-answer c =
    rw (passed_on _ _ c.from_residual-in_err-count.ensures.1)
    (nothing_made _ _ _ _ _ _ _ _
    (goes_on c.in_ok-check_count.ensures
    (goes_on c.in_ok-check_room.ensures (goes_on c.in_ok-recipe.ensures.told (rw c.in_ok-recipe.ensures.same at c.in_err-count.ensures.told)))
    ∙ in_order _ _ _ _ _ _ _))

pub fill-requires-clause-few : goal.fill-requires-clause-few
fill-requires-clause-few c = few _ c.in_ok-count.ensures.told

pub fill-requires-clause-room : goal.fill-requires-clause-room
fill-requires-clause-room c = roomy_columns _ _ _ (passed _ _ _ (omega arith) c.in_ok-check_room.ensures)

pub returns-clause-answer : goal.returns-clause-answer
returns-clause-answer c =
    let load = c.in_ok-recipe.ensures.same in
    let put = c.fill.ensures in
    all_made _ _ _ _ _ _ _
    (goes_on c.in_ok-check_count.ensures
    (goes_on c.in_ok-check_room.ensures (goes_on c.in_ok-recipe.ensures.told (rw load at c.in_ok-count.ensures.told)))
    ∙ in_order _ _ _ _ _ _ _)
    _ (c.in_ok-count.ensures.count ∙ ap length load) (omega (arith, c.in_ok-count.ensures.count, few _ c.in_ok-count.ensures.told))
    (roomy_columns _ _ _ (passed _ _ _ (omega arith) c.in_ok-check_room.ensures))
    (rw load at put.tails) (rw load at put.heads) (rw load at put.lengths)

pub returns-clause-few : goal.returns-clause-few
returns-clause-few c = omega (arith, c.in_ok-count.ensures.count, few _ c.in_ok-count.ensures.told)

-- The table is refused, or the lists are compared. No buffers are lent, so the code tests lengths that fit. Assumes nothing.
use mathlib.Core.Path.{◌∙◌}
use Rattle.auction.proofs.Made.{without_rooms, fitting}
use Rattle.keeping.specs.Keeping.{table_in}
use Rattle.keeper.proofs.Answering.{handed_on, refused, unrefused}
use Rattle.keeper.proofs.keeps_standing.Goals as goal

pub returns-in_err-table : goal.returns-in_err-table
returns-in_err-table c =
    let r = c.needed-lent.ensures in
    handed_on _ _ _ _ c.from_residual.ensures.1
    ∙ refused _ _ _ _ _ _ _ (c.in_err-table.ensures.told ∙ without_rooms _ _ _ _ _ _ _ (fitting _ _ r.0 r.1 r.2 r.3))

pub returns : goal.returns
unfolding table_in
returns c =
    let r = c.needed-lent.ensures in
    let nodes = c.in_ok-table.ensures.nodes in
    let same = c.in_ok-table.ensures.columns in
    c.compare.ensures
    ∙ rw (nodes.0, nodes.1, same.0, same.1, same.2)
    (unrefused _ _ _ _ _ _ (c.in_ok-table.ensures.told ∙ without_rooms _ _ _ _ _ _ _ (fitting _ _ r.0 r.1 r.2 r.3)))

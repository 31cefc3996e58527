-- The nodes that the run leaves are handed over. Assumes nothing.
use mathlib.Core.Path.{refl, sym, ◌∙◌}
use native.Mathlib.Omega.{arith}
use lib.ListN.{length}
use Rattle.std.proofs.Common.{rules}
use Rattle.table.specs.Lent.{table_in}
use Rattle.auction.specs.Auction.{iterations, state}
use Rattle.forward_star.proofs.Columns.{nodes_are}
use Rattle.steps.specs.Seen.{seen, run_of, prices_in}
use Rattle.hand_over.specs.Answered.{answered_in}
use Rattle.hand_over.specs.ReadOff.{Fitting, HandsOver}
use Rattle.planner.proofs.Planning.{ran_unlimited, routed_so, known_so, place_low, ends_so, arcs_held, given_back}
use Rattle.planner.proofs.plan_table.Goals as goal

pub run_fresh-requires : goal.run_fresh-requires
unfolding iterations seen state
run_fresh-requires c = λ end nodes ends.
    let l = c.args.table.now in
    let ran = ran_unlimited l.good _ (omega arith) ends.ran in
    let known = known_so (table_in l) l.wanted.now _ _ _ (run_of ends.path nodes.now end.progress) ran in
    let arc_ends = ends_so l nodes.now ends.many in
    let fitting : Fitting (length nodes.now) (length l.columns.heads.now) c.args.buffers.now = rw ends.many c.requires in
    let low = place_low l _ ends.ran.inside in
    let few = ends.ran.few in
    search rules

-- the run is the plan's, since no price is above the limit
pub returns-clause-answer : goal.returns-clause-answer
returns-clause-answer c =
    let l = c.args.table.now in
    let end = c.run_fresh.ensures.0 in
    let nodes = c.run_fresh.ensures.1.now in
    let ends = c.run_fresh.ensures.2 in
    let ran = ran_unlimited l.good _ (omega arith) ends.ran in
    let left = c.run_fresh.new.answer.1.now in
    let over : HandsOver end (length l.wanted.now) l.columns nodes (answered_in c.run_fresh.result left) = search rules in
    given_back c.run_fresh.result left
    (over (table_in l) l.wanted.now ends.path (prices_in nodes) (nodes_are l ∙ sym ends.many) (arcs_held l) refl ran (routed_so l.good ran))
    (search rules) (search rules) (search rules) (search rules)

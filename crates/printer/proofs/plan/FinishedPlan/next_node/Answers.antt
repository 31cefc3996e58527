-- `printer::plan::FinishedPlan::next_node` meets its contract: the node's line is put, and the search goes on behind it. Assumes nothing.
use Rattle.std.proofs.Common.{rules}
use Rattle.std.proofs.lemmas.List.{get_or_default}
use Rattle.table.specs.Table.{no_distance}
use Rattle.auction.specs.Demands.{distance_of, price_of, link_of}
use Rattle.hand_over.specs.Answered.{answered}
use Rattle.printer.specs.Lines.{printing, rest}
use Rattle.printer.proofs.lines.Rest.{gives_as, nodes_done, node_put}
use Rattle.printer.proofs.plan.FinishedPlan.next_node.Goals as goal

pub returns-in_default : goal.returns-in_default
unfolding printing answered rest
returns-in_default c =
    gives_as _ _ _ _ _ _ (nodes_done (printing c.args.self.now) c.args.from c.in_default.ensures) c.next_path.ensures

pub returns : goal.returns
unfolding printing answered rest distance_of price_of link_of
returns c =
    let first = c.in-Some.ensures in
    node_put (printing c.args.self.now) c.args.from first (get_or_default c.args.self.now.distances.now c.in-Some.v 0 no_distance first.0) (search rules)
    (search rules) c.put_node.ensures

-- `printer::plan::FinishedPlan::next_path` meets its contract: the path listed is put, and behind its line come those from the next index on. Assumes
-- nothing.
use mathlib.Core.Path.{◌≡◌, ap, ◌∙◌}
use Prim.Native.Nat.{ℕ}
use lib.ListN.{length, take}
use Rattle.std.proofs.Common.{rules}
use Rattle.table.specs.Table.{most_nodes}
use Rattle.listing.specs.Listing.{Listing, listing, tree_in}
use Rattle.hand_over.specs.Answered.{answered}
use Rattle.printer.specs.Lines.{printing, rest}
use Rattle.printer.proofs.lines.Rest.{path_last, path_put}
use Rattle.printer.proofs.lines.Listed.{listed_nodes}
use Rattle.printer.proofs.plan.FinishedPlan.next_path.Goals as goal

pub returns-in_default : goal.returns-in_default
unfolding printing answered rest
returns-in_default c =
    path_last _ c.args.at c.tally_marks.result c.in_default.ensures.lookup.3 c.tally_marks.ensures c.put_marks.ensures

pub returns : goal.returns
unfolding printing answered rest
returns c =
    let p = c.args.self.now in
    let found = c.in-Some.ensures.lookup.3 in
    let list = c.list_path-listed in
    let path : (room : ℕ) → Listing = λ room. listing p.origin c.in-Some.field-0.now (tree_in p.tails.now p.heads.now p.tree.now) room in
    let whole : length c.args.nodes.now ≡ most_nodes = search rules in
    let nodes : take list.result.count list.new.output ≡ (path most_nodes).nodes =
    listed_nodes (path (length c.args.nodes.now)) list.result _ list.new.output list.ensures ∙ ap (λ (room : ℕ). (path room).nodes) whole in
    path_put (printing p) c.args.at found.0 (found.1 0) nodes (rw c.from.ensures at c.put_path.ensures)

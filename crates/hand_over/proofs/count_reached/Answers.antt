-- The nodes that were reached are counted. Assumes nothing.
use Rattle.std.proofs.Common.{rules}
use Rattle.std.specs.List.{count_by}
use mathlib.Core.Path.{◌≡◌, ◌∙◌}
use Rattle.hand_over.proofs.Handing.{is_reached, reached_counted, count_so}
use Rattle.hand_over.proofs.count_reached.Goals as goal

pub returns : goal.returns
returns c = λ t path price g e.
    let ns = c.args.nodes.now in
    let counted : c.count.result ≡ count_by is_reached ns = search rules in
    counted ∙ reached_counted ns ∙ count_so ns path price g t e

-- Where the run within the limit ends is answered. Assumes nothing.
use mathlib.Core.Path.{◌≡◌, ◌∙◌}
use mathlib.Core.Bool.{cond}
use Rattle.std.proofs.Common.{rules}
use lib.ListN.{length}
use lib.Dec.{eqb}
use Rattle.table.specs.Lent.{table_in}
use Rattle.auction.specs.Auction.{iterations, state}
use Rattle.steps.specs.Seen.{iterations_in, seen}
use Rattle.limit_answer.specs.Answer.{within}
use Rattle.planner.proofs.Limiting.{limit_so, one_if}
use Rattle.planner.proofs.limit_table.Goals as goal

pub run_fresh-requires : goal.run_fresh-requires
unfolding iterations seen state
run_fresh-requires c = λ end nodes ends. let few = ends.ran.few in search rules

pub returns : goal.returns
unfolding iterations seen state within
returns c = λ v e.
    let l = c.args.table.now in
    let end = c.run_fresh.ensures.0 in
    let r = c.run_fresh.result in
    let found : r.within ≡ cond (eqb end.missing (length l.wanted.now)) 1 0 = search (rules, one_if) in
    let count : r.iterations ≡ iterations_in end.progress = search rules in
    let so : r ≡ within 0 0 r.within r.iterations = search rules in
    so ∙ limit_so (table_in l) l.wanted.now v c.args.limit end.missing end.scans r.within r.iterations _ e c.run_fresh.ensures.2.ran found count

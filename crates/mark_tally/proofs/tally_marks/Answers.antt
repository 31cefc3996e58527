-- `mark_tally::tally_marks` meets its contract: the tally is that of the marks passed. Assumes nothing.
use mathlib.Core.Path.{◌∙◌}
use native.Mathlib.Omega.{arith}
use Rattle.std.proofs.Common.{rules}
use Rattle.auction.specs.HandOver.{how_many}
use Rattle.mark_tally.specs.Tally.{tally_of}
use Rattle.mark_tally.proofs.Counting.{next_mark, roomy}
use Rattle.mark_tally.proofs.tally_marks.Goals as goal

pub loop-mark-init : goal.loop-mark-init
unfolding tally_of how_many
loop-mark-init c = search rules

pub count-requires : goal.count-requires
count-requires c = let l = c.loop-mark in roomy c.args.marks.now l.mark-index l.tally l.invariant (omega (arith, c.well_formed.0))

pub loop-mark-preserved : goal.loop-mark-preserved
loop-mark-preserved c = let l = c.loop-mark in c.count.ensures _ l.invariant ∙ next_mark c.args.marks.now l.mark-index c.loop-mark-test.true

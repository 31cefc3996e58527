-- `mark_tally::tally_marks` meets its contract: the tally is that of the marks passed. Assumes nothing.
use mathlib.Core.Path.{◌≡◌}
use lib.ListN.{take}
use Rattle.mark_tally.specs.Tally.{tally_of}
use Rattle.mark_tally.proofs.tally_marks.Given as goal

abbrev pub invariant-loop-mark : goal.invariant-loop-mark
invariant-loop-mark l = l.tally ≡ tally_of (take l.mark-index l.marks)

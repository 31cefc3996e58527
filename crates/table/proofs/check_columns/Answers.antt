-- Columns that are not refused are of equal length, and not too long. Assumes nothing.
use Rattle.std.proofs.Common.{length}
use Rattle.table.proofs.Columns.{few_and_equal}
use Rattle.table.proofs.check_columns.Goals as goal

pub invariant_of-result : goal.invariant_of-result
invariant_of-result c =
    let a = c.args in
    let e = few_and_equal (length a.tails.now) (length a.heads.now) (length a.lengths.now) (cc) in
    record { heads_are = e.0; lengths_are = e.1.0; few = e.1.1 }

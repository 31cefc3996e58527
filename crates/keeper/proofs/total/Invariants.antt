-- What has been added and the total of what is left are together the list's. Assumes nothing.
use mathlib.Core.Path.{◌≡◌}
use Rattle.std.specs.Slice.Iter.{windows_rest, windows_size}
use Rattle.table.specs.Lent.{table_in}
use Rattle.keeper.proofs.Totalling.{Adding}
use Rattle.keeper.proofs.total.Given as goal

abbrev pub invariant-loop-step : goal.invariant-loop-step
invariant-loop-step l = record {
  pairs : windows_size l.step-iterator ≡ 2;
  adding : Adding (table_in l.linked.table) l.list (windows_rest l.step-iterator) l.total;
}

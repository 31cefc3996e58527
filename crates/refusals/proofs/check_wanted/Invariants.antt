-- What is left to test from i on decides. Assumes nothing.
use mathlib.Core.Path.{◌≡◌}
use Prim.Native.Nat.{◌≤◌}
use lib.ListN.{length, drop}
use Rattle.table.specs.Table.{most_wanted}
use Rattle.table.specs.Refusals.{wanted_from, wanted_refusal}
use Rattle.refusals.proofs.check_wanted.Given as goal

abbrev pub invariant-loop-i : goal.invariant-loop-i
invariant-loop-i l = record {
  few : length l.wanted ≤ most_wanted;
  decides : wanted_from l.i l.n (drop l.i l.wanted) ≡ wanted_refusal l.n l.wanted;
}

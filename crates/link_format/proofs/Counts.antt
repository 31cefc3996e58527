-- What the tests of the counts and of the buffers come to as inequalities. Assumes nothing.
use mathlib.Core.Bool.{false, not, ◌&&◌}
use mathlib.Core.List.{List}
use mathlib.Core.Path.{◌≡◌}
use Prim.Native.Nat.{ℕ, ◌≤◌}
use borrow.Author.Tests.{ltb-false, eqb-true, not-false}
use lib.Dec.{eqb, ltb}
use lib.ListN.{length}
use Rattle.std.proofs.lemmas.Bool.{and_parts, or_parts}
use Rattle.table.specs.Refusals.{columns_bad, columns_short}
use Rattle.table.specs.Table.{most_arcs, most_wanted}
use Rattle.table.proofs.Columns.{roomy_columns}
use Rattle.link_format.specs.Buffers.{too_short, EqualColumns}

-- 2: columns that are not refused
pub equal_columns : (ts hs ls : List ℕ) → columns_bad (length ts) (length hs) (length ls) ≡ false → EqualColumns ts hs ls
unfolding columns_bad
equal_columns ts hs ls e =
    let passed = or_parts (not (eqb (length ts) (length hs) && eqb (length hs) (length ls))) (ltb most_arcs (length ts)) e in
    let same = and_parts (eqb (length ts) (length hs)) (eqb (length hs) (length ls)) (not-false _ passed.0) in
    record {
      heads_are = eqb-true (length ts) (length hs) same.0;
      lengths_are = eqb-true (length hs) (length ls) same.1;
      few = ltb-false most_arcs (length ts) passed.1;
    }

-- 3: the buffers that are long enough
pub record Roomy (tails heads lengths wanted : ℕ) : Type 0 where
  pub tails_room : most_arcs ≤ tails
  pub heads_room : most_arcs ≤ heads
  pub lengths_room : most_arcs ≤ lengths
  pub wanted_room : most_wanted ≤ wanted

pub roomy : (t h l w : ℕ) → too_short t h l w ≡ false → Roomy t h l w
unfolding too_short
roomy t h l w e =
    let parts = or_parts (columns_short t h l) (ltb w most_wanted) e in
    let columns = roomy_columns t h l parts.0 in
    record {
      tails_room = columns.0;
      heads_room = columns.1;
      lengths_room = columns.2;
      wanted_room = ltb-false w most_wanted parts.1;
    }

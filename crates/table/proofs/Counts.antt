-- What the test of the node count comes to. Assumes nothing.
use mathlib.Core.Bool.{false}
use mathlib.Core.Path.{◌≡◌}
use Prim.Native.Nat.{ℕ, ◌≤◌, ◌<◌}
use native.Mathlib.Omega.{arith}
use borrow.Author.Tests.{le-ltb, ltb-false, eqb-false, ne_eqb}
use lib.Dec.{eqb, ltb}
use Rattle.std.proofs.lemmas.Bool.{or_parts}
use Rattle.table.specs.Refusals.{count_bad}
use Rattle.table.specs.Table.{most_nodes}

-- 1: a node count that is not refused, and one that is in range
pub some_nodes : {n : ℕ} → count_bad n ≡ false → 0 < n
unfolding count_bad
some_nodes {n} e = let nonzero : n ≡ 0 → ⊥ = eqb-false n 0 (or_parts (eqb n 0) (ltb most_nodes n) e).0 in omega (arith, nonzero)

pub few_nodes : {n : ℕ} → count_bad n ≡ false → n ≤ most_nodes
unfolding count_bad
few_nodes {n} e = ltb-false most_nodes n (or_parts (eqb n 0) (ltb most_nodes n) e).1

pub good_count : (n : ℕ) → 0 < n → n ≤ most_nodes → count_bad n ≡ false
unfolding count_bad
good_count n positive low = rw (ne_eqb n 0 (omega arith), le-ltb most_nodes n low)

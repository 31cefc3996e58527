-- The refusals 1, 2, 4 and 5: what holds where none applies. Assumes nothing.
use mathlib.Core.Path.{◌≡◌, refl}
use mathlib.Core.Bool.{false, ◌&&◌, ◌||◌, not}
use Prim.Native.Nat.{ℕ, ◌≤◌, ◌<◌}
use native.Mathlib.Omega.{arith}
use lib.Dec.{ltb, leb, eqb}
use borrow.Author.Tests.{eq-eqb, ne_eqb, lt-leb, leb-false, le-ltb, ltb-false, eqb-true, not-false}
use Rattle.std.proofs.lemmas.Bool.{and_parts, false_from_ne_true, or_parts}
use Rattle.table.specs.Table.{most_nodes, most_arcs}
use Rattle.table.specs.Refusals.{count_bad, columns_bad}
use Rattle.listing.specs.Listing.{early_number}

pub count_fine : (n : ℕ) → (n ≡ 0 → ⊥) → n ≤ most_nodes → count_bad n ≡ false
unfolding count_bad
count_fine n e h = rw (ne_eqb n 0 e, le-ltb most_nodes n h)

pub columns_fine : (a b : ℕ) → a ≡ b → a ≤ most_arcs → columns_bad a b b ≡ false
unfolding columns_bad
columns_fine a b e h = rw (eq-eqb a b e, eq-eqb b b refl, le-ltb most_arcs a h)

-- what holds where none of these refusals applies
pub record Passed (n a b v : ℕ) : Type 0 where
  pub few_nodes : n ≤ most_nodes
  pub equal : a ≡ b
  pub node_in : v < n

module _ (n a b o v : ℕ) where
  pub unrefused : count_bad n ≡ false → columns_bad a b b ≡ false → o < n → v < n → early_number n a b o v ≡ 0
  unfolding early_number
  unrefused c d f g = rw (c, d, lt-leb n o f, lt-leb n v g)

  pub passed : early_number n a b o v ≡ 0 → Passed n a b v
  unfolding early_number count_bad columns_bad
  passed e =
      let c = false_from_ne_true (eqb n 0 || ltb most_nodes n) (λ h. let z : ◌≡◌ {A = ℕ} 1 0 = rw h at e in omega arith) in
      let same = eqb a b && eqb b b in
      let d = false_from_ne_true (not same || ltb most_arcs a) (λ h. let z : ◌≡◌ {A = ℕ} 2 0 = rw (c, h) at e in omega arith) in
      let f = false_from_ne_true (leb n o) (λ h. let z : ◌≡◌ {A = ℕ} 4 0 = rw (c, d, h) at e in omega arith) in
      let g = false_from_ne_true (leb n v) (λ h. let z : ◌≡◌ {A = ℕ} 5 0 = rw (c, d, f, h) at e in omega arith) in
      record {
        few_nodes = ltb-false most_nodes n (or_parts (eqb n 0) (ltb most_nodes n) c).1;
        equal = eqb-true a b (and_parts (eqb a b) (eqb b b) (not-false same (or_parts (not same) (ltb most_arcs a) d).0)).0;
        node_in = leb-false n v g;
      }

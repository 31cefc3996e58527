-- Listing from the columns of a table: where the walk returned is a walk with fewer than n arcs, its nodes are listed. Assumes nothing.
use mathlib.Core.Path.{◌≡◌, sym, ap, ◌∙◌}
use mathlib.Core.Bool.{true}
use mathlib.Core.List.{List}
use Prim.Native.Nat.{ℕ, ◌≤◌, ◌<◌}
use native.Mathlib.Omega.{arith}
use lib.ListN.{length}
use Rattle.table.specs.Table.{Table, table, table_of, is_table, arc_count, arc_at, tail_at, is_walk, most_nodes}
use Rattle.auction.specs.HandOver.{returned}
use Rattle.table.proofs.Present.{leaves_present, present_tail}
use Rattle.table.proofs.Columns.{count_so, end_so, head_so}
use Rattle.auction.proofs.Good.{good}
use Rattle.listing.specs.Listing.{Tree, tree_in, path, nodes_of, early_of, listed}
use Rattle.listing.specs.Promises.{nodes_of_walk, Gives}
use Rattle.listing.proofs.Early.{count_fine, columns_fine, unrefused}
use Rattle.listing.proofs.Answers.{at_most_n, without_room, fits}
use Rattle.listing.proofs.Returned.{Columns, path_is_walk}

module _ (n o : ℕ) (ts hs ls column : List ℕ) (e : length ts ≡ length hs) (f : length hs ≡ length ls) (long : length column ≡ n) where
  abbrev t : Table
  t = table_of n o ts hs ls

  count : arc_count t ≡ length ts
  count = count_so n o ts hs ls (sym e) (sym (e ∙ f))

  -- an arc that leaves a node leaves its tail
  leaves_tail : n ≤ most_nodes → (i : ℕ) → tail_at t i < n → (arc_at t i).tail ≡ tail_at t i
  unfolding table_of table
  leaves_tail few i low = sym (present_tail t i (leaves_present t i few low))

  columns : n ≤ most_nodes → Columns t (tree_in ts hs column)
  unfolding table_of table
  columns few =
      record {
        nodes = long;
        arcs = sym count;
        tails = λ i h low. sym (end_so n o ts hs ls (sym e) (sym (e ∙ f)) i (omega (arith, h, count))) ∙ leaves_tail few i low;
        heads = λ i h. sym (head_so n o ts hs ls (sym e) (sym (e ∙ f)) i (omega (arith, h, count)));
      }

  module _ (ws : List ℕ) (v : ℕ) where
    abbrev k : Tree
    k = tree_in ts hs column

    pub walk_listed : is_table t ws ≡ true → v < n → is_walk t (returned t column v) v ≡ true → length (returned t column v) < n →
        Gives o v k (nodes_of_walk t (returned t column v))
    unfolding table_of table nodes_of_walk nodes_of early_of
    walk_listed table_good low walk few =
        let g = good t ws table_good in
        let c = columns g.few_nodes in
        let p = path_is_walk t k c g v walk few in
        let nodes = nodes_of_walk t (returned t column v) in
        let same : nodes_of (path o v k) ≡ nodes = ap nodes_of p in
        let some_node : 0 < length (nodes_of (path o v k)) = omega (arith, ap length same) in
        let fine =
        unrefused (length column) (length ts) (length hs) o v
        (count_fine (length column) (λ z. omega (arith, long)) (omega (arith, long, g.few_nodes)))
        (columns_fine (length ts) (length hs) e (omega (arith, c.arcs, g.few_arcs)))
        (omega (arith, long, g.origin_in)) (omega (arith, long)) in
        record {
          within = omega (arith, at_most_n o v k, ap length same);
          roomy = λ room h. fits o v k room fine some_node (omega (arith, ap length same)) ∙ ap listed same;
          short = λ room h. without_room o v k room fine some_node (omega (arith, ap length same));
        }

-- A table with another origin has the same walks, and it is one that is not refused wherever the table is. Assumes nothing.
use mathlib.Core.Path.{◌≡◌, refl, ap}
use mathlib.Core.Bool.{Bool, true, ◌&&◌}
use mathlib.Core.List.{List, [], ◌∷◌}
use Prim.Native.Nat.{ℕ, ◌+◌, ◌≤◌, ◌<◌}
use lib.Dec.{ltb, eqb}
use lib.ListN.{length}
use borrow.Author.Tests.{lt-ltb, le-leb}
use Rattle.table.specs.Table.{Table, table, is_table, arc_count, arc_at, present_at, tail_at, head_at, length_at, leads, walk_length, nodes_below, most_wanted}
use Rattle.auction.proofs.Good.{parts}
use Rattle.listing.specs.Promises.{heads_along}

module _ (t : Table) (o : ℕ) where
  abbrev with_origin : Table
  with_origin = table t.n o t.arcs

  pub leads_same : (is : List ℕ) (u v : ℕ) → leads with_origin u is v ≡ leads t u is v
  unfolding leads table arc_count tail_at head_at present_at arc_at
  leads_same [] u v = refl
  leads_same (i ∷ is) u v = ap (λ (b : Bool). (ltb i (arc_count t) && eqb (tail_at t i) u) && b) (leads_same is (head_at t i) v)

  pub length_same : (is : List ℕ) → walk_length with_origin is ≡ walk_length t is
  unfolding walk_length table length_at arc_at
  length_same [] = refl
  length_same (i ∷ is) = ap (λ (k : ℕ). length_at t i + k) (length_same is)

  pub heads_same : (is : List ℕ) → heads_along with_origin is ≡ heads_along t is
  unfolding heads_along table head_at arc_at
  heads_same [] = refl
  heads_same (i ∷ is) = ap (λ (vs : List ℕ). head_at t i ∷ vs) (heads_same is)

  -- whatever nodes are wanted
  pub table_still : (ws vs : List ℕ) → is_table t ws ≡ true → o < t.n → length vs ≤ most_wanted → nodes_below t.n vs ≡ true →
      is_table with_origin vs ≡ true
  unfolding is_table table arc_count
  table_still ws vs e low few nodes =
      let p = parts t ws e in
      rw (
        le-leb 1 t.n p.some_node,
        le-leb t.n 1024 p.few_nodes,
        lt-ltb o t.n low,
        le-leb (length t.arcs) 6000 p.few_arcs,
        p.arcs,
        le-leb (length vs) 1024 few,
        nodes,
      )

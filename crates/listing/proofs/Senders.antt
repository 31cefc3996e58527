-- Listing to a collector: the nodes of a walk of the exchanged table, backwards, are those of the walk to the collector. Assumes nothing.
use mathlib.Core.Path.{◌≡◌, sym, ap, ◌∙◌}
use mathlib.Core.Bool.{true}
use mathlib.Core.List.{List, [], ◌∷◌, reverse_aux, reverse}
use Prim.Native.Nat.{ℕ, ◌<◌}
use native.Mathlib.Omega.{arith}
use lib.ListN.{length-reverse}
use borrow.Author.Tests.{eqb-true}
use Rattle.table.specs.Table.{Table, table, head_at, leads, is_walk}
use Rattle.auction.proofs.Good.{Good}
use Rattle.auction.proofs.Back.{first}
use Rattle.collector.specs.Exchanged.{exchanged}
use Rattle.collector.proofs.Exchange.{count_kept, head_there, leaves_head, leaves_there}
use Rattle.listing.specs.Listing.{Tree, refused, listed}
use Rattle.listing.specs.Collecting.{exchanged_tree, turned_round, listing_to_collector}
use Rattle.listing.specs.Promises.{heads_along, nodes_of_walk, nodes_from, Gives, GivesIn}

module _ (t : Table) (g : Good t) where
  -- the nodes of a walk there, backwards, and then those of a walk here from where it began
  turned : (is onward : List ℕ) (u w : ℕ) → u < t.n → leads (exchanged t) u is w ≡ true →
      reverse_aux (heads_along (exchanged t) is) (u ∷ heads_along t onward) ≡ w ∷ heads_along t (reverse_aux is onward)
  unfolding leads heads_along exchanged table
  turned [] onward u w low e = ap (λ (z : ℕ). z ∷ heads_along t onward) (eqb-true u w e)
  turned (i ∷ is) onward u w low e =
      let x = exchanged t in
      let f = first x u i is w e in
      let here : head_at t i ≡ u = sym (leaves_head t i (leaves_there t g i (omega (arith, f.leaves, low)))) ∙ f.leaves in
      let tail_low : head_at x i < t.n = omega (arith, head_there t i, g.end_in i (omega (arith, f.listed, count_kept t))) in
      ap (λ (z : ℕ). reverse_aux (heads_along x is) (head_at x i ∷ z ∷ heads_along t onward)) (sym here)
      ∙ turned is (i ∷ onward) (head_at x i) w tail_low f.rest

  pub nodes_turned : (is : List ℕ) (v : ℕ) → is_walk (exchanged t) is v ≡ true →
      reverse (nodes_of_walk (exchanged t) is) ≡ nodes_from t v (reverse is)
  unfolding is_walk nodes_of_walk nodes_from heads_along exchanged table
  nodes_turned is v e = turned is [] t.origin v g.origin_in e

-- what the exchanged tree gives is given turned round
pub turned_gives : (c v : ℕ) (k : Tree) (vs : List ℕ) → Gives c v (exchanged_tree k) vs → GivesIn c v k (reverse vs)
unfolding turned_round listing_to_collector listed refused
turned_gives c v k vs g =
    let same = length-reverse vs in
    record {
      within = omega (arith, g.within, same);
      roomy = λ room h. ap turned_round (g.roomy room (omega (arith, h, same)));
      short = λ room h. ap turned_round (g.short room (omega (arith, h, same)));
    }

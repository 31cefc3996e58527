-- An absent arc is nowhere: in no walk, kept by no node, and marked 1. Assumes nothing.
use mathlib.Core.Path.{◌≡◌, refl, ap}
use mathlib.Core.Bool.{false, true}
use mathlib.Core.List.{List, [], ◌∷◌}
use Prim.Native.Nat.{ℕ, ◌<◌}
use native.Mathlib.Omega.{arith}
use borrow.Author.Tests.{ne_eqb}
use Rattle.table.specs.Table.{Table, present_at, tail_at, head_at, leads, is_walk}
use Rattle.auction.specs.HandOver.{how_many}
use Rattle.auction.specs.Absent.{AbsentNowhere}
use Rattle.table.proofs.Present.{absent_tail}
use Rattle.auction.proofs.Good.{Good, good}
use Rattle.auction.proofs.Back.{first}
use Rattle.auction.proofs.Run.{passed}
use Rattle.auction.proofs.Tally.{absent_mark, absent_unkept}

module _ (t : Table) (g : Good t) (i : ℕ) (absent : present_at t i ≡ false) where
  none_on : (is : List ℕ) (u v : ℕ) → u < t.n → leads t u is v ≡ true → how_many i is ≡ 0
  unfolding how_many
  none_on [] u v low e = refl
  none_on (j ∷ is) u v low e =
      let f = first t u j is v e in
      let d : j ≡ i → ⊥ = λ s. omega (arith, low, g.few_nodes, f.leaves, ap (tail_at t) s, absent_tail t i absent) in
      let rest = none_on is (head_at t j) v (g.head_in j f.listed) f.rest in
      rw (ne_eqb j i d) (omega (arith, rest))

  pub in_no_walk : (walk : List ℕ) (v : ℕ) → is_walk t walk v ≡ true → how_many i walk ≡ 0
  unfolding is_walk
  in_no_walk walk v e = none_on walk t.origin v g.origin_in e

pub absent_nowhere : AbsentNowhere
unfolding AbsentNowhere
absent_nowhere t ws i e h absent =
    let g = good t ws e in
    record {
      in_no_walk = in_no_walk t g i absent;
      never_kept = λ k x v p. let a = (passed t g k x p).0 in absent_unkept t g x a.depth a.sound i v absent;
      marked = λ x. absent_mark t x i absent;
    }

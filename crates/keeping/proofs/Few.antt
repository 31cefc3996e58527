-- A shortest walk has fewer than n arcs: the prices of a plan fall along it, so at each of its nodes at least as many nodes have lower prices as arcs
-- follow. Assumes nothing.
use mathlib.Core.Path.{◌≡◌, ap}
use mathlib.Core.Bool.{true, cond}
use mathlib.Core.List.{List, [], ◌∷◌}
use mathlib.Core.Logic.{⊎_elim}
use Prim.Native.Nat.{ℕ, ◌+◌, ◌≤◌, ◌<◌}
use native.Mathlib.Omega.{arith}
use lib.Dec.{ltb}
use lib.ListN.{length}
use borrow.Author.Tests.{eqb-true, lt-ltb, le-ltb}
use Rattle.std.proofs.lemmas.Bool.{cases_eq, cases_lt}
use Rattle.table.specs.Table.{Table, is_table, arc_count, tail_at, head_at, length_at, leads, is_walk, walk_length}
use Rattle.table.proofs.Present.{leaves_present}
use Rattle.auction.specs.Plan.{routes_of}
use Rattle.auction.specs.Demands.{DemandsMet, price_of}
use Rattle.auction.proofs.Good.{Good, good}
use Rattle.auction.proofs.Back.{first}
use Rattle.auction.proofs.Sums.{total, only_at, only_same, only_other, total_le, total_one, total_const}
use Rattle.auction.proofs.Demanded.{demands_met}

-- HOW MANY of n nodes have a price below a level
module _ (n : ℕ) (price : ℕ → ℕ) where
  lower : (level w : ℕ) → ℕ
  lower level w = cond (ltb (price w) level) 1 0

  is_lower : (level w : ℕ) → price w < level → lower level w ≡ 1
  unfolding lower
  is_lower level w h = rw (lt-ltb (price w) level h)

  not_lower : (level w : ℕ) → level ≤ price w → lower level w ≡ 0
  unfolding lower
  not_lower level w h = rw (le-ltb (price w) level h)

  count : (level : ℕ) → ℕ
  count level = total n (lower level)

  -- a level above a node's price counts that node too
  counts_more : (v level : ℕ) → v < n → price v < level → count (price v) + 1 ≤ count level
  unfolding count
  counts_more v level low h =
      omega (
        arith,
        total_one n (lower (price v)) v 1 low,
        total_le n (λ w. lower (price v) w + only_at v 1 w) (lower level)
            (λ w l.
            ⊎_elim
            (λ (s : w ≡ v). omega (arith, only_same v 1 w s, not_lower (price v) w (omega (arith, ap price s)), is_lower level w (omega (arith, ap price s))))
            (λ (s : w ≡ v → ⊥).
            ⊎_elim (λ (b : price w < price v). omega (arith, only_other v 1 w s, is_lower (price v) w b, is_lower level w (omega arith)))
            (λ (b : price v ≤ price w). omega (arith, only_other v 1 w s, not_lower (price v) w b))
            (cases_lt (price w) (price v)))
            (cases_eq w v)),
      )

  -- and none counts more than all nodes
  counts_most : (level : ℕ) → count level ≤ n
  unfolding count
  counts_most level =
      omega (
        arith,
        total_const n 1,
        total_le n (lower level) (λ w. 1)
            (λ w l.
            ⊎_elim (λ (b : price w < level). omega (arith, is_lower level w b)) (λ (b : level ≤ price w). omega (arith, not_lower level w b))
            (cases_lt (price w) level)),
      )

-- ALONG A WALK prices that fit fall by no more than its length. Where they fall by all of it, they fall on each of its arcs.
module _ (t : Table) (g : Good t) (price : ℕ → ℕ)
    (fit : (i : ℕ) → i < arc_count t → tail_at t i < t.n → price (tail_at t i) ≤ length_at t i + price (head_at t i)) where
  fits_along : (is : List ℕ) (u v : ℕ) → u < t.n → leads t u is v ≡ true → price u ≤ walk_length t is + price v
  unfolding leads walk_length
  fits_along [] u v low e = omega (arith, ap price (eqb-true u v e))
  fits_along (i ∷ is) u v low e =
      let f = first t u i is v e in
      omega (arith, ap price f.leaves, fit i f.listed (omega (arith, f.leaves)), fits_along is (head_at t i) v (g.head_in i f.listed) f.rest)

  as_many : (is : List ℕ) (u v : ℕ) → u < t.n → leads t u is v ≡ true → walk_length t is + price v ≤ price u →
      length is ≤ count t.n price (price u)
  unfolding leads walk_length
  as_many [] u v low e long = omega arith
  as_many (i ∷ is) u v low e long =
      let f = first t u i is v e in
      let head_low = g.head_in i f.listed in
      let here = fit i f.listed (omega (arith, f.leaves)) in
      let rest = fits_along is (head_at t i) v head_low f.rest in
      let falls : price (head_at t i) < price u = omega (arith, g.positive i f.listed) in
      omega (
        arith,
        as_many is (head_at t i) v head_low f.rest (omega (arith, ap price f.leaves)),
        counts_more t.n price (head_at t i) (price u) head_low falls,
      )

pub few_arcs : (t : Table) (v : ℕ) (is : List ℕ) → is_table t (v ∷ []) ≡ true → is_walk t is v ≡ true →
    ((other : List ℕ) → is_walk t other v ≡ true → walk_length t is ≤ walk_length t other) → length is < t.n
unfolding is_walk DemandsMet
few_arcs t v is e walk least =
    let g = good t (v ∷ []) e in
    let d = demands_met t (v ∷ []) e in
    let price = price_of (routes_of t (v ∷ [])) in
    let given = d.given 0 is (omega arith) walk in
    let as_long : walk_length t is + price v ≤ price t.origin = omega (arith, d.prices_show v given, least _ (d.walk v given)) in
    omega (
      arith,
      as_many t g price (λ i h low. d.prices_fit i h (leaves_present t i g.few_nodes low)) is t.origin v g.origin_in walk as_long,
      counts_more t.n price t.origin (price t.origin + 1) g.origin_in (omega arith),
      counts_most t.n price (price t.origin + 1),
    )

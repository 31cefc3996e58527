-- THE TEST LOAD: the table that two labs make of the same numbers, arc by arc. Assumes nothing: these are definitions.
--
-- A PAIR is a tail and a head that differ. The pairs come by tail, and those of a tail by head. For each pair a number is drawn, which says whether the pair
-- has an arc; only where it has one, the next number that is drawn says how long the arc is.
use Rattle.std.specs.Prelude.{cond, List, [], ◌∷◌, ◌++◌, ℕ, zero, suc, ◌+◌, ◌*◌, ◌/◌, ◌%◌, ◌^◌, ltb, eqb}
use Rattle.table.specs.Table.{Arc, arc}

pub record Pair : Type 0 where
  pub tail : ℕ
  pub head : ℕ

unfoldable pub pair : (tail head : ℕ) → Pair
pair t h = record { tail = t; head = h }

-- the pairs of a tail with so many heads, from this head on
unfoldable pub pairs_of : (tail head left : ℕ) → List Pair
pairs_of t h zero = []
pairs_of t h (suc k) = cond (eqb h t) (pairs_of t (suc h) k) (pair t h ∷ pairs_of t (suc h) k)

-- the pairs of so many tails, from this tail on, with all n heads
unfoldable pub pairs_from : (n tail left : ℕ) → List Pair
pairs_from n t zero = []
pairs_from n t (suc k) = pairs_of t 0 n ++ pairs_from n (suc t) k

unfoldable pub pairs : (n : ℕ) → List Pair
pairs n = pairs_from n 0 n

-- A DRAW replaces the state, 32 bits, by the next one, which is also the number drawn
unfoldable pub draw : (state : ℕ) → ℕ
draw s = (s * 1664525 + 1013904223) % 2 ^ 32

-- the arcs of these pairs, from a state on. The chance is out of 65,536: a pair has an arc where the upper half of the number drawn is below it.
unfoldable pub drawn : (chance largest : ℕ) → List Pair → (state : ℕ) → List Arc
drawn c l [] s = []
drawn c l (p ∷ more) s =
    let d = draw s in
    let e = draw d in
    cond (ltb (d / 65536) c) (arc p.tail p.head (1 + e % l) ∷ drawn c l more e) (drawn c l more d)

-- THE LOAD: the seed is the first state
unfoldable pub load : (n seed chance largest : ℕ) → List Arc
load n seed c l = drawn c l (pairs n) seed

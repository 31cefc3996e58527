-- How often a node stands among those that pass a test, and which nodes have a distance. Assumes nothing.
use mathlib.Core.Path.{◌≡◌, refl, sym, ap, ◌∙◌}
use mathlib.Core.Bool.{Bool, true, false, not}
use mathlib.Core.List.{List}
use mathlib.Core.Logic.{⊎_elim}
use Prim.Native.Nat.{ℕ, zero, suc, ◌+◌, ◌≤◌, ◌<◌}
use native.Mathlib.Omega.{arith}
use lib.ListN.{length, get_or, drop, get_or-eq_default}
use lib.Seq.{drop-cons, drop-length}
use borrow.Author.Tests.{eq-eqb, ne_eqb, eqb-false, not-true, both_ways}
use Rattle.std.proofs.lemmas.Bool.{cases_Bool, cases_eq, cases_lt}
use Rattle.table.specs.Table.{no_distance}
use Rattle.auction.specs.HandOver.{Answer, how_many}
use Rattle.auction.specs.Demands.{Given, distance_of}
use Rattle.sheet.specs.Sheet.{passing, with_node, has_distance}

module _ (f : ℕ → Bool) (v : ℕ) where
  -- among the nodes from a on
  pub absent : (k a : ℕ) → (a ≤ v → v < a + k → f v ≡ false) → how_many v (passing f k a) ≡ 0
  unfolding passing with_node how_many
  absent zero a h = refl
  absent (suc k) a h =
      let later = absent k (suc a) (λ p q. h (omega arith) (omega arith)) in
      ⊎_elim
      (λ (t : f a ≡ true).
      let apart : a ≡ v → ⊥ = λ e. both_ways (f v) (h (omega arith) (omega arith)) (ap f (sym e) ∙ t) in
      rw (t, ne_eqb a v apart) (omega (arith, later)))
      (λ (t : f a ≡ false). rw t later)
      (cases_Bool (f a))

  pub present : (k a : ℕ) → a ≤ v → v < a + k → f v ≡ true → how_many v (passing f k a) ≡ 1
  unfolding passing with_node how_many
  present zero a p q t = absurd (omega arith)
  present (suc k) a p q t =
      ⊎_elim
      (λ (e : a ≡ v). rw (ap f e ∙ t, eq-eqb a v e) (omega (arith, absent k (suc a) (λ x y. absurd (omega arith)))))
      (λ (d : a ≡ v → ⊥).
      let later = present k (suc a) (omega arith) (omega arith) t in
      ⊎_elim (λ (u : f a ≡ true). rw (u, ne_eqb a v d) (omega (arith, later))) (λ (u : f a ≡ false). rw u later) (cases_Bool (f a)))
      (cases_eq a v)

-- as many nodes pass as have a distance: those without one are the others
pub distances_counted : (ds : List ℕ) (k v : ℕ) → v + k ≡ length ds → length (passing (has_distance ds) k v) + how_many no_distance (drop v ds) ≡ k
unfolding passing with_node has_distance how_many
distances_counted ds zero v e = let end : v ≡ length ds = omega arith in rw (end, drop-length ds) refl
distances_counted ds (suc k) v e =
    let later = distances_counted ds k (suc v) (omega arith) in
    let d = get_or ds v no_distance in
    let rest = drop (suc v) ds in
    ⊎_elim
    (λ (q : d ≡ no_distance). rw (drop-cons ds v no_distance (omega arith), eq-eqb d no_distance q) (omega (arith, later)))
    (λ (q : d ≡ no_distance → ⊥). rw (drop-cons ds v no_distance (omega arith), ne_eqb d no_distance q) (omega (arith, later)))
    (cases_eq d no_distance)

-- a node has a distance exactly where it was given a walk, and then it is a node
module _ (a : Answer) (v : ℕ) where
  pub given_has : Given a v → has_distance a.distances v ≡ true
  unfolding Given distance_of has_distance
  given_has g = ap not (ne_eqb (get_or a.distances v no_distance) no_distance g)

  pub has_given : has_distance a.distances v ≡ true → Given a v
  unfolding Given distance_of has_distance
  has_given h = eqb-false (get_or a.distances v no_distance) no_distance (not-true _ h)

  pub not_given : (Given a v → ⊥) → has_distance a.distances v ≡ false
  not_given d =
      ⊎_elim (λ (t : has_distance a.distances v ≡ true). absurd (d (has_given t))) (λ (t : has_distance a.distances v ≡ false). t)
      (cases_Bool (has_distance a.distances v))

  pub given_low : Given a v → v < length a.distances
  unfolding Given distance_of
  given_low g =
      ⊎_elim (λ (h : v < length a.distances). h) (λ (h : length a.distances ≤ v). absurd (g (get_or-eq_default a.distances no_distance {n = v} h)))
      (cases_lt v (length a.distances))

-- The walks of a table are those of the table without its absent arcs, told by places. Assumes nothing.
use mathlib.Core.Path.{◌≡◌, refl, sym, ap, ◌∙◌}
use mathlib.Core.Bool.{true, ◌&&◌}
use mathlib.Core.List.{List, [], ◌∷◌, map}
use Prim.Native.Nat.{ℕ, ◌<◌}
use native.Mathlib.Omega.{arith}
use lib.Dec.{ltb, eqb}
use borrow.Author.Tests.{lt-ltb, eq-eqb}
use Rattle.std.proofs.lemmas.Bool.{and_from}
use Rattle.table.specs.Table.{Table, table, arc_count, tail_at, head_at, leads, is_walk, walk_length}
use Rattle.auction.specs.Absent.{without_absent, place_of, WalksWithoutAbsent}
use Rattle.table.proofs.Present.{leaves_present}
use Rattle.auction.proofs.Good.{Good, good}
use Rattle.auction.proofs.Back.{first}
use Rattle.auction.proofs.Without.Places.{place_in, tail_there, head_there, length_there, every}

module _ (t : Table) where
  abbrev s : Table
  s = without_absent t

  -- a walk without the absent arcs is one with them, as long
  leads_there : (is : List ℕ) (u v : ℕ) → leads s u is v ≡ true → leads t u (map (place_of t) is) v ≡ true
  unfolding leads
  leads_there [] u v e = e
  leads_there (k ∷ is) u v e =
      let f = first s u k is v e in
      let i = place_of t k in
      and_from (ltb i (arc_count t) && eqb (tail_at t i) u) (leads t (head_at t i) (map (place_of t) is) v)
      (and_from (ltb i (arc_count t)) (eqb (tail_at t i) u) (lt-ltb i (arc_count t) (place_in t k f.listed))
      (eq-eqb (tail_at t i) u (tail_there t k f.listed ∙ f.leaves)))
      (ap (λ (w : ℕ). leads t w (map (place_of t) is) v) (head_there t k f.listed) ∙ leads_there is (head_at s k) v f.rest)

  as_long : (is : List ℕ) (u v : ℕ) → leads s u is v ≡ true → walk_length t (map (place_of t) is) ≡ walk_length s is
  unfolding leads walk_length
  as_long [] u v e = refl
  as_long (k ∷ is) u v e =
      let f = first s u k is v e in omega (arith, length_there t k f.listed, as_long is (head_at s k) v f.rest)

  -- and each with them is one without, since its arcs leave nodes
  leads_without : Good t → (is : List ℕ) (u v : ℕ) → u < t.n → leads t u is v ≡ true →
      (other : List ℕ) × (leads s u other v ≡ true) × (map (place_of t) other ≡ is)
  unfolding leads
  leads_without g [] u v low e = ([], e, refl)
  leads_without g (i ∷ is) u v low e =
      let f = first t u i is v e in
      let q = every t i f.listed (leaves_present t i g.few_nodes (omega (arith, low, f.leaves))) in
      let k = q.0 in
      let r = leads_without g is (head_at t i) v (g.head_in i f.listed) f.rest in
      let leaves = sym (tail_there t k q.1) ∙ ap (tail_at t) q.2 ∙ f.leaves in
      let head = sym (head_there t k q.1) ∙ ap (head_at t) q.2 in (
        k ∷ r.0,
        and_from (ltb k (arc_count s) && eqb (tail_at s k) u) (leads s (head_at s k) r.0 v)
            (and_from (ltb k (arc_count s)) (eqb (tail_at s k) u) (lt-ltb k (arc_count s) q.1) (eq-eqb (tail_at s k) u leaves))
            (ap (λ (w : ℕ). leads s w r.0 v) head ∙ r.1),
        rw (q.2, r.2),
      )

pub walks_without_absent : WalksWithoutAbsent
unfolding WalksWithoutAbsent is_walk without_absent table
walks_without_absent t ws e =
    let g = good t ws e in
    record {
      there = λ walk v w. leads_there t walk t.origin v w;
      as_long = λ walk v w. as_long t walk t.origin v w;
      no_other = λ walk v w. leads_without t g walk t.origin v g.origin_in w;
    }

-- Listing a node and the walk returned to it agree, for any table and tree column: where the arcs that `returned` finds are a walk from the origin with
-- fewer than n arcs, listing meets the origin and then their heads. Assumes nothing.
use mathlib.Core.Path.{◌≡◌, refl, sym, ap, ◌∙◌}
use mathlib.Core.Bool.{true, false}
use mathlib.Core.List.{List, [], ◌∷◌}
use mathlib.Core.Logic.{⊎_elim}
use mathlib.Core.Option.{some}
use Prim.Native.Nat.{ℕ, zero, suc, ◌+◌, ◌<◌}
use native.Mathlib.Omega.{arith}
use lib.ListN.{length, get_or}
use borrow.Author.Tests.{eqb-true, lt-ltb}
use Rattle.std.proofs.lemmas.Bool.{cases_Bool, cases_eq}
use Rattle.table.specs.Table.{Table, arc_count, tail_at, head_at, leads, is_walk, no_arc}
use Rattle.auction.specs.HandOver.{back_from, returned}
use Rattle.auction.proofs.Good.{Good}
use Rattle.auction.proofs.Back.{first, ends, stays, goes, back_longer}
use Rattle.auction.proofs.Back as back
use Rattle.listing.specs.Listing.{Tree, node_count, entry, node_before, leads_back, back_to, path}
use Rattle.listing.specs.Promises.{heads_along, nodes_of_walk}
use Rattle.listing.proofs.Entries.{by_tail, at_origin, one_back}

-- the columns of a tree are those of a table's arcs
pub record Columns (t : Table) (k : Tree) : Type 0 where
  -- they are as long as the table
  pub nodes : node_count k ≡ t.n
  pub arcs : length k.tails ≡ arc_count t
  -- and hold the tail of every arc that leaves a node (an absent arc leaves none)
  pub tails : (i : ℕ) → i < arc_count t → tail_at t i < t.n → get_or k.tails i 0 ≡ tail_at t i
  -- and the head of every arc
  pub heads : (i : ℕ) → i < arc_count t → get_or k.heads i 0 ≡ head_at t i

-- where a walk to w begins
abbrev starts : Table → (walk : List ℕ) → (w : ℕ) → ℕ
starts t [] w = w
starts t (i ∷ is) w = tail_at t i

-- these arcs lead from a node of the table to w
record FromNode (t : Table) (is : List ℕ) (w : ℕ) : Type 0 where
  -- the node, which is below n
  node : ℕ
  low : node < t.n
  -- and the walk from it
  walk : leads t node is w ≡ true

begins_there : (t : Table) (u : ℕ) (is : List ℕ) (w : ℕ) → leads t u is w ≡ true → u ≡ starts t is w
unfolding leads
begins_there t u [] w e = eqb-true u w e
begins_there t u (i ∷ is) w e = sym (first t u i is w e).leaves

module _ (t : Table) (ts : List ℕ) where
  -- the arcs already found are the last ones of a walk, from its first node or from a head
  ends_with : Good t → (fuel v : ℕ) (is : List ℕ) (u w : ℕ) → u < t.n → leads t u (back_from fuel t ts v is) w ≡ true → FromNode t is w
  unfolding back_from
  ends_with g zero v is u w low e = record { node = u; low = low; walk = e }
  ends_with g (suc fuel) v is u w low e =
      ⊎_elim (λ (h : ends t ts v ≡ true). record { node = u; low = low; walk = rw (stays t ts fuel v is h) at e })
      (λ (h : ends t ts v ≡ false).
      let i = get_or ts v no_arc in
      let r = ends_with g fuel (tail_at t i) (i ∷ is) u w low (rw (goes t ts fuel v is h) at e) in
      let f = first t r.node i is w r.walk in
      record { node = head_at t i; low = g.head_in i f.listed; walk = f.rest })
      (cases_Bool (ends t ts v))

-- Away from the origin a walk takes the node's entry: an arc from a node into this one, after which the way back goes on from its tail.
record Takes (t : Table) (ts : List ℕ) (fuel v : ℕ) (is : List ℕ) : Type 0 where
  -- the way back goes on,
  left : ℕ
  goes_on : back_from fuel t ts v is ≡ back_from left t ts (tail_at t (get_or ts v no_arc)) (get_or ts v no_arc ∷ is)
  -- and the entry is an arc, from a node, into this one
  listed : get_or ts v no_arc < arc_count t
  leaves : tail_at t (get_or ts v no_arc) < t.n
  into : head_at t (get_or ts v no_arc) ≡ v

takes : (t : Table) → Good t → (ts : List ℕ) (fuel v : ℕ) (is : List ℕ) (w : ℕ) → starts t is w ≡ v → (v ≡ t.origin → ⊥) →
    leads t t.origin (back_from fuel t ts v is) w ≡ true → Takes t ts fuel v is
unfolding back_from
takes t g ts zero v is w b away e = absurd (away (sym (begins_there t t.origin is w e ∙ b)))
takes t g ts (suc fuel) v is w b away e =
    let o = t.origin in
    let i = get_or ts v no_arc in
    ⊎_elim
    (λ (h : ends t ts v ≡ true). absurd (away (sym (begins_there t o is w (rw (stays t ts fuel v is h) at e) ∙ b))))
    (λ (h : ends t ts v ≡ false).
    let last = ends_with t ts g fuel (tail_at t i) (i ∷ is) o w g.origin_in (rw (goes t ts fuel v is h) at e) in
    let f = first t last.node i is w last.walk in
    record {
      left = fuel;
      goes_on = goes t ts fuel v is h;
      listed = f.listed;
      leaves = omega (arith, f.leaves, last.low);
      into = begins_there t (head_at t i) is w f.rest ∙ b;
    })
    (cases_Bool (ends t ts v))

-- the way back and the walk, arc by arc
module _ (t : Table) (k : Tree) (columns : Columns t k) (g : Good t) (w : ℕ) where
  -- an entry that is an arc from a node into its node leads back, to the arc's tail
  before_there : (v : ℕ) → entry k v < arc_count t → tail_at t (entry k v) < t.n → node_before k v ≡ tail_at t (entry k v)
  unfolding node_before
  before_there v listed leaves = columns.tails (entry k v) listed leaves

  leads_there : (v : ℕ) → entry k v < arc_count t → tail_at t (entry k v) < t.n → head_at t (entry k v) ≡ v → leads_back k v ≡ true
  leads_there v listed leaves into =
      let low : get_or k.tails (entry k v) 0 < node_count k = omega (arith, columns.tails (entry k v) listed leaves, columns.nodes, leaves) in
      by_tail k v (entry k v) refl (omega (arith, columns.arcs)) (columns.heads (entry k v) listed ∙ into)
      ∙ lt-ltb (get_or k.tails (entry k v) 0) (node_count k) low

  agree : (left fuel v : ℕ) (is : List ℕ) → starts t is w ≡ v → leads t t.origin (back_from fuel t k.column v is) w ≡ true →
      length (back_from fuel t k.column v is) < left + length is →
      back_to left t.origin k v (heads_along t is) ≡ some (t.origin ∷ heads_along t (back_from fuel t k.column v is))
  unfolding entry heads_along
  agree zero fuel v is b e s = absurd (omega (arith, back_longer t k.column fuel v is))
  agree (suc left) fuel v is b e s =
      let o = t.origin in
      let i = get_or k.column v no_arc in
      ⊎_elim
      (λ (p : v ≡ o).
      at_origin left o k v (heads_along t is) p ∙ ap (λ (a : ℕ). some (a ∷ heads_along t is)) p
      ∙ ap (λ (l : List ℕ). some (o ∷ heads_along t l)) (sym (back.at_origin t k.column fuel v is p)))
      (λ (p : v ≡ o → ⊥).
      let m = takes t g k.column fuel v is w b p e in
      one_back left o k v (heads_along t is) p (leads_there v m.listed m.leaves m.into)
      ∙ ap (λ (a : ℕ). back_to left o k a (v ∷ heads_along t is)) (before_there v m.listed m.leaves)
      ∙ ap (λ (a : ℕ). back_to left o k (tail_at t i) (a ∷ heads_along t is)) (sym m.into)
      ∙ agree left m.left (tail_at t i) (i ∷ is) refl (rw m.goes_on at e) (omega (arith, ap length m.goes_on))
      ∙ ap (λ (l : List ℕ). some (o ∷ heads_along t l)) (sym m.goes_on))
      (cases_eq v o)

-- the listing's path is the origin and the heads of the arcs of the walk returned
pub path_is_walk : (t : Table) (k : Tree) → Columns t k → Good t → (v : ℕ) →
    is_walk t (returned t k.column v) v ≡ true → length (returned t k.column v) < t.n →
    path t.origin v k ≡ some (nodes_of_walk t (returned t k.column v))
unfolding returned is_walk path nodes_of_walk heads_along
path_is_walk t k columns g v e s =
    agree t k columns g v (node_count k) t.n v [] refl e (omega (arith, columns.nodes))

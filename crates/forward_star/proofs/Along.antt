-- Along a node's list of outgoing arcs. The arcs that the list jumps over leave other nodes; so what is made up of the arcs out of a node, from a position
-- on, is made along the node's list. Assumes nothing.
use mathlib.Core.Path.{◌≡◌, refl, sym, ap, subst, ◌∙◌}
use mathlib.Core.List.{List}
use mathlib.Core.Logic.{⊎_elim, ∥∥₁_elim}
use Prim.Native.Nat.{ℕ, zero, suc, ◌+◌, ◌-◌, ◌≤◌, ◌<◌}
use native.Mathlib.Omega.{arith}
use lib.ListN.{length, get_or}
use borrow.Author.Tests.{eq-eqb, ne_eqb}
use Rattle.table.specs.Table.{Table, arc_count, tail_at, no_arc, most_arcs}
use Rattle.std.proofs.Props.{props}
use Rattle.std.proofs.lemmas.Bool.{cases_eq}
use Rattle.forward_star.specs.Lists.{star, next_out, Outgoing, SomeTable}

-- an arc out of v at a position from i on, or none
record Found (t : Table) (k i v p : ℕ) : Type 0 where
  pub from : i ≤ p
  pub inside : (p ≡ no_arc → ⊥) → (p < i + k) × (tail_at t p ≡ v)

-- What is made of the `left` positions from one on, where an arc that leaves another node than v adds nothing
pub record OwnArcs {A : Type 0} (t : Table) (v : ℕ) (made : (left position : ℕ) → A) : Type 0 where
  pub past : (k i : ℕ) → (tail_at t i ≡ v → ⊥) → made (suc k) i ≡ made k (suc i)
  pub done : (i j : ℕ) → made 0 i ≡ made 0 j

module _ (t : Table) (v : ℕ) where
  next_here : (k i : ℕ) → tail_at t i ≡ v → next_out (suc k) i t v ≡ i
  unfolding next_out
  next_here k i e = rw (eq-eqb (tail_at t i) v e)

  next_past : (k i : ℕ) → (tail_at t i ≡ v → ⊥) → next_out (suc k) i t v ≡ next_out k (suc i) t v
  unfolding next_out
  next_past k i d = rw (ne_eqb (tail_at t i) v d)

  found : (k i : ℕ) → i + k ≤ most_arcs → Found t k i v (next_out k i t v)
  unfolding next_out
  found zero i h = record { from = omega arith; inside = λ d. absurd (d refl) }
  found (suc k) i h =
      ⊎_elim
      (λ (e : tail_at t i ≡ v).
      subst (λ (q : ℕ). Found t (suc k) i v q) (sym (next_here k i e)) (record { from = omega arith; inside = λ d. (omega arith, e) }))
      (λ (d : tail_at t i ≡ v → ⊥).
      let r = found k (suc i) (omega arith) in
      subst (λ (q : ℕ). Found t (suc k) i v q) (sym (next_past k i d))
      (record { from = omega (arith, r.from); inside = λ e. (omega (arith, (r.inside e).0), (r.inside e).1) }))
      (cases_eq (tail_at t i) v)

  -- the arcs that are jumped over
  skip : {A : Type 0} {made : (left position : ℕ) → A} → OwnArcs t v made → (k i : ℕ) → i + k ≤ most_arcs →
      made k i ≡ made (i + k - next_out k i t v) (next_out k i t v)
  unfolding next_out
  skip {A} {made} own zero i h =
      let z : i + 0 - no_arc ≡ 0 = omega arith in
      own.done i no_arc ∙ sym (ap (λ (m : ℕ). made m no_arc) z)
  skip {A} {made} own (suc k) i h =
      ⊎_elim
      (λ (e : tail_at t i ≡ v).
      let z : i + suc k - i ≡ suc k = omega arith in
      rw (eq-eqb (tail_at t i) v e) (sym (ap (λ (m : ℕ). made m i) z)))
      (λ (d : tail_at t i ≡ v → ⊥).
      let z : suc i + k ≡ i + suc k = omega arith in
      own.past k i d
      ∙ subst (λ (m : ℕ). made k (suc i) ≡ made (m - next_out k (suc i) t v) (next_out k (suc i) t v)) z (skip own k (suc i) (omega arith))
      ∙ sym (ap (λ (q : ℕ). made (i + suc k - q) q) (next_past k i d)))
      (cases_eq (tail_at t i) v)

-- ON A LIST: p is the position of an arc out of the node v, or no arc
pub record OnList (t : Table) (v p : ℕ) : Type 0 where
  pub node : v < t.n
  pub inside : (p ≡ no_arc → ⊥) → (p < arc_count t) × (tail_at t p ≡ v)

module _ {t : Table} {hs ls first next : List ℕ} (here : Outgoing t (star hs ls first next)) (v : ℕ) where
  pub on_low : {p : ℕ} → OnList t v p → p ≤ no_arc
  on_low {p} on =
      ⊎_elim (λ (e : p ≡ no_arc). omega arith) (λ (d : p ≡ no_arc → ⊥). omega (arith, (on.inside d).0, here.few)) (cases_eq p no_arc)

  pub on_first : v < t.n → OnList t v (get_or first v 0)
  on_first h =
      subst (λ (q : ℕ). OnList t v q) (sym (here.linked.first_arc v h))
      (record {
        node = h;
        inside = λ d.
            let f = (found t v (arc_count t) 0 (omega (arith, here.few))).inside d in
            (omega (arith, f.0), f.1);
      })

  module _ {p : ℕ} (at : OnList t v p) (some_arc : p ≡ no_arc → ⊥) where
    next_is : get_or next p 0 ≡ next_out (arc_count t - suc p) (suc p) t v
    next_is =
        here.linked.next_arc p (at.inside some_arc).0 (omega (arith, (at.inside some_arc).1, at.node))
        ∙ ap (λ w. next_out (arc_count t - suc p) (suc p) t w) (at.inside some_arc).1

    past : suc p + (arc_count t - suc p) ≡ arc_count t
    past = omega (arith, (at.inside some_arc).0)

    pub on_next : OnList t v (get_or next p 0) × (p < get_or next p 0)
    on_next =
        let f = found t v (arc_count t - suc p) (suc p) (omega (arith, past, here.few)) in
        subst (λ (q : ℕ). OnList t v q × (p < q)) (sym next_is)
        (record { node = at.node; inside = λ d. (omega (arith, (f.inside d).0, past), (f.inside d).1) }, omega (arith, f.from))

    -- the arc at p is the first of those left,
    pub here_left : arc_count t - p ≡ suc (arc_count t - suc p)
    here_left = omega (arith, (at.inside some_arc).0)

    -- and those after it are on the list from the next one on
    pub own_next : {A : Type 0} {made : (left position : ℕ) → A} → OwnArcs t v made →
        made (arc_count t - suc p) (suc p) ≡ made (arc_count t - get_or next p 0) (get_or next p 0)
    own_next {A} {made} own =
        subst (λ (m : ℕ). made (arc_count t - suc p) (suc p)
        ≡ made (m - next_out (arc_count t - suc p) (suc p) t v) (next_out (arc_count t - suc p) (suc p) t v)) past
        (skip t v own (arc_count t - suc p) (suc p) (omega (arith, past, here.few)))
        ∙ sym (ap (λ (q : ℕ). made (arc_count t - q) q) next_is)

  -- all arcs are on the list from the node's first one on
  pub own_first : {A : Type 0} {made : (left position : ℕ) → A} → OwnArcs t v made → v < t.n →
      made (arc_count t - get_or first v 0) (get_or first v 0) ≡ made (arc_count t) 0
  own_first {A} {made} own h =
      let z : 0 + arc_count t ≡ arc_count t = omega arith in
      ap (λ (q : ℕ). made (arc_count t - q) q) (here.linked.first_arc v h)
      ∙ sym (subst (λ (m : ℕ). made (arc_count t) 0 ≡ made (m - next_out (arc_count t) 0 t v) (next_out (arc_count t) 0 t v)) z
      (skip t v own (arc_count t) 0 (omega (arith, here.few))))

  -- and none is left at its end
  pub none_left : (p : ℕ) → p ≡ no_arc → arc_count t - p ≡ 0
  none_left p e = omega (arith, here.few)

-- what a read of the arc at p needs, and the next one
pub record Readable (hs ls first next : List ℕ) (p : ℕ) : Type 0 where
  pub in_heads : p < length hs
  pub in_lengths : p < length ls
  pub in_next : p < length next
  pub head_in : get_or hs p 0 < length first
  pub rises : p < get_or next p 0
  pub low : get_or next p 0 ≤ no_arc

-- the forward star of a table has it on every list,
pub readable_in : {t : Table} {hs ls first next : List ℕ} {v p : ℕ} → Outgoing t (star hs ls first next) → OnList t v p → (p ≡ no_arc → ⊥) →
    Readable hs ls first next p
readable_in {t} {hs} {ls} {first} {next} {v} {p} here walk more =
    let at = (walk.inside more).0 in
    let n = on_next here v walk more in
    record {
      in_heads = omega (arith, here.head_count);
      in_lengths = omega (arith, here.length_count);
      in_next = omega (arith, here.linked.next_count);
      head_in = omega (arith, here.head p at, here.head_in p at, here.linked.first_count);
      rises = n.1;
      low = on_low here v n.0;
    }

readable_is_fact : (hs ls first next : List ℕ) (p : ℕ) → IsProp (Readable hs ls first next p)
readable_is_fact hs ls first next p = Prim.hlevel props

-- and so has that of some table,
pub readable : {hs ls first next : List ℕ} {v p : ℕ} → ∥ SomeTable (star hs ls first next) ∥₁ →
    ((t : Table) → Outgoing t (star hs ls first next) → OnList t v p) → (p ≡ no_arc → ⊥) → Readable hs ls first next p
unfolding SomeTable
readable {hs} {ls} {first} {next} {v} {p} of on more =
    ∥∥₁_elim of (readable_is_fact hs ls first next p) (λ some. readable_in some.1 (on some.0 some.1) more)

-- of which each arc leads to a node
pub head_inside : (hs ls first next : List ℕ) → ∥ SomeTable (star hs ls first next) ∥₁ → (i : ℕ) → i < length hs → get_or hs i 0 < length first
unfolding SomeTable
head_inside hs ls first next of i h =
    ∥∥₁_elim of (Prim.hlevel props)
    (λ some.
    let here = some.1 in
    let at : i < arc_count some.0 = omega (arith, here.head_count) in
    omega (arith, here.head i at, here.head_in i at, here.linked.first_count))

-- Whether an offered bound is kept, and what offering one arc leaves. Assumes nothing.
use mathlib.Core.Path.{◌≡◌, refl, sym, ap, ◌∙◌}
use mathlib.Core.Bool.{Bool, true, false, ◌&&◌, not, cond, or-false}
use mathlib.Core.List.{List}
use mathlib.Core.Logic.{⊎_elim}
use Prim.Native.Nat.{ℕ, ◌+◌, ◌-◌, ◌≤◌, ◌<◌}
use native.Mathlib.Omega.{arith}
use lib.Dec.{ltb, eqb}
use lib.ListN.{length, get_or, set}
use lib.Seq.{get_or-set_other}
use borrow.Author.Tests.{lt-ltb, le-ltb, eq-eqb, ne_eqb}
use Rattle.std.proofs.lemmas.Bool.{cases_eq}
use Rattle.table.specs.Table.{Table, arc_count, tail_at, head_at, length_at, no_arc, no_distance}
use Rattle.auction.specs.Auction.{State, improves, takes, offer, offers, distance, was_reached, bound_at, kept_at, with_kept, or_zero}
use Rattle.steps.specs.declared.state.Progress.{Progress}
use Rattle.steps.specs.Seen.{bound_of, arc_of, seen}
use Rattle.forward_star.specs.Lists.{star, Outgoing}
use Rattle.steps.proofs.Arrays.{some_bound, some_arc, no_bound, no_kept, seen_bound, seen_kept, seen_status, store_kept, seen_distance}
use Rattle.forward_star.proofs.Along.{OnList, on_first, on_next}
use Rattle.steps.proofs.Arcs.{offers_first, offers_next, offers_done}

-- ONE ARC, whose head and the bound that it offers are given, has been offered to its head
pub record ArcOffered (head position bound : ℕ) (bounds kept status bounds' kept' : List ℕ) : Type 0 where
  -- the state is the one that `offer` gives, in each table that has such an arc there
  pub as_defined : (t : Table) (v : ℕ) (path price : List ℕ) (g : Progress) → tail_at t position ≡ v → head_at t position ≡ head →
      distance (seen path price bounds kept status g) v + length_at t position ≡ bound →
      seen path price bounds' kept' status g ≡ offer t v position (seen path price bounds kept status g)
  -- no distance of a reached node has changed
  pub fixed : (v : ℕ) → 0 < get_or status v 0 → get_or bounds' v 0 ≡ get_or bounds v 0

-- WHETHER A BOUND IS KEPT
module _ (o i b k : ℕ) (fits : o < no_distance) where
  equal_lower : o ≡ b → improves o i (bound_of b) (arc_of k) ≡ ltb i (or_zero (arc_of k))
  unfolding improves
  equal_lower e = rw (some_bound b (λ z. omega arith), le-ltb o b (omega arith), eq-eqb o b e)

  -- equal bounds, and a lower position than the kept arc's
  pub equal_before : o ≡ b → i < k → not (eqb k no_arc) ≡ improves o i (bound_of b) (arc_of k)
  unfolding or_zero
  equal_before e h =
      ⊎_elim
      (λ (z : k ≡ no_arc). rw (equal_lower e, no_kept k z, eq-eqb k no_arc z) (sym (le-ltb i 0 (omega arith))))
      (λ (z : k ≡ no_arc → ⊥). rw (equal_lower e, some_arc k z, ne_eqb k no_arc z) (sym (lt-ltb i k h)))
      (cases_eq k no_arc)

  pub equal_after : o ≡ b → k ≤ i → ltb i k ≡ improves o i (bound_of b) (arc_of k)
  unfolding or_zero
  equal_after e h =
      ⊎_elim
      (λ (z : k ≡ no_arc). rw (equal_lower e, no_kept k z, le-ltb i k h) (sym (le-ltb i 0 (omega arith))))
      (λ (z : k ≡ no_arc → ⊥). rw (equal_lower e, some_arc k z))
      (cases_eq k no_arc)

  pub unequal : (o ≡ b → ⊥) → ltb o b ≡ improves o i (bound_of b) (arc_of k)
  unfolding improves
  unequal d =
      ⊎_elim
      (λ (z : b ≡ no_distance). rw (no_bound b z) (lt-ltb o b (omega arith)))
      (λ (z : b ≡ no_distance → ⊥). rw (some_bound b z, ne_eqb o b d) (sym (or-false (ltb o b))))
      (cases_eq b no_distance)

-- ONE ARC OFFERED
offer_is : (t : Table) (v i j d : ℕ) (x : State) → tail_at t i ≡ v → head_at t i ≡ j → distance x v + length_at t i ≡ d →
    offer t v i x ≡ cond (not (was_reached x j) && improves d i (bound_at x j) (kept_at x j)) (with_kept j i d x) x
unfolding offer takes
offer_is t v i j d x et eh ed = rw (eq-eqb (tail_at t i) v et, eh, ed)

module _ (j : ℕ) (p u b k s : List ℕ) (g : Progress) where
  as_said : (o i : ℕ) (a : Bool) → j < length b → j < length k → improves o i (bound_of (get_or b j 0)) (arc_of (get_or k j 0)) ≡ a →
      improves o i (bound_at (seen p u b k s g) j) (kept_at (seen p u b k s g) j) ≡ a
  as_said o i a hb hk e = rw (seen_bound p u b k s g j hb, seen_kept p u b k s g j hk) e

  unreached_here : get_or s j 0 ≡ 0 → was_reached (seen p u b k s g) j ≡ false
  unfolding was_reached
  unreached_here e = rw (seen_status p u b k s g j) (le-ltb 0 (get_or s j 0) (omega arith))

  reached_here : (get_or s j 0 ≡ 0 → ⊥) → was_reached (seen p u b k s g) j ≡ true
  unfolding was_reached
  reached_here d = rw (seen_status p u b k s g j) (lt-ltb 0 (get_or s j 0) (omega arith))

module _ {j i o : ℕ} {b k s : List ℕ} (hb : j < length b) (hk : j < length k) where
  pub offered_kept : o < no_distance → i < no_arc → get_or s j 0 ≡ 0 →
      improves o i (bound_of (get_or b j 0)) (arc_of (get_or k j 0)) ≡ true → ArcOffered j i o b k s (set b j o) (set k j i)
  offered_kept fits low e better =
      record {
        as_defined = λ t v p u g et eh ed.
            store_kept p u b k s g j i o (λ z. omega arith) (λ z. omega arith)
            ∙ sym (rw (offer_is t v i j o (seen p u b k s g) et eh ed, unreached_here j p u b k s g e, as_said j p u b k s g o i true hb hk better));
        fixed = λ v h. get_or-set_other b j v o 0 (λ z. let q = ap (λ m. get_or s m 0) z in omega arith);
      }

  pub offered_dropped : improves o i (bound_of (get_or b j 0)) (arc_of (get_or k j 0)) ≡ false → get_or s j 0 ≡ 0 → ArcOffered j i o b k s b k
  offered_dropped worse e =
      record {
        as_defined = λ t v p u g et eh ed.
            sym (rw (offer_is t v i j o (seen p u b k s g) et eh ed, unreached_here j p u b k s g e, as_said j p u b k s g o i false hb hk worse));
        fixed = λ v h. refl;
      }

  pub offered_reached : (get_or s j 0 ≡ 0 → ⊥) → ArcOffered j i o b k s b k
  offered_reached d =
      record {
        as_defined = λ t v p u g et eh ed.
            sym (rw (offer_is t v i j o (seen p u b k s g) et eh ed, reached_here j p u b k s g d));
        fixed = λ v h. refl;
      }

-- ALL ARCS OUT OF A NODE: those from p on are left to offer
pub record LeftOver (t : Table) (v : ℕ) (bound₀ kept₀ status bound kept : List ℕ) (p : ℕ) : Type 0 where
  pub on_list : OnList t v p
  pub rest : (path price : List ℕ) (g : Progress) →
      offers (arc_count t - p) p t v (seen path price bound kept status g) ≡ offers (arc_count t) 0 t v (seen path price bound₀ kept₀ status g)

pub record Offering (heads lengths first next : List ℕ) (v d : ℕ) (bound₀ kept₀ status bound kept : List ℕ) (p : ℕ) : Type 0 where
  pub bounds_long : length bound ≡ length bound₀
  pub kepts_long : length kept ≡ length kept₀
  pub distance_stays : get_or bound v 0 ≡ d
  pub left_over : (t : Table) → Outgoing t (star heads lengths first next) → LeftOver t v bound₀ kept₀ status bound kept p

module _ {hs ls first next : List ℕ} {v d : ℕ} {b₀ k₀ s : List ℕ} where
  pub begins : v < length first → get_or b₀ v 0 ≡ d → Offering hs ls first next v d b₀ k₀ s b₀ k₀ (get_or first v 0)
  begins h e =
      record {
        bounds_long = refl;
        kepts_long = refl;
        distance_stays = e;
        left_over = λ t here.
            let below : v < t.n = omega (arith, here.linked.first_count) in
            record {
              on_list = on_first here v below;
              rest = λ path price g. offers_first here v (seen path price b₀ k₀ s g) below;
            };
      }

  module _ {b k : List ℕ} {p : ℕ} (inv : Offering hs ls first next v d b₀ k₀ s b k p) where
    pub goes_on : {b' k' : List ℕ} (i j o : ℕ) → i ≡ p → j ≡ get_or hs p 0 → o ≡ d + get_or ls p 0 → (p ≡ no_arc → ⊥) → d < no_distance → v < length b₀ →
        0 < get_or s v 0 → length b' ≡ length b → length k' ≡ length k → ArcOffered j p o b k s b' k' →
        Offering hs ls first next v d b₀ k₀ s b' k' (get_or next i 0)
    goes_on i j o ei ej eo more fits inside reached lb lk now_offered =
        record {
          bounds_long = lb ∙ inv.bounds_long;
          kepts_long = lk ∙ inv.kepts_long;
          distance_stays = now_offered.fixed v reached ∙ inv.distance_stays;
          left_over = λ t here.
              let l = inv.left_over t here in
              let at = l.on_list.inside more in
              record {
                on_list = rw ei (on_next here v l.on_list more).0;
                rest = λ path price g.
                    let x = seen path price b k s g in
                    let far : distance x v ≡ d =
                    seen_distance path price b k s g v (omega (arith, inv.bounds_long)) (λ z. omega (arith, inv.distance_stays)) ∙ inv.distance_stays in
                    let e = now_offered.as_defined t v path price g at.1 (sym (here.head p at.0) ∙ sym ej)
                    (omega (arith, far, here.arc_length p at.0)) in
                    rw (ei, e) (sym (offers_next here v l.on_list more x) ∙ l.rest path price g);
              };
        }

    pub ends : p ≡ no_arc → (path price : List ℕ) (g : Progress) (t : Table) → Outgoing t (star hs ls first next) →
        seen path price b k s g ≡ offers (arc_count t) 0 t v (seen path price b₀ k₀ s g)
    ends e path price g t here =
        sym (offers_done here v p (seen path price b k s g) e) ∙ (inv.left_over t here).rest path price g

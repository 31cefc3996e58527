-- A step of a table is that of the table without its absent arcs, its kept arcs told by their places. Assumes nothing.
use mathlib.Core.Path.{◌≡◌, refl, sym, ap, ◌∙◌}
use mathlib.Core.Bool.{Bool, true, false}
use mathlib.Core.List.{List, [], ◌∷◌}
use mathlib.Core.Logic.{⊎_elim}
use mathlib.Core.Option.{Option, none, some}
use Prim.Native.Nat.{ℕ, suc, ◌+◌, ◌<◌}
use native.Mathlib.Omega.{arith}
use lib.Dec.{ltb, leb, eqb}
use lib.ListN.{length, get_or, get_or-map}
use borrow.Author.Tests.{le-ltb, ne_eqb}
use lib.Seq.{map-set}
use lib.LanesLaws.{map-replicate}
use Rattle.std.proofs.lemmas.Bool.{cases_Bool}
use Rattle.table.specs.Table.{Arc, Table, table, arc, arc_count, arc_at, present, present_at, tail_at, head_at, length_at, no_arc, no_node}
use Rattle.auction.specs.Auction.{State, state, terminal, price_at, bound_at, kept_at, status_at, or_zero, distance, was_reached, is_deleted, improves, with_kept, with_status, takes, offer, offers, reach, reached, fresh, start, Bid, bid, is_kept, to_child, lower_bid, with_bid, best_from, best, deletion, contraction, longer, extension, iteration, next}
use Rattle.auction.specs.Absent.{present_arcs, without_absent, told, told_state, told_step}
use Rattle.table.proofs.Present.{absent_tail}
use Rattle.auction.proofs.Good.{Good}
use Rattle.auction.proofs.Steps.Bids.{best_bid}
use Rattle.auction.proofs.Without.Places.{spread, first_place, later_place, place_past, same_order, same_equal, same_tail, same_head, same_length}

-- the kept arc of a node, told
pub told_kept : (f : ℕ → ℕ) (x : State) (v : ℕ) → kept_at (told_state f x) v ≡ told f (kept_at x v)
unfolding kept_at told_state state told
told_kept f x v = get_or-map (told f) x.kept v none

module _ (t : Table) where
  abbrev s : Table
  s = without_absent t

  abbrev place : ℕ → ℕ
  place = spread t.arcs

  abbrev retold : State → State
  retold x = told_state place x

  -- an offer improves as much
  told_improves : (b i : ℕ) (o k : Option ℕ) → improves b (place i) o (told place k) ≡ improves b i o k
  unfolding improves told or_zero
  told_improves b i none k = refl
  told_improves b i (some c) none = rw (le-ltb (place i) 0 (omega arith), le-ltb i 0 (omega arith))
  told_improves b i (some c) (some k) = rw (same_order t.arcs i k)

  told_takes : (v i : ℕ) (x : State) → takes t v (place i) (retold x) ≡ takes s v i x
  unfolding takes was_reached status_at distance bound_at told_state state
  told_takes v i x =
      rw (
        same_tail t i,
        same_head t i,
        same_length t i,
        told_kept place x (head_at s i),
        told_improves (distance x v + length_at s i) i (bound_at x (head_at s i)) (kept_at x (head_at s i)),
      )

  told_with_kept : (j i b : ℕ) (x : State) → with_kept j (place i) b (retold x) ≡ retold (with_kept j i b x)
  unfolding with_kept told_state state told
  told_with_kept j i b x = rw (map-set (told place) x.kept j (some i))

  told_offer : (v i : ℕ) (x : State) → offer t v (place i) (retold x) ≡ retold (offer s v i x)
  unfolding offer distance bound_at told_state state
  told_offer v i x =
      ⊎_elim
      (λ (q : takes s v i x ≡ true).
      rw (told_takes v i x, q, same_head t i, same_length t i) (told_with_kept (head_at s i) i (distance x v + length_at s i) x))
      (λ (q : takes s v i x ≡ false). rw (told_takes v i x, q))
      (cases_Bool (takes s v i x))

  -- an absent arc offers nothing, since it leaves no node
  absent_offer : (v i : ℕ) (y : State) → v < no_node → present_at t i ≡ false → offer t v i y ≡ y
  unfolding offer takes
  absent_offer v i y h p = rw (ne_eqb (tail_at t i) v (λ e. omega (arith, e, h, absent_tail t i p)))

  -- THE SAME ARCS ARE LEFT, from position i on in the table and from position j on in the table without its absent arcs
  pub record Aligned (rest : List Arc) (i j : ℕ) : Type 0 where
    arcs : (q : ℕ) → arc_at t (i + q) ≡ get_or rest q (arc no_arc no_arc 0)
    places : (q : ℕ) → place (j + q) ≡ i + spread rest q

  pub all_left : Aligned t.arcs 0 0
  unfolding arc_at
  all_left =
      let plain : (q : ℕ) → 0 + q ≡ q = λ q. omega arith in
      record { arcs = λ q. ap (arc_at t) (plain q); places = λ q. ap place (plain q) ∙ sym (plain (place q)) }

  module _ (a : Arc) (more : List Arc) (i j : ℕ) (l : Aligned (a ∷ more) i j) where
    pub here : present_at t i ≡ present a
    unfolding present_at
    here = let plain : i ≡ i + 0 = omega arith in ap (λ (k : ℕ). present (arc_at t k)) plain ∙ ap present (l.arcs 0)

    pub here_place : present a ≡ true → place j ≡ i
    here_place p = let plain : j ≡ j + 0 = omega arith in ap place plain ∙ omega (arith, l.places 0, first_place a more p)

    after_arcs : (q : ℕ) → arc_at t (suc i + q) ≡ get_or more q (arc no_arc no_arc 0)
    after_arcs q = let on : suc i + q ≡ i + suc q = omega arith in ap (arc_at t) on ∙ l.arcs (suc q)

    pub after_present : present a ≡ true → Aligned more (suc i) (suc j)
    after_present p =
        record {
          arcs = after_arcs;
          places =
              λ q.
              let on : suc j + q ≡ j + suc q = omega arith in
              ap place on ∙ omega (arith, l.places (suc q), later_place a more p q);
        }

    pub after_absent : present a ≡ false → Aligned more (suc i) j
    after_absent p = record { arcs = after_arcs; places = λ q. omega (arith, l.places q, place_past a more p q) }

  -- REACHING a node offers the same arcs
  told_offers : (v : ℕ) → v < no_node → (rest : List Arc) (i j : ℕ) (x : State) → Aligned rest i j →
      offers (length rest) i t v (retold x) ≡ retold (offers (length (present_arcs rest)) j s v x)
  unfolding offers present_arcs
  told_offers v h [] i j x l = refl
  told_offers v h (a ∷ more) i j x l =
      ⊎_elim
      (λ (p : present a ≡ true).
      rw p
      (ap (λ (k : ℕ). offers (length more) (suc i) t v (offer t v k (retold x))) (sym (here_place a more i j l p))
      ∙ ap (λ (y : State). offers (length more) (suc i) t v y) (told_offer v j x)
      ∙ told_offers v h more (suc i) (suc j) (offer s v j x) (after_present a more i j l p)))
      (λ (p : present a ≡ false).
      rw p
      (ap (λ (y : State). offers (length more) (suc i) t v y) (absent_offer v i (retold x) h (here a more i j l ∙ p))
      ∙ told_offers v h more (suc i) j x (after_absent a more i j l p)))
      (cases_Bool (present a))

  told_reach : (v : ℕ) (x : State) → v < no_node → reach t v (retold x) ≡ retold (reach s v x)
  unfolding reach with_status told_state state arc_count without_absent table
  told_reach v x h = told_offers v h t.arcs 0 0 (with_status v reached x) all_left

  told_fresh : fresh t ≡ retold (fresh s)
  unfolding fresh told_state state told without_absent table
  told_fresh = rw (map-replicate (told place) t.n none)

  pub told_start : t.origin < no_node → start t ≡ retold (start s)
  unfolding start without_absent table
  told_start h = ap (reach t t.origin) told_fresh ∙ told_reach t.origin (fresh s) h

  -- THE BEST BID is the same, by the same arc
  unfoldable pub told_bid : Option Bid → Option Bid
  told_bid none = none
  told_bid (some b) = some (bid b.value (place b.by_arc))

  pub told_is_kept : (x y : State) (i : ℕ) (k : Option ℕ) → is_kept y (place i) (told place k) ≡ is_kept x i k
  unfolding is_kept told
  told_is_kept x y i none = refl
  told_is_kept x y i (some k) = same_equal t.arcs k i

  pub told_child : (v i : ℕ) (x : State) → to_child t v (place i) (retold x) ≡ to_child s v i x
  unfolding to_child is_deleted status_at told_state state
  told_child v i x =
      rw (same_tail t i, same_head t i, told_kept place x (head_at s i), told_is_kept x (retold x) i (kept_at x (head_at s i)))

  pub absent_child : (v i : ℕ) (y : State) → v < no_node → present_at t i ≡ false → to_child t v i y ≡ false
  unfolding to_child
  absent_child v i y h p = rw (ne_eqb (tail_at t i) v (λ e. omega (arith, e, h, absent_tail t i p)))

  told_lower : (c : Bool) (b i : ℕ) (o : Option Bid) → with_bid c (bid b (place i)) (told_bid o) ≡ told_bid (with_bid c (bid b i) o)
  unfolding with_bid lower_bid told_bid bid
  told_lower false b i o = refl
  told_lower true b i none = refl
  told_lower true b i (some d) =
      ⊎_elim (λ (q : leb b d.value ≡ true). rw q) (λ (q : leb b d.value ≡ false). rw q) (cases_Bool (leb b d.value))

  told_with_bid : (v i : ℕ) (x : State) (o : Option Bid) →
      with_bid (to_child t v (place i) (retold x)) (bid (length_at t (place i) + price_at (retold x) (head_at t (place i))) (place i)) (told_bid o)
      ≡ told_bid (with_bid (to_child s v i x) (bid (length_at s i + price_at x (head_at s i)) i) o)
  unfolding price_at told_state state
  told_with_bid v i x o =
      rw (told_child v i x, same_length t i, same_head t i) (told_lower (to_child s v i x) (length_at s i + price_at x (head_at s i)) i o)

  told_best_from : (v : ℕ) → v < no_node → (rest : List Arc) (i j : ℕ) (x : State) → Aligned rest i j →
      best_from (length rest) i t v (retold x) ≡ told_bid (best_from (length (present_arcs rest)) j s v x)
  unfolding best_from present_arcs told_bid with_bid
  told_best_from v h [] i j x l = refl
  told_best_from v h (a ∷ more) i j x l =
      let y = retold x in
      let at : ℕ → Option Bid → Option Bid = λ k o. with_bid (to_child t v k y) (bid (length_at t k + price_at y (head_at t k)) k) o in
      ⊎_elim
      (λ (p : present a ≡ true).
      rw p
      (ap (λ (o : Option Bid). at i o) (told_best_from v h more (suc i) (suc j) x (after_present a more i j l p))
      ∙ ap (λ (k : ℕ). at k (told_bid (best_from (length (present_arcs more)) (suc j) s v x))) (sym (here_place a more i j l p))
      ∙ told_with_bid v j x (best_from (length (present_arcs more)) (suc j) s v x)))
      (λ (p : present a ≡ false).
      rw (p, absent_child v i y h (here a more i j l ∙ p)) (told_best_from v h more (suc i) j x (after_absent a more i j l p)))
      (cases_Bool (present a))

  pub told_best : (v : ℕ) (x : State) → v < no_node → best t v (retold x) ≡ told_bid (best s v x)
  unfolding best arc_count without_absent table
  told_best v x h = told_best_from v h t.arcs 0 0 x all_left

  -- AN ITERATION is the same
  told_extension : (j : ℕ) (x : State) → j < no_node → extension t j (retold x) ≡ retold (extension s j x)
  unfolding extension was_reached status_at longer told_state state
  told_extension j x h =
      ⊎_elim (λ (q : was_reached x j ≡ true). rw q) (λ (q : was_reached x j ≡ false). rw q (told_reach j (longer j x) h)) (cases_Bool (was_reached x j))

  module _ (g : Good s) (x : State) (h : terminal x < no_node) where
    told_iteration : (o : Option Bid) → best s (terminal x) x ≡ o →
        iteration (told_bid o) t (terminal x) (retold x) ≡ told_step place (iteration o s (terminal x) x)
    unfolding iteration told_step told_bid bid contraction deletion price_at told_state state without_absent table
    told_iteration none e =
        ⊎_elim (λ (q : eqb (terminal x) t.origin ≡ true). rw q) (λ (q : eqb (terminal x) t.origin ≡ false). rw q)
        (cases_Bool (eqb (terminal x) t.origin))
    told_iteration (some b) e =
        let listed = (best_bid s (terminal x) x b e).listed in
        let low : head_at s b.by_arc < no_node = omega (arith, g.head_in b.by_arc listed, g.few_nodes) in
        ⊎_elim (λ (q : ltb (price_at x (terminal x)) b.value ≡ true). rw q)
        (λ (q : ltb (price_at x (terminal x)) b.value ≡ false).
        rw (q, same_head t b.by_arc) (ap some (told_extension (head_at s b.by_arc) x low)))
        (cases_Bool (ltb (price_at x (terminal x)) b.value))

    pub told_next : next t (retold x) ≡ told_step place (next s x)
    unfolding next terminal told_state state
    told_next =
        ap (λ (o : Option Bid). iteration o t (terminal x) (retold x)) (told_best (terminal x) x h) ∙ told_iteration (best s (terminal x) x) refl

-- The bid over one arc, and the least bid over all arcs out of a node. Assumes nothing.
use mathlib.Core.Path.{◌≡◌, refl, sym, ap, subst, ◌∙◌}
use mathlib.Core.Bool.{Bool, true, false, ◌&&◌, not, and-false}
use mathlib.Core.List.{List}
use mathlib.Core.Logic.{◌⊎◌, inl, inr, ⊎_elim}
use mathlib.Core.Option.{none, some}
use Rattle.std.specs.Prelude.{Option, Some, None}
use Rattle.std.proofs.lemmas.Bool.{cases_eq}
use mathlib.Core.Option as maybe
use Prim.Native.Nat.{ℕ, ◌+◌, ◌-◌, ◌≤◌, ◌<◌}
use native.Mathlib.Omega.{arith}
use lib.Dec.{eqb}
use lib.ListN.{length, get_or}
use borrow.Author.Tests.{le-leb, lt-leb, eq-eqb, ne_eqb, eqb-true, eqb-false}
use Rattle.table.specs.Table.{Table, arc_count, tail_at, head_at, length_at, no_arc}
use Rattle.auction.specs.Auction.{State, Bid, bid, best, best_from, to_child, with_bid, lower_bid, is_kept, is_deleted, price_at}
use Rattle.steps.specs.declared.state.Progress.{Progress}
use Rattle.steps.specs.declared.bids.LeastBid.{LeastBid}
use Rattle.steps.specs.declared.state.Node.{Node}
use Rattle.steps.specs.Memory.{node_at}
use Rattle.steps.specs.Seen.{arc_of, seen, status_number, run_of, held, prices_in, bounds_in, kepts_in, statuses_in}
use Rattle.steps.proofs.Nodes.{entry, as_many, status_is}
use Rattle.forward_star.specs.Lists.{star, Outgoing}
use Rattle.steps.specs.Steps.{lower_of, bid_over, bid_in}
use Rattle.steps.proofs.Arrays.{some_arc, no_kept, seen_kept, seen_status, seen_price}
use Rattle.forward_star.proofs.Along.{OnList, on_first, on_next}
use Rattle.steps.proofs.Arcs.{bids_first, bids_next, bids_done, lower_of_none, lower_of_bid}

-- WHETHER AN ARC LEADS TO A CHILD
module _ (t : Table) (i j : ℕ) (p u b k s : List ℕ) (g : Progress) (at : head_at t i ≡ j) (inside : j < length k) where
  child_is : to_child t (tail_at t i) i (seen p u b k s g) ≡ (is_kept (seen p u b k s g) i (arc_of (get_or k j 0)) && not (eqb (get_or s j 0) 2))
  unfolding to_child is_deleted
  child_is =
      rw (eq-eqb (tail_at t i) (tail_at t i) refl, at, seen_kept p u b k s g j inside, seen_status p u b k s g j)

  not_kept : (x : State) → (get_or k j 0 ≡ i → ⊥) → is_kept x i (arc_of (get_or k j 0)) ≡ false
  unfolding is_kept
  not_kept x d =
      ⊎_elim
      (λ (e : get_or k j 0 ≡ no_arc). rw (no_kept (get_or k j 0) e))
      (λ (e : get_or k j 0 ≡ no_arc → ⊥). rw (some_arc (get_or k j 0) e) (ne_eqb (get_or k j 0) i d))
      (cases_eq (get_or k j 0) no_arc)

  pub no_child : ((get_or k j 0 ≡ i → ⊥) ⊎ (get_or s j 0 ≡ 2)) → to_child t (tail_at t i) i (seen p u b k s g) ≡ false
  no_child e =
      child_is
      ∙ ⊎_elim
      (λ (d : get_or k j 0 ≡ i → ⊥). rw (not_kept (seen p u b k s g) d))
      (λ (d : get_or s j 0 ≡ 2). rw (eq-eqb (get_or s j 0) 2 d) (and-false (is_kept (seen p u b k s g) i (arc_of (get_or k j 0)))))
      e

  pub a_child : get_or k j 0 ≡ i → i < no_arc → (get_or s j 0 ≡ 2 → ⊥) → to_child t (tail_at t i) i (seen p u b k s g) ≡ true
  unfolding is_kept
  a_child e low d =
      child_is ∙ rw (some_arc (get_or k j 0) (λ z. omega arith), eq-eqb (get_or k j 0) i e, ne_eqb (get_or s j 0) 2 d)

-- the same, and the bid, by what the head has
module _ (t : Table) (i j : ℕ) (path : List ℕ) (ns : List Node) (g : Progress) (at : head_at t i ≡ j) (inside : j < length ns) where
  abbrev x : State
  x = held (run_of path ns g)

  abbrev n : Node
  n = node_at j ns

  kept_is : get_or (kepts_in ns) j 0 ≡ n.kept
  kept_is = entry (λ m. m.kept) ns j

  kepts_long : j < length (kepts_in ns)
  kepts_long = omega (arith, as_many (λ m. m.kept) ns)

  pub no_child_there : ((n.kept ≡ i → ⊥) ⊎ (eqb (status_number n.status) 2 ≡ true)) → to_child t (tail_at t i) i x ≡ false
  no_child_there e =
      no_child t i j path (prices_in ns) (bounds_in ns) (kepts_in ns) (statuses_in ns) g at kepts_long
      (⊎_elim (λ (d : n.kept ≡ i → ⊥). inl (λ z. d (sym kept_is ∙ z))) (λ (d : eqb (status_number n.status) 2 ≡ true). inr (status_is ns j ∙ eqb-true _ 2 d)) e)

  child_there : n.kept ≡ i → i < no_arc → eqb (status_number n.status) 2 ≡ false → to_child t (tail_at t i) i x ≡ true
  child_there e low d =
      a_child t i j path (prices_in ns) (bounds_in ns) (kepts_in ns) (statuses_in ns) g at kepts_long (kept_is ∙ e) low
      (λ z. eqb-false _ 2 d (sym (status_is ns j) ∙ z))

  pub bid_there : n.kept ≡ i → i < no_arc → eqb (status_number n.status) 2 ≡ false → (l w : ℕ) → length_at t i ≡ l → w ≡ l →
      bid_over t i x ≡ some (bid (w + n.price) i)
  unfolding with_bid lower_bid
  bid_there e low d l w el ew =
      let price : price_at x j ≡ n.price =
      seen_price path (prices_in ns) (bounds_in ns) (kepts_in ns) (statuses_in ns) g j ∙ entry (λ m. m.price) ns j in
      rw (child_there e low d, el, at, price, ew)

-- ONE BID MORE
pub stays : (least : Option LeastBid) (child : Bool) (b : Bid) → child ≡ false → bid_in least ≡ lower_of (bid_in least) (with_bid child b none)
unfolding with_bid
stays least child b e = rw e (sym (lower_of_none (bid_in least)))

-- another bid beside the least one
module _ (least : Option LeastBid) (over : maybe.Option Bid) (value i : ℕ) (e : over ≡ some (bid value i)) where
  pub first_bid : least ≡ None → some (bid value i) ≡ lower_of (bid_in least) over
  unfolding lower_of
  first_bid z = rw (z, e)

  pub not_lower : (a : LeastBid) → least ≡ Some a → a.value ≤ value → some (bid a.value a.arc) ≡ lower_of (bid_in least) over
  unfolding lower_of lower_bid bid
  not_lower a z h = rw (z, e, le-leb a.value value h)

  pub lower : (a : LeastBid) → least ≡ Some a → value < a.value → some (bid value i) ≡ lower_of (bid_in least) over
  unfolding lower_of lower_bid bid
  lower a z h = rw (z, e, lt-leb a.value value h)

-- ALL BIDS: those from p on are left to compare
pub record Uncompared (t : Table) (v : ℕ) (nodes : List Node) (least : Option LeastBid) (p : ℕ) : Type 0 where
  pub on_list : OnList t v p
  pub rest : (path : List ℕ) (g : Progress) →
      lower_of (bid_in least) (best_from (arc_count t - p) p t v (held (run_of path nodes g))) ≡ best t v (held (run_of path nodes g))

module _ {t : Table} {hs ls first next : List ℕ} (here : Outgoing t (star hs ls first next)) {v : ℕ} {ns : List Node} where
  pub begins : v < t.n → Uncompared t v ns None (get_or first v 0)
  unfolding best lower_of
  begins below =
      record {
        on_list = on_first here v below;
        rest = λ path g. bids_first here v (held (run_of path ns g)) below;
      }

  pub goes_on : {least later : Option LeastBid} {p : ℕ} (i j : ℕ) → Uncompared t v ns least p → i ≡ p → j ≡ get_or hs p 0 → (p ≡ no_arc → ⊥) →
      ((path : List ℕ) (g : Progress) → head_at t p ≡ j → length_at t p ≡ get_or ls i 0 →
      bid_in later ≡ lower_of (bid_in least) (bid_over t p (held (run_of path ns g)))) →
      Uncompared t v ns later (get_or next i 0)
  goes_on {least} {later} {p} i j l ei ej more lowered =
      let at = l.on_list.inside more in
      record {
        on_list = rw ei (on_next here v l.on_list more).0;
        rest = λ path g.
            let x = held (run_of path ns g) in
            let eh : head_at t p ≡ j = sym (here.head p at.0) ∙ sym ej in
            let el : length_at t p ≡ get_or ls i 0 = sym (here.arc_length p at.0) ∙ ap (λ m. get_or ls m 0) (sym ei) in
            let rest = best_from (arc_count t - get_or next p 0) (get_or next p 0) t v x in
            let e = lowered path g eh el in
            let b = bid (length_at t p + price_at x (head_at t p)) p in
            rw (ei, e, lower_of_bid (bid_in least) (to_child t (tail_at t p) p x) b rest)
            (subst (λ (w : ℕ). lower_of (bid_in least) (with_bid (to_child t w p x) b rest) ≡ best t v x)
            (sym at.1)
            (ap (λ o. lower_of (bid_in least) o) (sym (bids_next here v l.on_list more x)) ∙ l.rest path g));
      }

  pub ends : {least : Option LeastBid} {p : ℕ} → Uncompared t v ns least p → p ≡ no_arc →
      (path : List ℕ) (g : Progress) → bid_in least ≡ best t v (held (run_of path ns g))
  ends {least} {p} l e path g =
      sym (lower_of_none (bid_in least))
      ∙ ap (λ o. lower_of (bid_in least) o) (sym (bids_done here v p (held (run_of path ns g)) e))
      ∙ l.rest path g

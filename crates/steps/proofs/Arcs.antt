-- A node's outgoing arcs, along its list: the arcs that the list jumps over offer nothing and bid nothing. Assumes nothing.
use mathlib.Core.Path.{◌≡◌, refl, sym, ap}
use mathlib.Core.Bool.{Bool, true, false}
use mathlib.Core.List.{List}
use mathlib.Core.Logic.{⊎_elim}
use mathlib.Core.Option.{Option, none, some}
use Prim.Native.Nat.{ℕ, ◌+◌, ◌-◌, ◌≤◌, ◌<◌}
use native.Mathlib.Omega.{arith}
use lib.Dec.{leb}
use lib.ListN.{get_or}
use borrow.Author.Tests.{ne_eqb, leb-true, leb-false, le-leb, lt-leb}
use Rattle.std.proofs.lemmas.Bool.{cases_Bool}
use Rattle.table.specs.Table.{Table, arc_count, tail_at, head_at, length_at, no_arc}
use Rattle.auction.specs.Auction.{State, Bid, bid, offer, offers, takes, best_from, to_child, with_bid, lower_bid, price_at}
use Rattle.forward_star.specs.Lists.{star, Outgoing}
use Rattle.forward_star.proofs.Along.{OwnArcs, OnList, here_left, own_first, own_next, none_left}
use Rattle.steps.specs.Steps.{lower_of}

-- an arc that leaves another node changes nothing
module _ (t : Table) (v : ℕ) (x : State) where
  own_offers : OwnArcs t v (λ k i. offers k i t v x)
  unfolding offers offer takes
  own_offers = record { past = λ k i d. rw (ne_eqb (tail_at t i) v d); done = λ i j. refl }

  own_bids : OwnArcs t v (λ k i. best_from k i t v x)
  unfolding best_from to_child with_bid
  own_bids = record { past = λ k i d. rw (ne_eqb (tail_at t i) v d); done = λ i j. refl }

-- the lower of bids: it does not matter which two are compared first
lower_bid_same : (a b : Bid) (c : Option Bid) → lower_bid a (some (lower_bid b c)) ≡ lower_bid (lower_bid a (some b)) c
unfolding lower_bid
lower_bid_same a b none = refl
lower_bid_same a b (some c) =
    ⊎_elim
    (λ (p : leb b.value c.value ≡ true).
    ⊎_elim
    (λ (q : leb a.value b.value ≡ true).
    let h : a.value ≤ c.value = omega (arith, leb-true b.value c.value p, leb-true a.value b.value q) in
    rw (p, q, le-leb a.value c.value h))
    (λ (q : leb a.value b.value ≡ false). rw (p, q, p))
    (cases_Bool (leb a.value b.value)))
    (λ (p : leb b.value c.value ≡ false).
    ⊎_elim
    (λ (q : leb a.value b.value ≡ true). rw (p, q))
    (λ (q : leb a.value b.value ≡ false).
    let h : c.value < a.value = omega (arith, leb-false b.value c.value p, leb-false a.value b.value q) in
    rw (p, q, p, lt-leb a.value c.value h))
    (cases_Bool (leb a.value b.value)))
    (cases_Bool (leb b.value c.value))

pub lower_of_none : (a : Option Bid) → lower_of a none ≡ a
unfolding lower_of lower_bid
lower_of_none none = refl
lower_of_none (some a) = refl

pub lower_of_bid : (a : Option Bid) (child : Bool) (b : Bid) (later : Option Bid) →
    lower_of (lower_of a (with_bid child b none)) later ≡ lower_of a (with_bid child b later)
unfolding lower_of with_bid lower_bid
lower_of_bid a false b later = ap (λ o. lower_of o later) (lower_of_none a)
lower_of_bid none true b later = refl
lower_of_bid (some a) true b later = ap some (sym (lower_bid_same a b later))

-- ALONG THE LIST of the node v
module _ {t : Table} {hs ls first next : List ℕ} (here : Outgoing t (star hs ls first next)) (v : ℕ) where
  module _ {p : ℕ} (at : OnList t v p) (some_arc : p ≡ no_arc → ⊥) where
    pub offers_next : (x : State) →
        offers (arc_count t - p) p t v x ≡ offers (arc_count t - get_or next p 0) (get_or next p 0) t v (offer t v p x)
    unfolding offers
    offers_next x = rw (here_left here v at some_arc) (own_next here v at some_arc (own_offers t v (offer t v p x)))

    pub bids_next : (x : State) →
        best_from (arc_count t - p) p t v x
        ≡ with_bid (to_child t v p x) (bid (length_at t p + price_at x (head_at t p)) p) (best_from (arc_count t - get_or next p 0) (get_or next p 0) t v x)
    unfolding best_from
    bids_next x =
        rw (here_left here v at some_arc)
        (ap (λ later. with_bid (to_child t v p x) (bid (length_at t p + price_at x (head_at t p)) p) later) (own_next here v at some_arc (own_bids t v x)))

  pub offers_first : (x : State) → v < t.n → offers (arc_count t - get_or first v 0) (get_or first v 0) t v x ≡ offers (arc_count t) 0 t v x
  offers_first x h = own_first here v (own_offers t v x) h

  pub bids_first : (x : State) → v < t.n → best_from (arc_count t - get_or first v 0) (get_or first v 0) t v x ≡ best_from (arc_count t) 0 t v x
  bids_first x h = own_first here v (own_bids t v x) h

  pub offers_done : (p : ℕ) (x : State) → p ≡ no_arc → offers (arc_count t - p) p t v x ≡ x
  unfolding offers
  offers_done p x e = ap (λ m. offers m p t v x) (none_left here v p e)

  pub bids_done : (p : ℕ) (x : State) → p ≡ no_arc → best_from (arc_count t - p) p t v x ≡ none
  unfolding best_from
  bids_done p x e = ap (λ m. best_from m p t v x) (none_left here v p e)

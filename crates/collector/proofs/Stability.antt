-- The promises of specs/Stability.antt, each from the one about plans from an origin, on the exchanged tables. Assumes nothing.
use mathlib.Core.Path.{◌≡◌, sym, ap, subst, ◌∙◌}
use mathlib.Core.Bool.{true}
use mathlib.Core.List.{List, [], ◌∷◌, reverse, map-append}
use Prim.Native.Nat.{ℕ, ◌<◌}
use native.Mathlib.Omega.{arith}
use lib.ListN.{get_or}
use Rattle.table.specs.Table.{Arc, Table, arc, table, is_table, arc_count, present, walk_length}
use Rattle.auction.specs.HandOver.{Answer}
use Rattle.auction.specs.Plan.{routes_of}
use Rattle.auction.specs.Demands.{Given, walk_of}
use Rattle.auction.specs.Stability.{SameRoute, Lengthened, SameChoice, RouteStays, WantedRouteStays, with_link, NoShortCut, LinkAdded}
use Rattle.auction.proofs.Good.{good}
use Rattle.auction.proofs.Stability.{same_choice, route_stays, wanted_route_stays, one_more, new_link, link_added}
use Rattle.collector.specs.Exchanged.{exchanged_arc, exchanged, ExchangedIsTable}
use Rattle.collector.specs.Promises.{walk_from}
use Rattle.collector.specs.Plan.{collected}
use Rattle.collector.specs.Stability.{SameRouteIn, RouteStaysIn, SenderRouteStays, SameChoiceIn, NoShortCutIn, LinkAddedIn}
use Rattle.collector.proofs.Exchange.{exchanged_is_table, count_kept, length_kept, tail_there, head_there, turned_length}
use Rattle.collector.proofs.Promised.{end_there, walks_in, walks_out, lengths_out}

good_there : (t : Table) (ss : List ℕ) → is_table t ss ≡ true → is_table (exchanged t) ss ≡ true
unfolding ExchangedIsTable
good_there t ss e = exchanged_is_table t ss ∙ e

module _ {t t' : Table} where
  turned_route : {a b : Answer} {v : ℕ} → SameRoute (exchanged t) a (exchanged t') b v → SameRouteIn t a t' b v
  unfolding walk_from
  turned_route s = record { distance = s.distance; link = s.link; walk = ap reverse s.walk }

  lengthened : Lengthened t t' → Lengthened (exchanged t) (exchanged t')
  unfolding exchanged table
  lengthened l =
      let here : (i : ℕ) → i < arc_count (exchanged t) → i < arc_count t = λ i h. omega (arith, h, count_kept t) in
      record {
        nodes = l.nodes;
        origin = l.origin;
        arcs = omega (arith, count_kept t, count_kept t', l.arcs);
        tails = λ i h. tail_there t' i ∙ l.heads i (here i h) ∙ sym (tail_there t i);
        heads = λ i h. head_there t' i ∙ l.tails i (here i h) ∙ sym (head_there t i);
        longer = λ i h. omega (arith, length_kept t i, length_kept t' i, l.longer i (here i h));
      }

-- a walk that is as long as it was is so there too
as_long_there : (t t' : Table) (a : Answer) (v : ℕ) → walk_length t' (walk_from t a v) ≡ walk_length t (walk_from t a v) →
    walk_length (exchanged t') (walk_of (exchanged t) a v) ≡ walk_length (exchanged t) (walk_of (exchanged t) a v)
unfolding walk_from
as_long_there t t' a v e = let is = walk_of (exchanged t) a v in turned_length t' is ∙ e ∙ sym (turned_length t is)

pub route_stays_in : RouteStaysIn
unfolding RouteStaysIn RouteStays collected
route_stays_in t t' ss ss' v e e' l h h' s =
    turned_route
    (route_stays (exchanged t) (exchanged t') ss ss' v (good_there t ss e) (good_there t' ss' e') (lengthened l) h h'
    (as_long_there t t' (collected t ss) v s))

pub sender_route_stays : SenderRouteStays
unfolding SenderRouteStays WantedRouteStays collected
sender_route_stays t t' ss ss' k e e' l h low s =
    let r =
    wanted_route_stays (exchanged t) (exchanged t') ss ss' k (good_there t ss e) (good_there t' ss' e') (lengthened l) h low
    (as_long_there t t' (collected t ss) (get_or ss' k 0) s) in
    (r.0, turned_route r.1)

pub same_choice_in : SameChoiceIn
unfolding SameChoiceIn SameChoice collected
same_choice_in t ss ss' v e e' h h' = turned_route (same_choice (exchanged t) ss ss' v (good_there t ss e) (good_there t ss' e') h h')

-- A LINK AT THE END
added_there : (t : Table) (a : Arc) → exchanged (with_link t a) ≡ with_link (exchanged t) (exchanged_arc a)
unfolding exchanged with_link table
added_there t a = ap (λ (l : List Arc). table t.n t.origin l) (map-append exchanged_arc t.arcs (a ∷ []))

no_short_cut : (t : Table) (a : Arc) (ss ss' : List ℕ) → is_table t ss ≡ true → is_table (with_link t a) ss' ≡ true → NoShortCutIn t a →
    NoShortCut (exchanged t) (exchanged_arc a)
unfolding NoShortCut NoShortCutIn exchanged_arc arc present with_link table
no_short_cut t a ss ss' e e' c up walk to_tail =
    let g = good (with_link t a) ss' e' in
    let near : a.tail < t.n = omega (arith, g.end_in (arc_count t) (omega (arith, one_more t a)), (new_link t a).0) in
    let far = end_there t ss e walk a.head to_tail in
    let r = c up (reverse walk) (sym (walks_in t ss e a.head far walk) ∙ to_tail) in
    (reverse r.0, walks_out t ss e a.tail near r.0 ∙ r.1, omega (arith, r.2, lengths_out t ss e a.tail near r.0, turned_length t walk))

pub link_added_in : LinkAddedIn
unfolding LinkAddedIn LinkAdded collected
link_added_in t a ss ss' v e e' c h h' =
    let there = added_there t a in
    turned_route
    (subst (λ (x : Table). SameRoute (exchanged t) (routes_of (exchanged t) ss) x (routes_of x ss') v) (sym there)
    (link_added (exchanged t) (exchanged_arc a) ss ss' v (good_there t ss e)
    (subst (λ (x : Table). is_table x ss' ≡ true) there (good_there (with_link t a) ss' e')) (no_short_cut t a ss ss' e e' c) h
    (subst (λ (x : Table). Given (routes_of x ss') v) there h')))

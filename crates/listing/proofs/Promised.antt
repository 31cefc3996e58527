-- The promises of specs/Promises.antt, each proved under its own name in small letters. Assumes nothing.
use mathlib.Core.Path.{sym, ap, subst, ◌∙◌}
use mathlib.Core.List.{List, reverse}
use Prim.Native.Nat.{ℕ}
use Rattle.table.specs.Table.{Table, table, table_of, is_walk}
use Rattle.auction.specs.HandOver.{Answer, handed_over, tree}
use Rattle.auction.specs.Plan.{plan, routes_of}
use Rattle.auction.specs.Promises.{last_state, route, WalkShortest}
use Rattle.auction.specs.Demands.{Given, walk_of}
use Rattle.auction.proofs.Good.{good}
use Rattle.auction.proofs.Back.{walk_end}
use Rattle.auction.proofs.Made.{made}
use Rattle.auction.proofs.Sums.{entries_length}
use Rattle.auction.proofs.Promised.{walk_shortest}
use Rattle.auction.proofs.Demanded.{given_reached}
use Rattle.collector.specs.Exchanged.{exchanged, ExchangedColumns}
use Rattle.collector.specs.Plan.{plan_to_collector}
use Rattle.collector.specs.Promises.{walk_from, CollectorServed}
use Rattle.collector.proofs.Exchange.{exchanged_columns}
use Rattle.collector.proofs.Promised.{good_here, collector_served}
use Rattle.listing.specs.Listing.{tree_in}
use Rattle.listing.specs.Promises.{RoutesListed, PlansListed, SendersListed, Gives, GivesIn, nodes_of_walk}
use Rattle.listing.proofs.Listable.{walk_listed}
use Rattle.listing.proofs.Senders.{nodes_turned, turned_gives}

-- the walk returned ends at a node and has fewer than n arcs
pub routes_listed : RoutesListed
unfolding WalkShortest RoutesListed routes_of handed_over last_state walk_of route tree table_of table is_walk
routes_listed n o tails heads lengths wanted v e f table_good given =
    let t = table_of n o tails heads lengths in
    let g = good t wanted table_good in
    let s = walk_shortest t wanted v table_good (given_reached t wanted table_good v given) in
    walk_listed n o tails heads lengths (tree t (last_state t wanted)) e f (entries_length n 0 _) wanted v table_good
    (walk_end t g (route t wanted v) v s.walk) s.walk s.short

-- an answer 0 or 8 is the auction's
pub plans_listed : PlansListed
unfolding PlansListed RoutesListed
plans_listed n o tails heads lengths wanted distances prices tree marks v fits number given =
    let t = table_of n o tails heads lengths in
    let m = made n o tails heads lengths wanted distances prices tree marks fits number in
    let fine = m.fine in
    subst (λ (a : Answer). Gives o v (tree_in tails heads a.tree) (nodes_of_walk t (walk_of t a v))) (sym m.routes)
    (routes_listed n o tails heads lengths wanted v fine.heads_count fine.lengths_count fine.table_good
    (subst (λ (a : Answer). Given a v) m.routes given))

-- a plan to a collector is the plan of the exchanged table
pub senders_listed : SendersListed
unfolding SendersListed PlansListed CollectorServed ExchangedColumns plan_to_collector walk_from
senders_listed n c tails heads lengths senders distances prices tree marks v fits number given =
    let t = table_of n c tails heads lengths in
    let x = table_of n c heads tails lengths in
    let a = plan n c heads tails lengths senders distances prices tree marks in
    let same = exchanged_columns n c tails heads lengths in
    let here = good_here n c tails heads lengths senders (made n c heads tails lengths senders distances prices tree marks fits number).fine.table_good in
    let walk = (collector_served n c tails heads lengths senders distances prices tree marks fits number).planned.walk v given in
    subst (λ (vs : List ℕ). GivesIn c v (tree_in tails heads a.tree) vs)
    (ap (λ (y : Table). reverse (nodes_of_walk y (walk_of y a v))) same
    ∙ nodes_turned t (good t senders here) (walk_of (exchanged t) a v) v walk)
    (turned_gives c v (tree_in tails heads a.tree) (nodes_of_walk x (walk_of x a v))
    (plans_listed n c heads tails lengths senders distances prices tree marks v fits number given))

-- The promises of specs/Promises.antt, each proved under its own name in small letters. Assumes nothing.
use mathlib.Core.Path.{sym, subst, ◌∙◌}
use native.Mathlib.Omega.{arith}
use Rattle.table.specs.Table.{table, table_of, is_walk}
use Rattle.table.proofs.Basics.{some_none}
use Rattle.auction.specs.HandOver.{Answer}
use Rattle.auction.specs.Plan.{plan}
use Rattle.auction.specs.Demands.{Demands, DemandsMet, walk_of}
use Rattle.auction.proofs.Good.{good}
use Rattle.auction.proofs.Back.{walk_end}
use Rattle.auction.proofs.Made.{made}
use Rattle.auction.proofs.Demanded.{demands_met}
use Rattle.collector.specs.Plan.{plan_to_collector}
use Rattle.collector.specs.Promises.{is_walk_in, walk_from, CollectorServed}
use Rattle.collector.proofs.Promised.{end_there, good_here, collector_served}
use Rattle.listing.specs.Listing.{tree_in, listing}
use Rattle.listing.specs.Collecting.{turned_round, listing_to_collector}
use Rattle.listing.specs.Promises.{nodes_of_walk, nodes_from, PlansListed, SendersListed}
use Rattle.listing.proofs.Promised.{plans_listed, senders_listed}
use Rattle.listing.proofs.Given.{listed_given, only_listed}
use Rattle.keeping.specs.Promises.{TotalIsLeast, NoTotalNoWalk, TotalsWithoutAbsent, KeptWithoutAbsent, KeptIsShort, KeepRefusals, Beside, StandingKept, StandingKeptIn}
use Rattle.keeping.proofs.Totals.{has_total, least_through}
use Rattle.keeping.proofs.Absent.{same_total, same_choice}
use Rattle.keeping.proofs.Outcomes.{short, refused}
use Rattle.keeping.proofs.Beside.{beside_walk}

pub total_is_least : TotalIsLeast
unfolding TotalIsLeast
total_is_least = least_through

pub no_total_no_walk : NoTotalNoWalk
unfolding NoTotalNoWalk
no_total_no_walk t vs low e walk x = some_none (has_total t vs walk low x).1 e

pub totals_without_absent : TotalsWithoutAbsent
unfolding TotalsWithoutAbsent
totals_without_absent = same_total

pub kept_without_absent : KeptWithoutAbsent
unfolding KeptWithoutAbsent
kept_without_absent = same_choice

pub kept_is_short : KeptIsShort
unfolding KeptIsShort
kept_is_short = short

pub keep_refusals : KeepRefusals
unfolding KeepRefusals
keep_refusals = refused

-- what is listed of a plan are the nodes of the walk that the node was given, and no walk is shorter
pub standing_kept : StandingKept
unfolding StandingKept PlansListed DemandsMet nodes_of_walk nodes_from is_walk table_of table
standing_kept n o ts hs ls ws ds ps tr ms v room low number z =
    let t = table_of n o ts hs ls in
    let a = plan n o ts hs ls ws ds ps tr ms in
    let m = made n o ts hs ls ws ds ps tr ms low number in
    let ok = m.fine.table_good in
    let g = good t ws ok in
    let d = subst (λ (b : Answer). Demands t ws b) (sym m.routes) (demands_met t ws ok) in
    let given = listed_given n o ts hs ls ws ds ps tr ms v room low number z in
    let gives = plans_listed n o ts hs ls ws ds ps tr ms v low number given in
    subst (Beside n ts hs ls o v) (sym (only_listed (listing o v (tree_in ts hs a.tree)) _ gives.roomy gives.short room z))
    (beside_walk n o ts hs ls ws ok o v g.origin_in (walk_end t g (walk_of t a v) v (d.walk v given)) m.fine.heads_count m.fine.lengths_count
    (walk_of t a v) (d.walk v given) (λ other w. omega (arith, d.as_long v given, d.least v given other w)))

-- the same of a plan to a collector: its table has the collector for its origin
pub standing_kept_in : StandingKeptIn
unfolding StandingKeptIn SendersListed CollectorServed plan_to_collector listing_to_collector turned_round is_walk_in table_of table
standing_kept_in n c ts hs ls ss ds ps tr ms v room low number z =
    let t = table_of n c ts hs ls in
    let a = plan n c hs ts ls ss ds ps tr ms in
    let fine = (made n c hs ts ls ss ds ps tr ms low number).fine in
    let ok = good_here n c ts hs ls ss fine.table_good in
    let d = collector_served n c ts hs ls ss ds ps tr ms low number in
    let given = listed_given n c hs ts ls ss ds ps tr ms v room low number z in
    let gives = senders_listed n c ts hs ls ss ds ps tr ms v low number given in
    subst (Beside n ts hs ls v c) (sym (only_listed (listing_to_collector c v (tree_in ts hs a.tree)) _ gives.roomy gives.short room z))
    (beside_walk n c ts hs ls ss ok v c (end_there t ss ok _ v (d.planned.walk v given)) (good t ss ok).origin_in (sym fine.heads_count)
    (fine.heads_count ∙ fine.lengths_count) (walk_from t a v) (d.walk v given) (λ other w. omega (arith, d.as_long v given, d.least v given other w)))

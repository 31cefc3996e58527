-- The largest bound of the nodes that were reached. Assumes nothing.
use mathlib.Core.Path.{◌≡◌, sym, ap, ◌∙◌}
use Prim.Native.Nat.{max}
use lib.ListN.{length}
use Rattle.std.proofs.Common.{rules, tests, map}
use Rattle.std.specs.List.{reduce, filter}
use Rattle.std.specs.Option.{unwrap_or}
use Rattle.std.proofs.lemmas.Iterator.{YieldsList-from_slice, YieldsList-from_map}
use Rattle.std.proofs.lemmas.Iterator.Adapters.{option_map_id}
use Rattle.std.proofs.lemmas.Iterator.Consumers.{YieldsList-at, YieldsList-from_filter, max_from_yields_List}
use Rattle.auction.specs.HandOver.{entries, greatest}
use Rattle.hand_over.proofs.Handing.{is_reached, distance_entry, largest_reached, horizon_so, below_horizon}
use Rattle.hand_over.proofs.horizon_of.Goals as goal
use Rattle.hand_over.proofs.horizon_of.Goals.{After-unwrap_or}

-- the chain yields these bounds
all : (c : After-unwrap_or) → c.unwrap_or.result ≡ greatest (entries (length c.args.nodes.now) 0 (distance_entry 0 c.args.nodes.now))
all c =
    let ns = c.args.nodes.now in
    let most : c.max.result ≡ reduce max (map (λ n. n.bound) (filter is_reached ns)) =
    sym (option_map_id _) ∙ max_from_yields_List _ _ c.max.ensures.ran
    (YieldsList-from_map _ _
    (YieldsList-at c.map.ensures.source
    (YieldsList-from_filter _ _
    (YieldsList-at c.filter.ensures.source (YieldsList-from_slice ns cc)) c.filter.ensures.closure (λ x r q k. search (rules, tests))))
    c.map.ensures.closure (λ x r q k. search rules)) in
    c.unwrap_or.ensures ∙ ap (λ o. unwrap_or o 0) most ∙ largest_reached ns

pub returns-clause-so : goal.returns-clause-so
returns-clause-so c = λ t path price g e.
    all (goal.at.returns-clause-so c).After-unwrap_or ∙ horizon_so c.args.nodes.now path price g c.requires t e

pub returns-clause-above : goal.returns-clause-above
returns-clause-above c = below_horizon c.args.nodes.now _ (all (goal.at.returns-clause-above c).After-unwrap_or)

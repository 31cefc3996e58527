-- WHAT STAYS WHERE IT IS on the way to a collector when the senders or the table change: promises on two plans, as those of
-- crates/auction/specs/Stability.antt are on two plans from an origin, said of the walks from a node to the collector. Each promise is a type; its proof, by
-- the same name in small letters, stands in proofs/Stability.antt. Assumes nothing.
use Rattle.std.specs.Prelude.{◌≡◌, true, List, ℕ, ◌+◌, ◌≤◌, ◌<◌, length, get_or}
use Rattle.table.specs.Table.{Arc, Table, is_table, walk_length, present}
use Rattle.auction.specs.HandOver.{Answer}
use Rattle.auction.specs.Demands.{distance_of, link_of, Given}
use Rattle.auction.specs.Stability.{Lengthened, with_link}
use Rattle.collector.specs.Plan.{collected}
use Rattle.collector.specs.Promises.{is_walk_in, walk_from}

-- a node has the same route to the collector in two plans
pub record SameRouteIn (t : Table) (a : Answer) (t' : Table) (b : Answer) (v : ℕ) : Type 0 where
  pub distance : distance_of b v ≡ distance_of a v
  pub link : link_of b v ≡ link_of a v
  pub walk : walk_from t' b v ≡ walk_from t a v

-- A ROUTE STAYS WHILE NOTHING SHORTER EXISTS. Some links have become longer or gone down, none shorter, and the walk given to a node is still as long as it
-- was. Then the node's distance, link and walk are the same, whatever the other links did and whoever else sends.
unfoldable pub RouteStaysIn : Type 0
RouteStaysIn =
    (t t' : Table) (ss ss' : List ℕ) (v : ℕ) → is_table t ss ≡ true → is_table t' ss' ≡ true → Lengthened t t' →
    Given (collected t ss) v → Given (collected t' ss') v →
    walk_length t' (walk_from t (collected t ss) v) ≡ walk_length t (walk_from t (collected t ss) v) →
    SameRouteIn t (collected t ss) t' (collected t' ss') v

-- And if such a node is a sender afterwards, it is given a walk, and so that one.
unfoldable pub SenderRouteStays : Type 0
SenderRouteStays =
    (t t' : Table) (ss ss' : List ℕ) (k : ℕ) → is_table t ss ≡ true → is_table t' ss' ≡ true → Lengthened t t' →
    Given (collected t ss) (get_or ss' k 0) → k < length ss' →
    walk_length t' (walk_from t (collected t ss) (get_or ss' k 0)) ≡ walk_length t (walk_from t (collected t ss) (get_or ss' k 0)) →
    Given (collected t' ss') (get_or ss' k 0) × SameRouteIn t (collected t ss) t' (collected t' ss') (get_or ss' k 0)

-- A SPARE CHOOSES AS THE OLD UNIT DID, whoever else sends: the case of `RouteStaysIn` in which no link has changed.
unfoldable pub SameChoiceIn : Type 0
SameChoiceIn =
    (t : Table) (ss ss' : List ℕ) (v : ℕ) → is_table t ss ≡ true → is_table t ss' ≡ true →
    Given (collected t ss) v → Given (collected t ss') v → SameRouteIn t (collected t ss) t (collected t ss') v

-- the link is no short cut: it is absent, or where a walk leads from its far end to the collector, some walk leads there from its near end that is no longer
-- than the link and the first together
unfoldable pub NoShortCutIn : Table → Arc → Type 0
NoShortCutIn t a =
    present a ≡ true → (walk : List ℕ) → is_walk_in t walk a.head ≡ true →
    (other : List ℕ) × (is_walk_in t other a.tail ≡ true) × (walk_length t other ≤ a.arc_length + walk_length t walk)

-- A LINK ADDED AT THE END. Where it is no short cut, every node that is given a walk with it and without it keeps its distance, its link and its walk.
unfoldable pub LinkAddedIn : Type 0
LinkAddedIn =
    (t : Table) (a : Arc) (ss ss' : List ℕ) (v : ℕ) → is_table t ss ≡ true → is_table (with_link t a) ss' ≡ true → NoShortCutIn t a →
    Given (collected t ss) v → Given (collected (with_link t a) ss') v →
    SameRouteIn t (collected t ss) (with_link t a) (collected (with_link t a) ss') v

-- WHAT STAYS WHERE IT IS when the wanted list or the table changes: promises on two plans, said of what they hand over. Assumes nothing.
--
-- A node's distance is the least that the table allows, and its link the earliest listed of those that attain it. So a route moves only for a reason
-- that stands in the table, and never by chance.
use Rattle.std.specs.Prelude.{◌≡◌, true, List, [], ◌∷◌, ◌++◌, ℕ, ◌+◌, ◌≤◌, ◌<◌, length, get_or}
use Rattle.table.specs.Table.{Arc, Table, table, is_table, is_walk, walk_length, arc_count, arc_at, present, head_at, length_at}
use Rattle.auction.specs.HandOver.{Answer}
use Rattle.auction.specs.Plan.{routes_of}
use Rattle.auction.specs.Demands.{distance_of, link_of, walk_of, Given}

-- a node has the same route in two plans
pub record SameRoute (t : Table) (a : Answer) (t' : Table) (b : Answer) (v : ℕ) : Type 0 where
  pub distance : distance_of b v ≡ distance_of a v
  pub link : link_of b v ≡ link_of a v
  pub walk : walk_of t' b v ≡ walk_of t a v

-- A SPARE CHOOSES AS THE OLD UNIT DID. What is wanted does not move a route: for two wanted lists of one table, a node that is given a walk in both
-- plans has the same distance, the same link and the same walk in both.
unfoldable pub SameChoice : Type 0
SameChoice =
    (t : Table) (ws ws' : List ℕ) (v : ℕ) → is_table t ws ≡ true → is_table t ws' ≡ true →
    Given (routes_of t ws) v → Given (routes_of t ws') v → SameRoute t (routes_of t ws) t (routes_of t ws') v

-- the second table is the first after some of its links have become longer, as where a hot port reports it, or have gone down
pub record Lengthened (t t' : Table) : Type 0 where
  pub nodes : t'.n ≡ t.n
  pub origin : t'.origin ≡ t.origin
  pub arcs : arc_count t' ≡ arc_count t
  pub tails : (i : ℕ) → i < arc_count t → (arc_at t' i).tail ≡ (arc_at t i).tail
  pub heads : (i : ℕ) → i < arc_count t → head_at t' i ≡ head_at t i
  pub longer : (i : ℕ) → i < arc_count t → length_at t i ≤ length_at t' i

-- A ROUTE STAYS WHILE NOTHING SHORTER EXISTS. Some links have become longer or gone down, none shorter, and the walk returned to a node is still as
-- long as it was. Then the node's distance, link and walk are the same, whatever the other links did and whatever else is wanted.
unfoldable pub RouteStays : Type 0
RouteStays =
    (t t' : Table) (ws ws' : List ℕ) (v : ℕ) → is_table t ws ≡ true → is_table t' ws' ≡ true → Lengthened t t' →
    Given (routes_of t ws) v → Given (routes_of t' ws') v →
    walk_length t' (walk_of t (routes_of t ws) v) ≡ walk_length t (walk_of t (routes_of t ws) v) →
    SameRoute t (routes_of t ws) t' (routes_of t' ws') v

-- And if such a node is wanted afterwards, it is given a walk, and so that one.
unfoldable pub WantedRouteStays : Type 0
WantedRouteStays =
    (t t' : Table) (ws ws' : List ℕ) (k : ℕ) → is_table t ws ≡ true → is_table t' ws' ≡ true → Lengthened t t' →
    Given (routes_of t ws) (get_or ws' k 0) → k < length ws' →
    walk_length t' (walk_of t (routes_of t ws) (get_or ws' k 0)) ≡ walk_length t (walk_of t (routes_of t ws) (get_or ws' k 0)) →
    Given (routes_of t' ws') (get_or ws' k 0) × SameRoute t (routes_of t ws) t' (routes_of t' ws') (get_or ws' k 0)

-- the table with one more link at its end
unfoldable pub with_link : Table → Arc → Table
with_link t a = table t.n t.origin (t.arcs ++ (a ∷ []))

-- the link is no short cut: it is absent, or where a walk leads to its near end, some walk leads to its far end that is no longer than the first and the
-- link together
unfoldable pub NoShortCut : Table → Arc → Type 0
NoShortCut t a =
    present a ≡ true → (walk : List ℕ) → is_walk t walk a.tail ≡ true →
    (other : List ℕ) × (is_walk t other a.head ≡ true) × (walk_length t other ≤ walk_length t walk + a.arc_length)

-- A LINK ADDED AT THE END. Where it is no short cut, every node that is given a walk with it and without it keeps its distance, its link and its walk.
unfoldable pub LinkAdded : Type 0
LinkAdded =
    (t : Table) (a : Arc) (ws ws' : List ℕ) (v : ℕ) → is_table t ws ≡ true → is_table (with_link t a) ws' ≡ true → NoShortCut t a →
    Given (routes_of t ws) v → Given (routes_of (with_link t a) ws') v →
    SameRoute t (routes_of t ws) (with_link t a) (routes_of (with_link t a) ws') v

-- ALL OF THEM together: the one theorem `stability` of proofs/Stability.antt
pub record Stability : Type 0 where
  pub same_choice : SameChoice
  pub route_stays : RouteStays
  pub wanted_route_stays : WantedRouteStays
  pub link_added : LinkAdded

-- What is promised of listing the paths of a finished plan. Each promise is a type; its proof, by the same name in small letters, stands in
-- proofs/Promised.antt. Assumes nothing.
use Rattle.std.specs.Prelude.{◌≡◌, true, List, [], ◌∷◌, ◌⊎◌, ℕ, ◌^◌, ◌≤◌, ◌<◌, length}
use Rattle.table.specs.Table.{Table, table_of, is_table, head_at, Below}
use Rattle.auction.specs.Plan.{plan, routes_of}
use Rattle.auction.specs.Demands.{Given, walk_of}
use Rattle.collector.specs.Plan.{plan_to_collector}
use Rattle.collector.specs.Promises.{walk_from}
use Rattle.listing.specs.Listing.{Tree, tree_in, node_count, refused, listed, listing}
use Rattle.listing.specs.Collecting.{listing_to_collector}

-- the heads of a walk's arcs
unfoldable pub heads_along : Table → (walk : List ℕ) → List ℕ
heads_along t [] = []
heads_along t (i ∷ is) = head_at t i ∷ heads_along t is

-- the nodes of a walk from the origin: the origin, and then each arc's head
unfoldable pub nodes_of_walk : Table → (walk : List ℕ) → List ℕ
nodes_of_walk t is = t.origin ∷ heads_along t is

-- From a tree column, listing a node gives these nodes wherever the out buffer has room for them, and is refused by 13 where it has not. A buffer
-- of n entries always has room.
pub record Gives (origin node : ℕ) (k : Tree) (nodes : List ℕ) : Type 0 where
  pub within : length nodes ≤ node_count k
  pub roomy : (room : ℕ) → length nodes ≤ room → listing origin node k room ≡ listed nodes
  pub short : (room : ℕ) → room < length nodes → listing origin node k room ≡ refused 13

-- On the tree buffer of a finished plan each node that was given a walk lists, and gives the nodes of that walk.
unfoldable pub RoutesListed : Type 0
RoutesListed =
    (n o : ℕ) (tails heads lengths wanted : List ℕ) (v : ℕ) →
    let t = table_of n o tails heads lengths in
    let a = routes_of t wanted in
    length tails ≡ length heads → length heads ≡ length lengths → is_table t wanted ≡ true → Given a v →
    Gives o v (tree_in tails heads a.tree) (nodes_of_walk t (walk_of t a v))

-- The same of every plan whose answer is 0 or 8, whatever buffers were lent for it. `Below` is what the length column's type says.
unfoldable pub PlansListed : Type 0
PlansListed =
    (n o : ℕ) (tails heads lengths wanted distances prices tree marks : List ℕ) (v : ℕ) →
    let t = table_of n o tails heads lengths in
    let a = plan n o tails heads lengths wanted distances prices tree marks in
    Below (2 ^ 32) lengths → (a.number ≡ 0) ⊎ (a.number ≡ 8) → Given a v → Gives o v (tree_in tails heads a.tree) (nodes_of_walk t (walk_of t a v))

-- TO A COLLECTOR

-- the nodes of a walk from a node: the node, and then each arc's head
unfoldable pub nodes_from : Table → (v : ℕ) → (walk : List ℕ) → List ℕ
nodes_from t v is = v ∷ heads_along t is

-- The same as `Gives`, of listing to a collector.
pub record GivesIn (collector node : ℕ) (k : Tree) (nodes : List ℕ) : Type 0 where
  pub within : length nodes ≤ node_count k
  pub roomy : (room : ℕ) → length nodes ≤ room → listing_to_collector collector node k room ≡ listed nodes
  pub short : (room : ℕ) → room < length nodes → listing_to_collector collector node k room ≡ refused 13

-- On the tree buffer of every plan to a collector whose answer is 0 or 8 each node that was given a walk lists, and gives the nodes of that walk, from the
-- node to the collector.
unfoldable pub SendersListed : Type 0
SendersListed =
    (n c : ℕ) (tails heads lengths senders distances prices tree marks : List ℕ) (v : ℕ) →
    let t = table_of n c tails heads lengths in
    let a = plan_to_collector n c tails heads lengths senders distances prices tree marks in
    Below (2 ^ 32) lengths → (a.number ≡ 0) ⊎ (a.number ≡ 8) → Given a v → GivesIn c v (tree_in tails heads a.tree) (nodes_from t v (walk_from t a v))

-- What is promised of keeping a path, said of the table, of walks and of the list that is given. Each promise is a type; its proof, by the same name in small
-- letters, stands in proofs/Promised.antt. Assumes nothing.
use Rattle.std.specs.Prelude.{◌≡◌, true, List, [], ◌⊎◌, ℕ, ◌^◌, ◌≤◌, length}
use Rattle.std.proofs.Math.Option.{none, some}
use Rattle.table.specs.Table.{Table, is_table, leads, walk_length, nodes_below, most_nodes, Below}
use Rattle.auction.specs.Absent.{without_absent}
use Rattle.auction.specs.Plan.{plan}
use Rattle.collector.specs.Plan.{plan_to_collector}
use Rattle.listing.specs.Listing.{tree_in, listing}
use Rattle.listing.specs.Collecting.{listing_to_collector}
use Rattle.listing.specs.Promises.{nodes_from}
use Rattle.keeping.specs.declared.Kept.{Kept}
use Rattle.keeping.specs.Keeping.{total, lent_total, first_node, last_node, table_in, fresh_refusal, choice, keep, given}

-- A WALK THROUGH A LIST: these arcs lead from the list's first node to its last, and the nodes on the way are the list's.
pub record Through (t : Table) (walk vs : List ℕ) : Type 0 where
  pub leads_on : leads t (first_node vs) walk (last_node vs) ≡ true
  pub nodes : nodes_from t (first_node vs) walk ≡ vs

-- A TOTAL IS THE LEAST over the walks through just these nodes: some such walk is as long, and none is shorter.
pub record LeastThrough (t : Table) (vs : List ℕ) (d : ℕ) : Type 0 where
  pub below : nodes_below t.n vs ≡ true
  pub walk : List ℕ
  pub through : Through t walk vs
  pub as_long : walk_length t walk ≡ d
  pub least : (other : List ℕ) → Through t other vs → d ≤ walk_length t other

unfoldable pub TotalIsLeast : Type 0
TotalIsLeast = (t : Table) (vs : List ℕ) (d : ℕ) → total t vs ≡ some d → LeastThrough t vs d

-- A list of nodes without a total has no walk through it.
unfoldable pub NoTotalNoWalk : Type 0
NoTotalNoWalk = (t : Table) (vs : List ℕ) → nodes_below t.n vs ≡ true → total t vs ≡ none → (walk : List ℕ) → Through t walk vs → ⊥

-- LINKS THAT ARE DOWN. A list has the total that it has in the table without its absent arcs,
unfoldable pub TotalsWithoutAbsent : Type 0
TotalsWithoutAbsent = (t : Table) (wanted vs : List ℕ) → is_table t wanted ≡ true → total (without_absent t) vs ≡ total t vs

-- and so the same fresh lists are refused, and the same list is kept.
unfoldable pub KeptWithoutAbsent : Type 0
KeptWithoutAbsent =
    (t : Table) (wanted standing fresh : List ℕ) → is_table t wanted ≡ true →
    (fresh_refusal (lent_total (without_absent t) fresh) ≡ fresh_refusal (lent_total t fresh))
    × (choice (without_absent t) standing fresh ≡ choice t standing fresh)

-- NUMBER 0: one of the two lists is given, whole; it is a walk between the same two nodes as the fresh one, and no longer.
pub record KeptShort (t : Table) (standing fresh list : List ℕ) (k : Kept) : Type 0 where
  pub one_of : ((k.standing ≡ 1) × (list ≡ standing)) ⊎ ((k.standing ≡ 0) × (list ≡ fresh))
  pub few : length list ≤ most_nodes
  pub begins : first_node list ≡ first_node fresh
  pub ends : last_node list ≡ last_node fresh
  pub fresh_total : ℕ
  pub fresh_walk : total t fresh ≡ some fresh_total
  pub list_total : ℕ
  pub walk : total t list ≡ some list_total
  pub no_longer : list_total ≤ fresh_total
  -- It is the standing list wherever all of that holds of the standing list, also where it is just as long.
  pub standing_stays : length standing ≤ most_nodes → first_node standing ≡ first_node fresh → last_node standing ≡ last_node fresh → (d : ℕ) →
      total t standing ≡ some d → d ≤ fresh_total → k.standing ≡ 1

unfoldable pub KeptIsShort : Type 0
KeptIsShort =
    (n : ℕ) (tails heads lengths standing fresh : List ℕ) →
    let k = keep n tails heads lengths standing fresh in
    k.number ≡ 0 → KeptShort (table_in n tails heads lengths) standing fresh (given k standing fresh) k

-- ANY OTHER NUMBER is 1, 2, 6, 7 or 15, and no node is given.
pub record KeepRefused (n : ℕ) (tails heads lengths fresh list : List ℕ) (k : Kept) : Type 0 where
  pub numbers : (k.number ≡ 1) ⊎ (k.number ≡ 2) ⊎ (k.number ≡ 6) ⊎ (k.number ≡ 7) ⊎ (k.number ≡ 15)
  pub nothing : (list ≡ []) × (k.standing ≡ 0) × (k.count ≡ 0)
  -- All but 15 are the table's: a plan of it from node 0 without wanted nodes has this number and this place, whatever buffers are lent that fit.
  pub as_planned : (k.number ≡ 15 → ⊥) → (distances prices tree marks : List ℕ) →
      length distances ≡ n → length prices ≡ n → length tree ≡ n → length marks ≡ length tails →
      let a = plan n 0 tails heads lengths [] distances prices tree marks in (k.number ≡ a.number) × (k.place ≡ a.place)
  -- 15 says that the fresh list has too many nodes or is no walk.
  pub no_walk : k.number ≡ 15 → (lent_total (table_in n tails heads lengths) fresh ≡ none) × (k.place ≡ 0)

unfoldable pub KeepRefusals : Type 0
KeepRefusals =
    (n : ℕ) (tails heads lengths standing fresh : List ℕ) →
    let k = keep n tails heads lengths standing fresh in
    (k.number ≡ 0 → ⊥) → KeepRefused n tails heads lengths fresh (given k standing fresh) k

-- A SHORTEST PATH as a list of nodes: it is a walk from u to v, and no walk between them is shorter.
pub record Shortest (t : Table) (u v : ℕ) (vs : List ℕ) : Type 0 where
  pub begins : first_node vs ≡ u
  pub ends : last_node vs ≡ v
  pub length_of : ℕ
  pub walk : total t vs ≡ some length_of
  pub least : (other : List ℕ) → leads t u other v ≡ true → length_of ≤ walk_length t other

-- BESIDE A FRESH LIST FROM u TO v
pub record Beside (n : ℕ) (tails heads lengths : List ℕ) (u v : ℕ) (fresh : List ℕ) : Type 0 where
  -- Nothing is refused.
  pub accepted : (standing : List ℕ) → (keep n tails heads lengths standing fresh).number ≡ 0
  -- What is given is as short as any walk from u to v.
  pub short : (standing : List ℕ) →
      Shortest (table_in n tails heads lengths) u v (given (keep n tails heads lengths standing fresh) standing fresh)
  -- A standing list is kept exactly when it is still a walk from u to v and no walk between them is shorter, whatever else changed in the table.
  pub kept : (standing : List ℕ) → Shortest (table_in n tails heads lengths) u v standing → (keep n tails heads lengths standing fresh).standing ≡ 1
  pub only_so : (standing : List ℕ) → (keep n tails heads lengths standing fresh).standing ≡ 1 → Shortest (table_in n tails heads lengths) u v standing

-- THE STANDING PATH STAYS WHILE NOTHING SHORTER EXISTS: all of that holds of every list that list_path gives of a plan whose answer is 0 or 8. `Below` is
-- what the length column's type says.
unfoldable pub StandingKept : Type 0
StandingKept =
    (n o : ℕ) (tails heads lengths wanted distances prices tree marks : List ℕ) (v room : ℕ) →
    let a = plan n o tails heads lengths wanted distances prices tree marks in
    let l = listing o v (tree_in tails heads a.tree) room in
    Below (2 ^ 32) lengths → (a.number ≡ 0) ⊎ (a.number ≡ 8) → l.number ≡ 0 → Beside n tails heads lengths o v l.nodes

-- And of every list that list_to_collector gives of a plan to a collector.
unfoldable pub StandingKeptIn : Type 0
StandingKeptIn =
    (n c : ℕ) (tails heads lengths senders distances prices tree marks : List ℕ) (v room : ℕ) →
    let a = plan_to_collector n c tails heads lengths senders distances prices tree marks in
    let l = listing_to_collector c v (tree_in tails heads a.tree) room in
    Below (2 ^ 32) lengths → (a.number ≡ 0) ⊎ (a.number ≡ 8) → l.number ≡ 0 → Beside n tails heads lengths v c l.nodes

-- Listings on document 01's table T, from its origin 0 and to the collector 3: the path that its program prints, each sender's, and an example of each
-- refusal. The proof, `examples`, stands in proofs/Examples.antt. Assumes nothing.
use Rattle.std.specs.Prelude.{◌≡◌, List, [], ◌∷◌, ℕ}
use Rattle.table.specs.Table.{no_arc}
use Rattle.listing.specs.Listing.{Tree, tree_in, refused, listed, listing}
use Rattle.listing.specs.Collecting.{listing_to_collector}

-- the arcs 0 to 1, 0 to 2, 1 to 2, 2 to 3 and 1 to 3, under a tree column
unfoldable pub on_T : (column : List ℕ) → Tree
on_T c = tree_in (0 ∷ 0 ∷ 1 ∷ 2 ∷ 1 ∷ []) (1 ∷ 2 ∷ 2 ∷ 3 ∷ 3 ∷ []) c

-- the tree column of T's plan, and one without an entry for node 1
unfoldable pub tree_of_T : Tree
tree_of_T = on_T (no_arc ∷ 0 ∷ 1 ∷ 3 ∷ [])

unfoldable pub cut : Tree
cut = on_T (no_arc ∷ no_arc ∷ 1 ∷ 3 ∷ [])

-- the tree column of T's plan to the collector 3
unfoldable pub tree_to_3 : Tree
tree_to_3 = on_T (0 ∷ 2 ∷ 3 ∷ no_arc ∷ [])

-- an arc each way between nodes 1 and 2: a cycle that the origin is not on
unfoldable pub cycle : Tree
cycle = tree_in (2 ∷ 1 ∷ []) (1 ∷ 2 ∷ []) (no_arc ∷ 0 ∷ 1 ∷ [])

-- the same cycle, with the arc out of each node as its entry
unfoldable pub cycle_on : Tree
cycle_on = tree_in (2 ∷ 1 ∷ []) (1 ∷ 2 ∷ []) (no_arc ∷ 1 ∷ 0 ∷ [])

pub record Examples : Type 0 where
  pub path_of_3 : listing 0 3 tree_of_T 4 ≡ listed (0 ∷ 2 ∷ 3 ∷ [])
  pub exact_room : listing 0 3 tree_of_T 3 ≡ listed (0 ∷ 2 ∷ 3 ∷ [])
  pub buffer_2 : listing 0 3 tree_of_T 2 ≡ refused 13
  pub all_nodes : listing 0 1 (tree_in (0 ∷ []) (1 ∷ []) (no_arc ∷ 0 ∷ [])) 2 ≡ listed (0 ∷ 1 ∷ [])
  pub the_origin : listing 0 0 tree_of_T 1 ≡ listed (0 ∷ [])
  pub no_entry : listing 0 1 cut 4 ≡ refused 14
  pub in_a_cycle : listing 0 1 cycle 4 ≡ refused 14
  pub in_a_cycle_and_no_room : listing 0 1 cycle 0 ≡ refused 14
  pub another_head : listing 0 1 (on_T (no_arc ∷ 1 ∷ 1 ∷ 3 ∷ [])) 4 ≡ refused 14
  pub tail_too_high : listing 0 1 (tree_in (2 ∷ []) (1 ∷ []) (no_arc ∷ 0 ∷ [])) 4 ≡ refused 14
  pub no_nodes : listing 0 0 (on_T []) 4 ≡ refused 1
  pub unequal_columns : listing 0 0 (tree_in (0 ∷ 0 ∷ []) (1 ∷ []) (no_arc ∷ 0 ∷ [])) 4 ≡ refused 2
  pub origin_too_high : listing 4 4 tree_of_T 4 ≡ refused 4
  pub node_too_high : listing 0 4 tree_of_T 4 ≡ refused 5
  -- to the collector: from each node
  pub from_0 : listing_to_collector 3 0 tree_to_3 4 ≡ listed (0 ∷ 1 ∷ 2 ∷ 3 ∷ [])
  pub from_1 : listing_to_collector 3 1 tree_to_3 4 ≡ listed (1 ∷ 2 ∷ 3 ∷ [])
  pub from_2 : listing_to_collector 3 2 tree_to_3 2 ≡ listed (2 ∷ 3 ∷ [])
  pub the_collector : listing_to_collector 3 3 tree_to_3 1 ≡ listed (3 ∷ [])
  pub buffer_3 : listing_to_collector 3 0 tree_to_3 3 ≡ refused 13
  -- no entry; an arc that leaves another node; one whose head is no node; one arc too many
  pub no_entry_on : listing_to_collector 3 0 (on_T (0 ∷ no_arc ∷ 3 ∷ no_arc ∷ [])) 4 ≡ refused 14
  pub another_tail : listing_to_collector 3 0 (on_T (2 ∷ 2 ∷ 3 ∷ no_arc ∷ [])) 4 ≡ refused 14
  pub head_too_high : listing_to_collector 1 0 (tree_in (0 ∷ []) (2 ∷ []) (0 ∷ no_arc ∷ [])) 4 ≡ refused 14
  pub in_a_cycle_on : listing_to_collector 0 1 cycle_on 4 ≡ refused 14
  pub in_a_cycle_on_and_no_room : listing_to_collector 0 1 cycle_on 0 ≡ refused 14
  -- the same arcs with the column of a plan from node 0, which leads into each node
  pub tree_from_0 : listing_to_collector 3 0 tree_of_T 4 ≡ refused 14
  pub no_nodes_on : listing_to_collector 0 0 (on_T []) 4 ≡ refused 1
  pub unequal_columns_on : listing_to_collector 0 0 (tree_in (0 ∷ 0 ∷ []) (1 ∷ []) (no_arc ∷ 0 ∷ [])) 4 ≡ refused 2
  pub collector_too_high : listing_to_collector 4 4 tree_to_3 4 ≡ refused 4
  pub sender_too_high : listing_to_collector 3 4 tree_to_3 4 ≡ refused 5

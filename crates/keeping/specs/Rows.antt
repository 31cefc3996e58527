-- Keepings on document 01's table T and on small tables, and an example of each refusal, as rows of one result. The proof, `rows`, stands in
-- proofs/Rows.antt. Assumes nothing: this is a statement.
use Rattle.std.specs.Prelude.{◌≡◌, List, [], ◌∷◌, ℕ, replicate}
use Rattle.std.proofs.Math.Option.{some}
use Rattle.table.specs.Table.{table_of, down}
use Rattle.auction.specs.Plan.{routes_of}
use Rattle.listing.specs.Listing.{tree_in, listing}
use Rattle.keeping.specs.declared.Kept.{Kept}
use Rattle.keeping.specs.Keeping.{table_in, total, kept, keep, given}

-- T: arcs 0 to 1 (2), 0 to 2 (5), 1 to 2 (3), 2 to 3 (1), 1 to 3 (9)
unfoldable pub on_T : (standing fresh : List ℕ) → Kept
on_T s f = keep 4 (0 ∷ 0 ∷ 1 ∷ 2 ∷ 1 ∷ []) (1 ∷ 2 ∷ 2 ∷ 3 ∷ 3 ∷ []) (2 ∷ 5 ∷ 3 ∷ 1 ∷ 9 ∷ []) s f

-- two nodes and two arcs
unfoldable pub on_two : (tails heads lengths standing fresh : List ℕ) → Kept
on_two ts hs ls s f = keep 2 ts hs ls s f

-- THE ROUTE THAT MOVES: arcs 1 to 2 (3), 0 to 2, 0 to 1 (8), and then a short cut, 0 to 1 (7)
unfoldable pub with_short_cut : (length : ℕ) → (standing fresh : List ℕ) → Kept
with_short_cut l s f = keep 3 (1 ∷ 0 ∷ 0 ∷ 0 ∷ []) (2 ∷ 2 ∷ 1 ∷ 1 ∷ []) (3 ∷ l ∷ 8 ∷ 7 ∷ []) s f

-- what the plan of three nodes lists for node 2
unfoldable pub listed_to_2 : (tails heads lengths : List ℕ) → List ℕ
listed_to_2 ts hs ls = (listing 0 2 (tree_in ts hs (routes_of (table_of 3 0 ts hs ls) (2 ∷ [])).tree) 3).nodes

-- a loop 0 to 0 (1), and arcs 0 to 1 (1000) and 1 to 0 (1000)
unfoldable pub round_loop : (standing fresh : List ℕ) → Kept
round_loop s f = keep 2 (0 ∷ 0 ∷ 1 ∷ []) (0 ∷ 1 ∷ 0 ∷ []) (1 ∷ 1000 ∷ 1000 ∷ []) s f

-- the answers
abbrev pub standing_of : (count : ℕ) → Kept
standing_of c = kept 0 0 1 c

abbrev pub fresh_of : (count : ℕ) → Kept
fresh_of c = kept 0 0 0 c

abbrev pub refused_by : (number place : ℕ) → Kept
refused_by a p = kept a p 0 0

pub record Rows : Type 0 where
  -- before the short cut the route to 2 is 0 2; with it, it is 0 1 2, both of 10: the standing one is kept, and gives way where it is longer
  pub listed_before : listed_to_2 (1 ∷ 0 ∷ 0 ∷ []) (2 ∷ 2 ∷ 1 ∷ []) (3 ∷ 10 ∷ 8 ∷ []) ≡ 0 ∷ 2 ∷ []
  pub listed_after : listed_to_2 (1 ∷ 0 ∷ 0 ∷ 0 ∷ []) (2 ∷ 2 ∷ 1 ∷ 1 ∷ []) (3 ∷ 10 ∷ 8 ∷ 7 ∷ []) ≡ 0 ∷ 1 ∷ 2 ∷ []
  pub moved_route : with_short_cut 10 (0 ∷ 2 ∷ []) (0 ∷ 1 ∷ 2 ∷ []) ≡ standing_of 2
  pub gives_way : with_short_cut 11 (0 ∷ 2 ∷ []) (0 ∷ 1 ∷ 2 ∷ []) ≡ fresh_of 3
  pub gives_way_down : with_short_cut down (0 ∷ 2 ∷ []) (0 ∷ 1 ∷ 2 ∷ []) ≡ fresh_of 3
  -- equal totals keep the standing list, whichever it is; a longer one is not kept
  pub two_steps : on_T (0 ∷ 2 ∷ 3 ∷ []) (0 ∷ 1 ∷ 2 ∷ 3 ∷ []) ≡ standing_of 3
  pub three_steps : on_T (0 ∷ 1 ∷ 2 ∷ 3 ∷ []) (0 ∷ 2 ∷ 3 ∷ []) ≡ standing_of 4
  pub longer : on_T (0 ∷ 1 ∷ 3 ∷ []) (0 ∷ 2 ∷ 3 ∷ []) ≡ fresh_of 3
  -- none; another first or last node; a node that is not below n; a step without an arc
  pub no_standing : on_T [] (0 ∷ 2 ∷ 3 ∷ []) ≡ fresh_of 3
  pub other_first : on_T (1 ∷ 2 ∷ 3 ∷ []) (0 ∷ 2 ∷ 3 ∷ []) ≡ fresh_of 3
  pub other_last : on_T (0 ∷ 2 ∷ []) (0 ∷ 2 ∷ 3 ∷ []) ≡ fresh_of 3
  pub standing_too_high : on_T (0 ∷ 4 ∷ 3 ∷ []) (0 ∷ 2 ∷ 3 ∷ []) ≡ fresh_of 3
  pub standing_no_step : on_T (0 ∷ 3 ∷ []) (0 ∷ 2 ∷ 3 ∷ []) ≡ fresh_of 3
  -- one node is a walk of total 0
  pub one_node : on_T (3 ∷ []) (3 ∷ []) ≡ standing_of 1
  -- parallel arcs: a step counts with the shortest
  pub parallel : on_two (0 ∷ 0 ∷ []) (1 ∷ 1 ∷ []) (5 ∷ 4 ∷ []) (0 ∷ 1 ∷ []) (0 ∷ 1 ∷ []) ≡ standing_of 2
  pub parallel_total : total (table_in 2 (0 ∷ 0 ∷ []) (1 ∷ 1 ∷ []) (5 ∷ 4 ∷ [])) (0 ∷ 1 ∷ []) ≡ some 4
  -- the arc 0 to 1 is down
  pub standing_down : on_two (0 ∷ 1 ∷ []) (1 ∷ 0 ∷ []) (down ∷ 1 ∷ []) (1 ∷ 0 ∷ 1 ∷ 0 ∷ []) (1 ∷ 0 ∷ []) ≡ fresh_of 2
  pub fresh_down : on_two (0 ∷ 1 ∷ []) (1 ∷ 0 ∷ []) (down ∷ 1 ∷ []) (1 ∷ 0 ∷ []) (0 ∷ 1 ∷ []) ≡ refused_by 15 0
  pub down_beside : on_two (0 ∷ 0 ∷ []) (1 ∷ 1 ∷ []) (down ∷ 4 ∷ []) (0 ∷ 1 ∷ []) (0 ∷ 1 ∷ []) ≡ standing_of 2
  -- a node repeated needs a loop
  pub loop_longer : keep 1 (0 ∷ []) (0 ∷ []) (3 ∷ []) (0 ∷ 0 ∷ []) (0 ∷ []) ≡ fresh_of 1
  pub loop_fresh : keep 1 (0 ∷ []) (0 ∷ []) (3 ∷ []) (0 ∷ []) (0 ∷ 0 ∷ []) ≡ standing_of 1
  pub no_loop : keep 1 [] [] [] (0 ∷ []) (0 ∷ 0 ∷ []) ≡ refused_by 15 0
  -- 1,024 nodes and one more: round a loop of length 1, or by node 1, which is longer
  pub most_standing : round_loop (replicate 1024 0) (0 ∷ 1 ∷ 0 ∷ []) ≡ standing_of 1024
  pub standing_too_long : round_loop (replicate 1025 0) (0 ∷ 1 ∷ 0 ∷ []) ≡ fresh_of 3
  pub most_fresh : round_loop [] (replicate 1024 0) ≡ fresh_of 1024
  pub fresh_too_long : round_loop (0 ∷ []) (replicate 1025 0) ≡ refused_by 15 0
  -- the fresh list: empty; a step without an arc; a node that is not below n
  pub no_fresh : on_T (0 ∷ 2 ∷ 3 ∷ []) [] ≡ refused_by 15 0
  pub fresh_no_step : on_T (0 ∷ 2 ∷ 3 ∷ []) (0 ∷ 3 ∷ []) ≡ refused_by 15 0
  pub fresh_too_high : on_T (0 ∷ 2 ∷ 3 ∷ []) (4 ∷ []) ≡ refused_by 15 0
  -- the table's own refusals come first, also where an arc is down; an arc's place is its position
  pub no_nodes : keep 0 [] [] [] [] [] ≡ refused_by 1 0
  pub unequal_columns : on_two (0 ∷ 0 ∷ []) (1 ∷ []) (4 ∷ 4 ∷ []) [] [] ≡ refused_by 2 0
  pub head_too_high : on_two (0 ∷ 0 ∷ []) (1 ∷ 2 ∷ []) (4 ∷ 4 ∷ []) [] [] ≡ refused_by 6 1
  pub length_zero : on_two (0 ∷ 0 ∷ []) (1 ∷ 1 ∷ []) (4 ∷ 0 ∷ []) [] [] ≡ refused_by 7 1
  pub down_with_bad_end : on_two (2 ∷ 0 ∷ []) (1 ∷ 1 ∷ []) (down ∷ 4 ∷ []) [] [] ≡ refused_by 6 0
  -- what is given
  pub given_standing : given (standing_of 3) (0 ∷ 2 ∷ 3 ∷ []) (0 ∷ 1 ∷ 2 ∷ 3 ∷ []) ≡ 0 ∷ 2 ∷ 3 ∷ []
  pub given_fresh : given (fresh_of 3) (0 ∷ 1 ∷ 3 ∷ []) (0 ∷ 2 ∷ 3 ∷ []) ≡ 0 ∷ 2 ∷ 3 ∷ []
  pub given_nothing : given (refused_by 15 0) (0 ∷ 2 ∷ 3 ∷ []) (0 ∷ 3 ∷ []) ≡ []

-- Draws, loads of up to four nodes, and an example of each refusal, as rows of one result. The proof, `rows`, stands in proofs/Rows.antt. Assumes nothing:
-- this is a statement.
use Rattle.std.specs.Prelude.{◌≡◌, [], ◌∷◌, ℕ}
use Rattle.table.specs.Table.{arc, most_arcs, down}
use Rattle.table.specs.Refusals.{Refusal, refusal, no_refusal}
use Rattle.test_load.specs.Load.{pair, pairs, draw, load}
use Rattle.test_load.specs.Making.{certain, load_refusal}

-- the refusal of a load of two nodes, with columns that are long enough
unfoldable pub refusal_of_two : (chance largest : ℕ) → Refusal
refusal_of_two c l = load_refusal 2 0 c l most_arcs most_arcs most_arcs

pub record Rows : Type 0 where
  -- four draws from 0
  pub first_draw : draw 0 ≡ 1013904223
  pub second_draw : draw 1013904223 ≡ 1196435762
  pub third_draw : draw 1196435762 ≡ 3519870697
  pub fourth_draw : draw 3519870697 ≡ 2868466484
  -- the pairs of three nodes
  pub three_nodes : pairs 3 ≡ pair 0 1 ∷ pair 0 2 ∷ pair 1 0 ∷ pair 1 2 ∷ pair 2 0 ∷ pair 2 1 ∷ []
  -- every pair has an arc: two draws each
  pub two_nodes : load 2 0 certain 10 ≡ arc 0 1 3 ∷ arc 1 0 5 ∷ []
  -- one draw for a pair that has no arc, and another load by another seed
  pub seed_0 : load 3 0 32768 1000 ≡ arc 0 1 763 ∷ arc 1 2 823 ∷ arc 2 0 9 ∷ []
  pub seed_1 : load 3 1 32768 1000 ≡ arc 0 1 468 ∷ arc 1 2 248 ∷ []
  -- the upper half of the first number drawn is 15,470: the chance has to be above it
  pub chance_not_above : load 2 0 15470 10 ≡ []
  pub chance_above : load 2 0 15471 10 ≡ arc 0 1 3 ∷ []
  -- lengths up to the greatest in use
  pub longest_lengths : load 4 12345 20000 4294967294 ≡ arc 0 1 71072468 ∷ arc 1 2 2129828779 ∷ arc 2 3 3194601926 ∷ arc 3 1 3004788883 ∷ []
  -- a single node, and no chance
  pub one_node : load 1 7 certain 10 ≡ []
  pub no_chance : load 4 12345 0 10 ≡ []
  -- what is refused, and what just not
  pub no_nodes : load_refusal 0 0 0 1 most_arcs most_arcs most_arcs ≡ refusal 1 0
  pub too_many_nodes : load_refusal 1025 0 0 1 most_arcs most_arcs most_arcs ≡ refusal 1 0
  pub short_tails : load_refusal 2 0 0 1 5999 most_arcs most_arcs ≡ refusal 3 0
  pub short_heads : load_refusal 2 0 0 1 most_arcs 5999 most_arcs ≡ refusal 3 0
  pub short_lengths : load_refusal 2 0 0 1 most_arcs most_arcs 5999 ≡ refusal 3 0
  pub long_columns : load_refusal 2 0 0 1 6001 7000 8000 ≡ no_refusal
  pub greatest_chance : refusal_of_two certain 10 ≡ no_refusal
  pub chance_too_great : refusal_of_two 65537 10 ≡ refusal 16 0
  pub largest_zero : refusal_of_two 0 0 ≡ refusal 16 0
  pub greatest_largest : refusal_of_two certain 4294967294 ≡ no_refusal
  pub largest_down : refusal_of_two 0 down ≡ refusal 16 0
  -- 78 nodes: 6,000 arcs by one seed and chance, 6,001 by another
  pub most_there_may_be : load_refusal 78 3 65484 10 most_arcs most_arcs most_arcs ≡ no_refusal
  pub one_too_many : load_refusal 78 5 65510 10 most_arcs most_arcs most_arcs ≡ refusal 17 0
  -- which comes first
  pub one_before_three : load_refusal 0 0 65537 0 0 0 0 ≡ refusal 1 0
  pub three_before_sixteen : load_refusal 78 0 65537 0 0 0 0 ≡ refusal 3 0
  pub sixteen_before_seventeen : load_refusal 78 0 certain 0 most_arcs most_arcs most_arcs ≡ refusal 16 0

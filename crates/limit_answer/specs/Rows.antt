-- Limits asked of document 01's table T, at, below and above each distance, and an example of each refusal, as rows of one result. The proof, `rows`,
-- stands in proofs/Rows.antt. Assumes nothing: this is a statement.
use Rattle.std.specs.Prelude.{◌≡◌, [], ◌∷◌, map, ℕ}
use Rattle.table.specs.Table.{down}
use Rattle.limit_answer.specs.declared.Within.{Within}
use Rattle.limit_answer.specs.Answer.{within, within_limit}

-- T: arcs 0 to 1, 0 to 2, 1 to 2, 2 to 3, 1 to 3; nodes 0 to 3 are at the distances 0, 2, 5 and 6
unfoldable pub of_T : (n origin node limit : ℕ) → Within
of_T n o v b = within_limit n o v b (0 ∷ 0 ∷ 1 ∷ 2 ∷ 1 ∷ []) (1 ∷ 2 ∷ 2 ∷ 3 ∷ 3 ∷ []) (2 ∷ 5 ∷ 3 ∷ 1 ∷ 9 ∷ [])

-- two nodes and one arc between them
unfoldable pub of_arc : (tail head length node limit : ℕ) → Within
of_arc a b l v limit = within_limit 2 0 v limit (a ∷ []) (b ∷ []) (l ∷ [])

-- the answers
abbrev pub yes_after : (iterations : ℕ) → Within
yes_after i = within 0 0 1 i

abbrev pub no_after : (iterations : ℕ) → Within
no_after i = within 0 0 0 i

abbrev pub refused_by : (number place : ℕ) → Within
refused_by n p = within n p 0 0

-- the greatest limit
abbrev pub no_limit : ℕ
no_limit = 18446744073709551615

pub record Rows : Type 0 where
  -- the origin itself
  pub node_0 : map (of_T 4 0 0) (0 ∷ 1 ∷ no_limit ∷ []) ≡ yes_after 0 ∷ yes_after 0 ∷ yes_after 0 ∷ []
  pub node_1 : map (of_T 4 0 1) (0 ∷ 1 ∷ 2 ∷ 3 ∷ no_limit ∷ []) ≡ no_after 1 ∷ no_after 1 ∷ yes_after 2 ∷ yes_after 2 ∷ yes_after 2 ∷ []
  pub node_2 : map (of_T 4 0 2) (1 ∷ 2 ∷ 4 ∷ 5 ∷ 6 ∷ no_limit ∷ [])
      ≡ no_after 1 ∷ no_after 4 ∷ no_after 4 ∷ yes_after 5 ∷ yes_after 5 ∷ yes_after 5 ∷ []
  pub node_3 : map (of_T 4 0 3) (0 ∷ 1 ∷ 2 ∷ 4 ∷ 5 ∷ 6 ∷ 7 ∷ no_limit ∷ [])
      ≡ no_after 1 ∷ no_after 1 ∷ no_after 4 ∷ no_after 4 ∷ no_after 7 ∷ yes_after 9 ∷ yes_after 9 ∷ yes_after 9 ∷ []
  -- a fifth node, which has no walk: the run ends as soon as the origin's price is above the limit, or where the origin has no children
  pub node_4 : map (of_T 5 0 4) (5 ∷ 6 ∷ 10 ∷ 11 ∷ no_limit ∷ []) ≡ no_after 7 ∷ no_after 12 ∷ no_after 12 ∷ no_after 14 ∷ no_after 14 ∷ []
  -- one arc, whose link is down: the origin has no children at all; and one of the greatest length
  pub arc_down : of_arc 0 1 down 1 no_limit ≡ no_after 0
  pub longest_arc : map (of_arc 0 1 4294967294 1) (4294967293 ∷ 4294967294 ∷ []) ≡ no_after 1 ∷ yes_after 2 ∷ []
  -- refusals: no node; two tails and one head; the origin and the node are none; an arc's head is none; an arc's length is 0
  pub no_nodes : of_T 0 0 0 5 ≡ refused_by 1 0
  pub unequal_columns : within_limit 2 0 1 5 (0 ∷ 0 ∷ []) (1 ∷ []) (4 ∷ 4 ∷ []) ≡ refused_by 2 0
  pub origin_too_high : of_T 4 4 3 6 ≡ refused_by 4 0
  pub node_too_high : of_T 4 0 4 6 ≡ refused_by 5 0
  pub head_too_high : of_arc 0 2 4 1 9 ≡ refused_by 6 0
  pub length_zero : of_arc 0 1 0 1 9 ≡ refused_by 7 0
  -- an arc's place is its position
  pub second_head : within_limit 2 0 1 9 (0 ∷ 0 ∷ []) (1 ∷ 2 ∷ []) (4 ∷ 4 ∷ []) ≡ refused_by 6 1
  pub second_length : within_limit 2 0 1 9 (0 ∷ 0 ∷ []) (1 ∷ 1 ∷ []) (4 ∷ 0 ∷ []) ≡ refused_by 7 1
  -- of two refusals the one with the lower number; also an arc that is down has to have good ends
  pub origin_before_node : of_T 4 4 4 6 ≡ refused_by 4 0
  pub node_before_arcs : of_arc 0 2 4 2 9 ≡ refused_by 5 0
  pub down_with_bad_end : of_arc 2 1 down 1 9 ≡ refused_by 6 0

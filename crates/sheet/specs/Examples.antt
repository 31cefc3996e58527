-- Files and what is printed of them, from the first byte to the last. The proof stands in proofs/Examples.antt. Assumes nothing.
use Rattle.std.specs.Prelude.{◌≡◌, List, [], ◌∷◌, ◌++◌, ℕ, ◌<◌, length, take, drop}
use Rattle.link_format.specs.Rows.{example_file, down_file}
use Rattle.sheet.specs.Text.{text}
use Rattle.sheet.specs.Sheet.{node_line}
use Rattle.sheet.specs.Printed.{most_input, printed}

-- T's records, behind the header of a table with five nodes that wants 4 and, twice, 1: no route to 4
abbrev pub fifth_node : List ℕ
fifth_node = 5 ∷ 5 ∷ 0 ∷ 3 ∷ 0 ∷ 4 ∷ 0 ∷ 1 ∷ 0 ∷ 1 ∷ 0 ∷ drop 7 example_file

pub record Examples : Type 0 where
  -- 01's file, from its bytes to its sheet
  pub the_file :
      printed example_file
      ≡ text "reached 4 horizon 6 iterations 9\n"
      ∷ text "contractions 5 extensions 4 deletions 0\n"
      ∷ text "node 0 distance 0 price 6 arc -\n"
      ∷ text "node 1 distance 2 price 4 arc 0\n"
      ∷ text "node 2 distance 5 price 1 arc 1\n"
      ∷ text "node 3 distance 6 price 0 arc 3\n"
      ∷ text "path 3: 0 2 3\n"
      ∷ text "marks 0 2 0 3\n"
      ∷ []
  pub no_route :
      printed fifth_node
      ≡ text "refused 8 at 0\n"
      ∷ text "reached 4 horizon 6 iterations 14\n"
      ∷ text "contractions 6 extensions 5 deletions 3\n"
      ∷ text "node 0 distance 0 price 6 arc -\n"
      ∷ text "node 1 distance 2 price 4 arc 0\n"
      ∷ text "node 2 distance 5 price 1 arc 1\n"
      ∷ text "node 3 distance 6 price 0 arc 3\n"
      ∷ text "path 1: 0 1\n"
      ∷ text "marks 0 2 0 3\n"
      ∷ []
  -- T with arc 1 down: the path to 3 goes by 1, and the arcs keep their numbers
  pub down_link :
      printed (take 17 example_file ++ (255 ∷ 255 ∷ 255 ∷ 255 ∷ drop 21 example_file))
      ≡ text "reached 4 horizon 6 iterations 12\n"
      ∷ text "contractions 6 extensions 6 deletions 0\n"
      ∷ text "node 0 distance 0 price 6 arc -\n"
      ∷ text "node 1 distance 2 price 4 arc 0\n"
      ∷ text "node 2 distance 5 price 1 arc 2\n"
      ∷ text "node 3 distance 6 price 0 arc 3\n"
      ∷ text "path 3: 0 1 2 3\n"
      ∷ text "marks 0 2 0 3\n"
      ∷ []
  -- two arcs, both down: no route to 1
  pub all_down :
      printed down_file
      ≡ text "refused 8 at 1\n"
      ∷ text "reached 1 horizon 0 iterations 0\n"
      ∷ text "contractions 0 extensions 0 deletions 0\n"
      ∷ text "node 0 distance 0 price 0 arc -\n"
      ∷ text "path 0: 0\n"
      ∷ text "marks 0 2 0 0\n"
      ∷ []
  -- T with nothing wanted: the origin's arcs are kept, the others were never looked at
  pub nothing_wanted :
      printed (5 ∷ 4 ∷ 0 ∷ 0 ∷ 0 ∷ drop 7 example_file)
      ≡ text "reached 1 horizon 0 iterations 0\n"
      ∷ text "contractions 0 extensions 0 deletions 0\n"
      ∷ text "node 0 distance 0 price 0 arc -\n"
      ∷ text "marks 3 0 2 0\n"
      ∷ []
  -- T wanted 1: the marks 0 to 3 all stand
  pub one_wanted :
      printed (5 ∷ 4 ∷ 0 ∷ 1 ∷ 0 ∷ 1 ∷ 0 ∷ drop 7 example_file)
      ≡ text "reached 2 horizon 2 iterations 2\n"
      ∷ text "contractions 1 extensions 1 deletions 0\n"
      ∷ text "node 0 distance 0 price 2 arc -\n"
      ∷ text "node 1 distance 2 price 0 arc 0\n"
      ∷ text "path 1: 0 1\n"
      ∷ text "marks 1 1 2 1\n"
      ∷ []
  -- one node: without an arc, and with a loop of length 1
  pub one_node :
      printed (1 ∷ 1 ∷ 0 ∷ [])
      ≡ text "reached 1 horizon 0 iterations 0\n"
      ∷ text "contractions 0 extensions 0 deletions 0\n"
      ∷ text "node 0 distance 0 price 0 arc -\n"
      ∷ text "path 0: 0\n"
      ∷ text "marks 0 0 0 0\n"
      ∷ []
  pub loop :
      printed (1 ∷ 1 ∷ 0 ∷ 7 ∷ 0 ∷ 0 ∷ 0 ∷ 0 ∷ 1 ∷ 0 ∷ 0 ∷ 0 ∷ [])
      ≡ text "reached 1 horizon 0 iterations 0\n"
      ∷ text "contractions 0 extensions 0 deletions 0\n"
      ∷ text "node 0 distance 0 price 0 arc -\n"
      ∷ text "path 0: 0\n"
      ∷ text "marks 0 1 0 0\n"
      ∷ []
  -- two equal arcs from 0 to 1
  pub parallel :
      printed (1 ∷ 2 ∷ 0 ∷ 7 ∷ 0 ∷ 0 ∷ 1 ∷ 0 ∷ 1 ∷ 0 ∷ 0 ∷ 0 ∷ 2 ∷ 1 ∷ 0 ∷ [])
      ≡ text "reached 2 horizon 1 iterations 2\n"
      ∷ text "contractions 1 extensions 1 deletions 0\n"
      ∷ text "node 0 distance 0 price 1 arc -\n"
      ∷ text "node 1 distance 1 price 0 arc 0\n"
      ∷ text "path 0: 0\n"
      ∷ text "path 1: 0 1\n"
      ∷ text "marks 0 1 0 1\n"
      ∷ []
  -- arcs 0 to 1 of 5 and 0 to 2 of 2, wanted 1, 2 and 1 again: the nearer node's path line is the first
  pub nearer_first :
      printed (5 ∷ 3 ∷ 0 ∷ 3 ∷ 0 ∷ 1 ∷ 0 ∷ 2 ∷ 0 ∷ 1 ∷ 0 ∷ 7 ∷ 0 ∷ 0 ∷ 1 ∷ 0 ∷ 5 ∷ 0 ∷ 0 ∷ 0 ∷ 4 ∷ 2 ∷ 0 ∷ 0 ∷ 0 ∷ [])
      ≡ text "reached 3 horizon 5 iterations 5\n"
      ∷ text "contractions 2 extensions 2 deletions 1\n"
      ∷ text "node 0 distance 0 price 5 arc -\n"
      ∷ text "node 1 distance 5 price 0 arc 0\n"
      ∷ text "node 2 distance 2 price 3 arc 1\n"
      ∷ text "path 2: 0 2\n"
      ∷ text "path 1: 0 1\n"
      ∷ text "marks 0 0 0 2\n"
      ∷ []
  -- arcs 0 to 2 of 2 and 0 to 1 of 2, wanted 2, 1 and 0: among nodes as near, the smaller number's is the first
  pub smaller_first :
      printed (5 ∷ 3 ∷ 0 ∷ 3 ∷ 0 ∷ 2 ∷ 0 ∷ 1 ∷ 0 ∷ 0 ∷ 0 ∷ 7 ∷ 0 ∷ 0 ∷ 2 ∷ 0 ∷ 2 ∷ 0 ∷ 0 ∷ 0 ∷ 2 ∷ 1 ∷ 0 ∷ [])
      ≡ text "reached 3 horizon 2 iterations 4\n"
      ∷ text "contractions 1 extensions 2 deletions 1\n"
      ∷ text "node 0 distance 0 price 2 arc -\n"
      ∷ text "node 1 distance 2 price 0 arc 1\n"
      ∷ text "node 2 distance 2 price 0 arc 0\n"
      ∷ text "path 0: 0\n"
      ∷ text "path 1: 0 1\n"
      ∷ text "path 2: 0 2\n"
      ∷ text "marks 0 0 0 2\n"
      ∷ []
  -- numbers of twenty digits, the most that 64 bits hold
  pub twenty_digits :
      node_line 1023 18446744073709551614 10000000000000000000 5999
      ≡ text "node 1023 distance 18446744073709551614 price 10000000000000000000 arc 5999\n"
  -- a file that is refused, and one whose table is: one line each
  pub empty_file : printed [] ≡ text "refused 9 at 0\n" ∷ []
  pub faulty_table : printed (1 ∷ 1 ∷ 0 ∷ 7 ∷ 0 ∷ 0 ∷ 1 ∷ 0 ∷ 1 ∷ 0 ∷ 0 ∷ 0 ∷ []) ≡ text "refused 6 at 0\n" ∷ []
  -- 65,537 bytes or more
  pub too_long : (input : List ℕ) → most_input < length input → printed input ≡ text "refused 2 at 6000\n" ∷ []

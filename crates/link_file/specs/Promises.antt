-- The promises about the two entries: both round trips of the format, of what their contracts say of their answers and buffers, and the range of
-- what the reader answers. Assumes nothing: these are statements.
use Rattle.std.specs.Prelude.{false, List, ◌≡◌, ℕ, ◌≤◌, ◌<◌, length, take}
use Rattle.table.specs.Table.{Below, most_nodes, most_arcs, most_wanted}
use Rattle.table.specs.Slices.{over}
use Rattle.link_format.specs.Buffers.{too_short}
use Rattle.link_format.specs.Format.{byte_limit, node_width, length_width, limit}
use Rattle.link_file.specs.Entries.{ReadSays, WriteSays}
use Rattle.link_file.specs.declared.TableRead.{TableRead}
use Rattle.link_file.specs.declared.Written.{Written}

-- What the reader leaves where it has read a table: the answer, and the table's columns at the starts of the buffers.
pub record TableThere (n origin : ℕ) (tails heads lengths wanted : List ℕ) (ts hs ls ws ts' hs' ls' ws' : List ℕ) (r : TableRead) : Type 0 where
  pub answer : r ≡ record { number = 0; place = 0; n = n; origin = origin; arcs = length tails; wanted = length wanted }
  pub tails_are : ts' ≡ over tails ts
  pub heads_are : hs' ≡ over heads hs
  pub lengths_are : ls' ≡ over lengths ls
  pub wanted_are : ws' ≡ over wanted ws

-- Write a table, without a refusal; read the bytes that were put, with buffers that are long enough: the table is there.
abbrev pub WriteThenRead : Type 0
WriteThenRead =
    (n o : ℕ) (tails heads lengths wanted out out' : List ℕ) (w : Written)
    → o < limit node_width → Below (limit node_width) tails → Below (limit node_width) heads → Below (limit length_width) lengths → Below (limit node_width) wanted
    → WriteSays n o tails heads lengths wanted out out' w → w.number ≡ 0
    → (ts hs ls ws ts' hs' ls' ws' : List ℕ) (r : TableRead) → too_short (length ts) (length hs) (length ls) (length ws) ≡ false
    → ReadSays (take w.length out') ts hs ls ws ts' hs' ls' ws' r
    → TableThere n o tails heads lengths wanted ts hs ls ws ts' hs' ls' ws' r

-- Read a file, without a refusal; write what was read, into an output with room: the file is there.
abbrev pub ReadThenWrite : Type 0
ReadThenWrite =
    (file ts hs ls ws ts' hs' ls' ws' : List ℕ) (r : TableRead) → Below byte_limit file → ReadSays file ts hs ls ws ts' hs' ls' ws' r → r.number ≡ 0
    → (out out' : List ℕ) (w : Written) → length file ≤ length out
    → WriteSays r.n r.origin (take r.arcs ts') (take r.arcs hs') (take r.arcs ls') (take r.wanted ws') out out' w
    → (w ≡ record { number = 0; place = 0; length = length file }) × (out' ≡ over file out)

-- What the reader answers is in range, in a refusal too: so a caller may take the starts of its buffers by the counts.
pub record CountsFit (r : TableRead) : Type 0 where
  pub nodes : r.n ≤ most_nodes
  pub arcs_few : r.arcs ≤ most_arcs
  pub wanted_few : r.wanted ≤ most_wanted

abbrev pub AnswersFit : Type 0
AnswersFit = (file ts hs ls ws ts' hs' ls' ws' : List ℕ) (r : TableRead) → Below byte_limit file → ReadSays file ts hs ls ws ts' hs' ls' ws' r → CountsFit r

-- Which lines of a sheet are still to come from a cursor, and what the functions that put one line of it say. Assumes nothing: these are definitions.
use Rattle.std.specs.Prelude.{◌≡◌, List, [], ◌∷◌, ◌++◌, ℕ, ◌+◌, ◌-◌, ◌<◌, Option, None, Some, length, drop}
use Rattle.table.specs.Slices.{Buffer, had, left}
use Rattle.hand_over.specs.Answered.{answered}
use Rattle.sheet.specs.Sheet.{Finished, to_print, node_count, has_distance, passing, node_lines, path_lines, marks_lines, after_nodes, from_counts, from_reached, sheet}
use Rattle.sheet.specs.Printed.{printed}
use Rattle.sheet_lines.specs.Buffers.{Begins}
use Rattle.printer.specs.declared.plan.FinishedPlan.{FinishedPlan}
use Rattle.printer.specs.declared.plan.Piece.{Piece}
use Rattle.printer.specs.declared.plan.Cursor.{Cursor}
use Rattle.printer.specs.declared.plan.Cursor.TheVariants.{Start, Reached, Counts, Node, Path, End}

-- WHAT IS PRINTED of a plan that the code has lent: the answer, the columns, and the nodes that have a path line, in order
unfoldable pub printing : FinishedPlan → Finished
printing p = to_print p.origin p.tails.now p.heads.now p.order.now (answered p.answer p.distances.now p.prices.now p.tree.now p.marks.now)

-- What the printing loop asks: the sheet of the plan is what is printed of an input.
abbrev pub Prints : (input : List ℕ) → FinishedPlan → Type 0
Prints input p = sheet (printing p) ≡ printed input

-- the lines from the path line at an index of their order on, and from the line of a node on
unfoldable pub paths_from : Finished → (i : ℕ) → List (List ℕ)
paths_from p i = path_lines p (drop i p.order) ++ marks_lines p.answer.marks

unfoldable pub nodes_from : Finished → (v : ℕ) → List (List ℕ)
nodes_from p v =
    node_lines p (passing (has_distance p.answer.distances) (node_count p.answer.distances - v) v) ++ after_nodes p

-- THE LINES STILL TO COME from a cursor
unfoldable pub rest : Finished → Cursor → List (List ℕ)
rest p Start = sheet p
rest p Reached = from_reached p
rest p Counts = from_counts p
rest p (Node v) = nodes_from p v
rest p (Path i) = paths_from p i
rest p End = []

-- A line was put at the start of a buffer: the next of those to come, which has at least its line end, and the cursor given back leads to the rest of them.
pub record Puts (p : Finished) (line : List ℕ) (later : List (List ℕ)) (piece : Piece) (before after : List ℕ) : Type 0 where
  pub begins : Begins line before after piece.count
  pub some : 0 < piece.count
  pub leads : rest p piece.next ≡ later

-- What putting a line does, where these lines are to come: past the last of them nothing is put.
unfoldable pub Gives : Finished → (lines : List (List ℕ)) → Option Piece → (before after : List ℕ) → Type 0
Gives p [] None b a = a ≡ b
Gives p [] (Some piece) b a = ⊥
Gives p (l ∷ later) None b a = ⊥
Gives p (l ∷ later) (Some piece) b a = Puts p l later piece b a

-- THE CONTRACT of next_line: the next of the lines that are to come from a cursor, at the start of a buffer
abbrev pub NextLine : Cursor → Finished → (out : Buffer) → Option Piece → Type 0
NextLine c p out r = Gives p (rest p c) r (had out) (left out)

-- the first node from v on that has a distance, of those that may have a line; none where no such node is left
abbrev pub FirstWithDistance : (distances : List ℕ) → (v : ℕ) → Option ℕ → Type 0
FirstWithDistance ds v None = passing (has_distance ds) (node_count ds - v) v ≡ []
FirstWithDistance ds v (Some u) =
    (u < length ds) × (passing (has_distance ds) (node_count ds - v) v ≡ u ∷ passing (has_distance ds) (node_count ds - (u + 1)) (u + 1))

-- WHAT THE PROGRAM PRINTS: from the bytes of standard input to the lines of the sheet. Assumes nothing: these are definitions.
--
-- The input is read as a link file, its table is planned, and the plan's sheet is printed; a file that is refused prints one line, number and place. Input
-- of more than 65,536 bytes cannot be a link file and counts as one with too many arcs.
use Rattle.std.specs.Prelude.{cond, List, [], ◌∷◌, ◌++◌, ℕ, ltb, length, replicate}
use Rattle.table.specs.Table.{most_arcs, tails_of, heads_of, lengths_of}
use Rattle.auction.specs.Plan.{plan}
use Rattle.link_format.specs.Format.{Content}
use Rattle.link_format.specs.Reading.{Outcome, got, refused, read_file}
use Rattle.sheet.specs.Sheet.{Finished, finished, refused_line, sheet}

-- the longest input
abbrev pub most_input : ℕ
most_input = 65536

unfoldable pub read_input : (input : List ℕ) → Outcome Content
read_input input = cond (ltb most_input (length input)) (refused 2 most_arcs) (read_file input)

-- the plan of what was read, with buffers of zeros lent for it
unfoldable pub plan_of : Content → Finished
plan_of c =
    let m = length c.arcs in
    let ts = tails_of c.arcs in
    let hs = heads_of c.arcs in
    finished c.origin ts hs c.wanted
    (plan c.n c.origin ts hs (lengths_of c.arcs) c.wanted (replicate c.n 0) (replicate c.n 0) (replicate c.n 0) (replicate m 0))

unfoldable pub lines_of : Outcome Content → List (List ℕ)
lines_of (got c next rest) = sheet (plan_of c)
lines_of (refused n p) = refused_line n p ∷ []

unfoldable pub printed : (input : List ℕ) → List (List ℕ)
printed input = lines_of (read_input input)

-- lines one after the other
unfoldable pub joined : (lines : List (List ℕ)) → List ℕ
joined [] = []
joined (l ∷ more) = l ++ joined more

-- Plans to a collector on document 01's table T and on small tables, as rows of the rack's kind (crates/auction/specs/Rack.antt), with the collector where
-- a row has its origin and the senders where it has its wanted nodes. The proof, `rows_hold`, stands in proofs/Rows.antt. Assumes nothing: these are
-- definitions.
use Rattle.std.specs.Prelude.{◌≡◌, List, [], ◌∷◌, map, ℕ}
use Rattle.table.specs.Table.{down, no_arc, no_distance}
use Rattle.auction.specs.HandOver.{Answer}
use Rattle.auction.specs.Rack.{Buffers, lent, extent, steps, found, no_route_at, refused_by, Row, row, lending, due, one, two, three, four, five}
use Rattle.collector.specs.Plan.{plan_to_collector}

-- what the definitions give
unfoldable pub given : Row → Answer
given r =
    let b = r.buffers in
    plan_to_collector r.n r.origin r.tails r.heads r.lengths r.wanted b.distances b.prices b.tree b.marks

-- T: arcs 0 to 1, 0 to 2, 1 to 2, 2 to 3, 1 to 3
abbrev pub of_T : (n collector : ℕ) → (lengths senders : List ℕ) → (Buffers → Answer) → Row
of_T n c ls ss g = row n c (five 0 0 1 2 1) (five 1 2 2 3 3) ls ss g 0

abbrev pub lengths_of_T : List ℕ
lengths_of_T = five 2 5 3 1 9

-- two nodes, and arcs from node 0 to node 1 of these lengths; collector 1, sender 0
abbrev pub two_arcs : (first second : ℕ) → (Buffers → Answer) → Row
two_arcs a b g = row 2 1 (two 0 0) (two 1 1) (two a b) (one 0) g 0

abbrev pub three_arcs : (first second third : ℕ) → (Buffers → Answer) → Row
three_arcs a b c g = row 2 1 (three 0 0 0) (three 1 1 1) (three a b c) (one 0) g 0

unfoldable pub rows : List Row
rows =
    -- all of T to node 3
    of_T 4 3 lengths_of_T (three 0 1 2) (found (extent 4 6) (steps 12 6 6 0 6) (four 6 4 1 0) (four 0 2 5 6) (four 0 2 3 no_arc) (five 3 1 3 3 1))
    -- nothing leads to node 0
    ∷ of_T 4 0 lengths_of_T (one 3)
    (no_route_at 0 (extent 1 0) (steps 0 0 0 0 0) (four 0 no_distance no_distance no_distance) (four 0 0 0 0) (four no_arc no_arc no_arc no_arc) (five 1 1 0 0 0))
    -- a fifth node, which no arc leaves
    ∷ of_T 5 3 lengths_of_T (two 4 0)
    (no_route_at 0 (extent 4 6) (steps 15 6 6 3 9) (five 6 4 1 0 no_distance) (five 0 2 5 6 0) (five 0 2 3 no_arc no_arc) (five 3 1 3 3 1))
    -- the arc from 2 to 3 is down: node 2 has no way to node 3, and the others have the arc from 1
    ∷ of_T 4 3 (five 2 5 3 down 9) (three 0 1 2)
    (no_route_at 2 (extent 3 11) (steps 8 3 3 2 5) (four 11 9 no_distance 0) (four 0 2 0 11) (four 0 4 no_arc no_arc) (five 3 1 1 1 3))
    -- nothing is sent; only the collector sends
    ∷ of_T 4 3 lengths_of_T [] (found (extent 1 0) (steps 0 0 0 0 0) (four no_distance no_distance no_distance 0) (four 0 0 0 0) (four no_arc no_arc no_arc no_arc) (five 0 0 0 2 2))
    ∷ of_T 4 3 lengths_of_T (one 3) (found (extent 1 0) (steps 0 0 0 0 0) (four no_distance no_distance no_distance 0) (four 0 0 0 0) (four no_arc no_arc no_arc no_arc) (five 0 0 0 2 2))
    -- the shortest of parallel arcs, and among equals the earliest listed
    ∷ three_arcs 4 4 3 (found (extent 2 3) (steps 2 1 1 0 1) (two 3 0) (two 0 3) (two 2 no_arc) (three 1 1 3))
    ∷ two_arcs 4 4 (found (extent 2 4) (steps 2 1 1 0 1) (two 4 0) (two 0 4) (two 0 no_arc) (two 3 1))
    -- refusals: no node; a head too few; a mark too few; the collector, then a sender, is none; an arc's tail, and another's head, is none; a length of 0
    ∷ of_T 0 0 lengths_of_T [] (refused_by 1 0)
    ∷ row 2 1 (two 0 0) (one 1) (two 4 4) (one 0) (refused_by 2 0) 0
    ∷ lending (lent 4 4 4 4) (of_T 4 3 lengths_of_T (one 0) (refused_by 3 0))
    ∷ of_T 4 4 lengths_of_T (one 4) (refused_by 4 0)
    ∷ of_T 4 3 lengths_of_T (three 0 4 5) (refused_by 5 1)
    ∷ row 2 1 (two 0 2) (two 1 1) (two 4 4) (one 0) (refused_by 6 1) 0
    ∷ row 2 1 (two 0 0) (two 1 2) (two 4 down) (one 0) (refused_by 6 1) 0
    ∷ two_arcs 4 0 (refused_by 7 1)
    ∷ []

-- THE JOINT RESULT: each row gives what it has to give
unfoldable pub RowsHold : Type 0
RowsHold = map given rows ≡ map due rows

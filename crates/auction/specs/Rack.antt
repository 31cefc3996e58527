-- The tables on the test rack, as rows of one table with what each has to give, and one joint result: what `plan` gives, row by row, is what is
-- written here (proofs/Answers.antt). Assumes nothing: these are definitions.
use Rattle.std.specs.Prelude.{◌≡◌, List, [], ◌∷◌, map, ℕ, ◌<◌, length, replicate, take}
use Rattle.table.specs.Table.{most_wanted, down, no_arc, no_distance}
use Rattle.table.specs.Refusals.{Refusal, refusal, no_refusal, wanted_refusal}
use Rattle.auction.specs.Auction.{most_iterations}
use Rattle.auction.specs.HandOver.{Answer, answer, how_many}
use Rattle.auction.specs.Plan.{plan, plan_refusal}

-- THE BUFFERS that a row lends
pub record Buffers : Type 0 where
  pub distances : List ℕ
  pub prices : List ℕ
  pub tree : List ℕ
  pub marks : List ℕ

-- a buffer of this length, every entry a number that no row hands over: where it still stands, nothing was written
unfoldable pub untouched : (count : ℕ) → List ℕ
untouched n = replicate n 77

-- four buffers of these lengths
unfoldable pub lent : (distances prices tree marks : ℕ) → Buffers
lent a b c d = record { distances = untouched a; prices = untouched b; tree = untouched c; marks = untouched d }

-- WHAT A ROW HAS TO GIVE, the buffers being as they were lent

-- the nodes reached and the horizon
pub record Extent : Type 0 where
  pub reached : ℕ
  pub horizon : ℕ

abbrev pub extent : (reached horizon : ℕ) → Extent
extent r h = record { reached = r; horizon = h }

-- the iterations, and of these the contractions, the extensions and the deletions, and those that scan
pub record Steps : Type 0 where
  pub iterations : ℕ
  pub contractions : ℕ
  pub extensions : ℕ
  pub deletions : ℕ
  pub scans : ℕ

abbrev pub steps : (iterations contractions extensions deletions scans : ℕ) → Steps
steps i c e d s = record { iterations = i; contractions = c; extensions = e; deletions = d; scans = s }

-- a route to every wanted node
abbrev pub found : Extent → Steps → (distances prices tree marks : List ℕ) → Buffers → Answer
found x s ds ps tr ms b =
    answer 0 0 x.reached x.horizon s.iterations s.contractions s.extensions s.deletions s.scans ds ps tr ms

-- refusal 8: no route to the wanted node at this index; the counts and the four columns are handed over all the same
abbrev pub no_route_at : (place : ℕ) → Extent → Steps → (distances prices tree marks : List ℕ) → Buffers → Answer
no_route_at p x s ds ps tr ms b =
    answer 8 p x.reached x.horizon s.iterations s.contractions s.extensions s.deletions s.scans ds ps tr ms

-- one of the refusals 1 to 7: every buffer is left as it was lent
abbrev pub refused_by : (number place : ℕ) → Buffers → Answer
refused_by n p b = answer n p 0 0 0 0 0 0 0 b.distances b.prices b.tree b.marks

-- A ROW: a table by its columns, its wanted list and the buffers lent; the answer it has to give and the bound on its iterations
pub record Row : Type 0 where
  pub n : ℕ
  pub origin : ℕ
  pub tails : List ℕ
  pub heads : List ℕ
  pub lengths : List ℕ
  pub wanted : List ℕ
  pub buffers : Buffers
  pub gives : Buffers → Answer
  pub bound : ℕ

-- a row that lends buffers as long as they have to be: an entry a node, a mark an arc
abbrev pub row : (n origin : ℕ) → (tails heads lengths wanted : List ℕ) → (Buffers → Answer) → (bound : ℕ) → Row
row n o ts hs ls ws g b =
    record {
      n = n;
      origin = o;
      tails = ts;
      heads = hs;
      lengths = ls;
      wanted = ws;
      buffers = lent n n n (length ts);
      gives = g;
      bound = b;
    }

-- the row, lending these buffers
abbrev pub lending : Buffers → Row → Row
lending b r =
    record {
      n = r.n;
      origin = r.origin;
      tails = r.tails;
      heads = r.heads;
      lengths = r.lengths;
      wanted = r.wanted;
      buffers = b;
      gives = r.gives;
      bound = r.bound;
    }

-- what the definitions give
unfoldable pub given : Row → Answer
given r =
    let b = r.buffers in
    plan r.n r.origin r.tails r.heads r.lengths r.wanted b.distances b.prices b.tree b.marks

-- what they have to give
unfoldable pub due : Row → Answer
due r = r.gives r.buffers

-- a list of numbers
abbrev pub one : ℕ → List ℕ
one a = a ∷ []

abbrev pub two : ℕ → ℕ → List ℕ
two a b = a ∷ b ∷ []

abbrev pub three : ℕ → ℕ → ℕ → List ℕ
three a b c = a ∷ b ∷ c ∷ []

abbrev pub four : ℕ → ℕ → ℕ → ℕ → List ℕ
four a b c d = a ∷ b ∷ c ∷ d ∷ []

abbrev pub five : ℕ → ℕ → ℕ → ℕ → ℕ → List ℕ
five a b c d e = a ∷ b ∷ c ∷ d ∷ e ∷ []

-- T: arcs 0 to 1, 0 to 2, 1 to 2, 2 to 3, 1 to 3
abbrev pub T : (n origin : ℕ) → (wanted : List ℕ) → (Buffers → Answer) → (bound : ℕ) → Row
T n o = row n o (five 0 0 1 2 1) (five 1 2 2 3 3) (five 2 5 3 1 9)

-- THE RACK
unfoldable pub rack : List Row
rack =
    -- T, wanted 3
    T 4 0 (one 3) (found (extent 4 6) (steps 9 5 4 0 5) (four 0 2 5 6) (four 6 4 1 0) (four no_arc 0 1 3) (five 3 3 1 3 1)) 49
    -- T, wanted 1
    ∷ T 4 0 (one 1)
    (found (extent 2 2) (steps 2 1 1 0 1) (four 0 2 no_distance no_distance) (four 2 0 0 0) (four no_arc 0 no_arc no_arc) (five 3 2 1 0 2)) 49
    -- T with a fifth node, wanted 4: no route; the horizon is 6, though the origin's last auction price is 11
    ∷ T 5 0 (one 4)
    (no_route_at 0 (extent 4 6) (steps 14 6 5 3 9) (five 0 2 5 6 no_distance) (five 6 4 1 0 0) (five no_arc 0 1 3 no_arc) (five 3 3 1 3 1)) 92
    -- T, wanted list empty, and only 0
    ∷ T 4 0 []
    (found (extent 1 0) (steps 0 0 0 0 0) (four 0 no_distance no_distance no_distance) (four 0 0 0 0) (four no_arc no_arc no_arc no_arc) (five 2 2 0 0 0)) 49
    ∷ T 4 0 (one 0)
    (found (extent 1 0) (steps 0 0 0 0 0) (four 0 no_distance no_distance no_distance) (four 0 0 0 0) (four no_arc no_arc no_arc no_arc) (five 2 2 0 0 0)) 49
    -- one node, no arcs; one node, a loop
    ∷ row 1 0 [] [] [] (one 0) (found (extent 1 0) (steps 0 0 0 0 0) (one 0) (one 0) (one no_arc) []) 0
    ∷ row 1 0 (one 0) (one 0) (one 1) (one 0) (found (extent 1 0) (steps 0 0 0 0 0) (one 0) (one 0) (one no_arc) (one 1)) 0
    -- two equal arcs: the first is kept
    ∷ row 2 0 (two 0 0) (two 1 1) (two 4 4) (one 1) (found (extent 2 4) (steps 2 1 1 0 1) (two 0 4) (two 4 0) (two no_arc 0) (two 3 1)) 7
    -- the greatest length in use; one more, which is down, so that there is no route; and length 0
    ∷ row 2 0 (one 0) (one 1) (one 4294967294) (one 1)
    (found (extent 2 4294967294) (steps 2 1 1 0 1) (two 0 4294967294) (two 4294967294 0) (two no_arc 0) (one 3)) 7
    ∷ row 2 0 (one 0) (one 1) (one down) (one 1)
    (no_route_at 0 (extent 1 0) (steps 0 0 0 0 0) (two 0 no_distance) (two 0 0) (two no_arc no_arc) (one 1)) 7
    ∷ row 2 0 (one 0) (one 1) (one 0) (one 1) (refused_by 7 0) 7
    -- T with arc 1 down: node 2 hangs on arc 2, and the auction is that of the other four arcs
    ∷ row 4 0 (five 0 0 1 2 1) (five 1 2 2 3 3) (five 2 down 3 1 9) (one 3)
    (found (extent 4 6) (steps 12 6 6 0 6) (four 0 2 5 6) (four 6 4 1 0) (four no_arc 0 2 3) (five 3 1 3 3 1)) 49
    -- T with arc 3 down, both its ends unreached: mark 1; and every arc down, before any iteration
    ∷ row 4 0 (five 0 0 1 2 1) (five 1 2 2 3 3) (five 2 5 3 down 9) (one 1)
    (found (extent 2 2) (steps 2 1 1 0 1) (four 0 2 no_distance no_distance) (four 2 0 0 0) (four no_arc 0 no_arc no_arc) (five 3 2 1 1 2)) 49
    ∷ row 4 0 (five 0 0 1 2 1) (five 1 2 2 3 3) (five down down down down down) (one 0)
    (found (extent 1 0) (steps 0 0 0 0 0) (four 0 no_distance no_distance no_distance) (four 0 0 0 0) (four no_arc no_arc no_arc no_arc) (five 1 1 1 1 1)) 49
    -- of two parallel arcs the first is down: the second is kept, and its position is 1
    ∷ row 2 0 (two 0 0) (two 1 1) (two down 4) (one 1) (found (extent 2 4) (steps 2 1 1 0 1) (two 0 4) (two 4 0) (two no_arc 1) (two 1 3)) 7
    -- an arc that is down has to have good ends all the same: 6 at its position, before a fault of a later arc
    ∷ row 2 0 (one 0) (one 2) (one down) (one 1) (refused_by 6 0) 7
    ∷ row 2 0 (two 2 0) (two 1 1) (two down 0) (one 1) (refused_by 6 0) 7
    ∷ row 2 0 (two 0 0) (two 1 1) (two down 0) (one 1) (refused_by 7 1) 7
    -- T with arcs 1 and 2 exchanged: node 2 hangs on arc 1, from node 1, though arc 2, from node 0, was met first
    ∷ row 4 0 (five 0 1 0 2 1) (five 1 2 2 3 3) (five 2 3 5 1 9) (one 3)
    (found (extent 4 6) (steps 12 6 6 0 6) (four 0 2 5 6) (four 6 4 1 0) (four no_arc 0 1 3) (five 3 3 1 3 1)) 49
    -- two equal bids: the path goes by the arc at the lower position, wherever it leads
    ∷ row 3 0 (two 0 0) (two 1 2) (two 2 2) (one 1)
    (found (extent 2 2) (steps 2 1 1 0 1) (three 0 2 no_distance) (three 2 0 0) (three no_arc 0 no_arc) (two 3 2)) 22
    ∷ row 3 0 (two 0 0) (two 2 1) (two 2 2) (one 2)
    (found (extent 2 2) (steps 2 1 1 0 1) (three 0 no_distance 2) (three 2 0 0) (three no_arc no_arc 0) (two 3 2)) 22
    ∷ row 3 0 (two 0 0) (two 1 2) (two 2 2) (two 1 2)
    (found (extent 3 2) (steps 4 1 2 1 3) (three 0 2 2) (three 2 0 0) (three no_arc 0 1) (two 3 3)) 22
    -- a child is lost to another node: the node scans, though the child that it remembers is as it was
    ∷ row 5 0 (five 0 0 1 1 2) (five 1 2 3 4 4) (five 1 1 1 2 1) (one 4)
    (found (extent 5 2) (steps 12 4 6 2 9) (five 0 1 1 2 2) (five 2 1 1 0 0) (five no_arc 0 1 2 4) (five 3 3 3 1 3)) 92
    -- another origin than 0: it stays on the path at its contraction
    ∷ row 2 1 (one 1) (one 0) (one 4) (one 0) (found (extent 2 4) (steps 2 1 1 0 1) (two 4 0) (two 0 4) (two 0 no_arc) (one 3)) 7
    ∷ T 4 2 (one 3)
    (found (extent 2 1) (steps 2 1 1 0 1) (four no_distance no_distance 0 1) (four 0 0 1 0) (four no_arc no_arc no_arc 3) (five 0 1 1 3 1)) 49
    -- an arc from an unreached node to a reached one has mark 1, however short it is
    ∷ row 3 0 (two 0 2) (two 1 1) (two 4 1) (one 1)
    (found (extent 2 4) (steps 2 1 1 0 1) (three 0 4 no_distance) (three 4 0 0) (three no_arc 0 no_arc) (two 3 1)) 22
    -- a wanted node repeated
    ∷ T 4 0 (three 3 1 3) (found (extent 4 6) (steps 9 5 4 0 5) (four 0 2 5 6) (four 6 4 1 0) (four no_arc 0 1 3) (five 3 3 1 3 1)) 49
    -- no route to the second of three wanted nodes; no route and no arcs
    ∷ T 5 0 (three 0 4 3)
    (no_route_at 1 (extent 4 6) (steps 14 6 5 3 9) (five 0 2 5 6 no_distance) (five 6 4 1 0 0) (five no_arc 0 1 3 no_arc) (five 3 3 1 3 1)) 92
    ∷ row 2 0 [] [] [] (one 1) (no_route_at 0 (extent 1 0) (steps 0 0 0 0 0) (two 0 no_distance) (two 0 0) (two no_arc no_arc) []) 7
    -- refusal 1: no node; a node too many
    ∷ row 0 0 [] [] [] [] (refused_by 1 0) 0
    ∷ row 1025 0 [] [] [] [] (refused_by 1 0) 717929472
    -- refusal 2: two tails, one head; two lengths, one tail and one head
    ∷ row 2 0 (two 0 0) (one 1) (two 4 4) (one 1) (refused_by 2 0) 7
    ∷ row 2 0 (one 0) (one 1) (two 4 4) (one 1) (refused_by 2 0) 7
    -- refusal 3: three distances, three prices, a tree of five entries, four marks
    ∷ lending (lent 3 4 4 5) (T 4 0 (one 3) (refused_by 3 0) 49)
    ∷ lending (lent 4 3 4 5) (T 4 0 (one 3) (refused_by 3 0) 49)
    ∷ lending (lent 4 4 5 5) (T 4 0 (one 3) (refused_by 3 0) 49)
    ∷ lending (lent 4 4 4 4) (T 4 0 (one 3) (refused_by 3 0) 49)
    -- refusal 4: the origin is no node
    ∷ T 4 4 (one 3) (refused_by 4 0) 49
    -- refusal 5: the second wanted node is none
    ∷ T 4 0 (two 3 4) (refused_by 5 1) 49
    -- refusal 6: a head, and the second arc's tail, that is no node
    ∷ row 1 0 (one 0) (one 1) (one 1) (one 0) (refused_by 6 0) 0
    ∷ row 2 0 (two 0 2) (two 1 1) (two 4 4) (one 1) (refused_by 6 1) 7
    -- refusal 7: the second arc's length is 0
    ∷ row 2 0 (two 0 0) (two 1 1) (two 4 0) (one 1) (refused_by 7 1) 7
    -- of two refusals the one with the lower number: 1 before 2, 2 before 3, 3 before 4, 4 before 5, 5 before 6
    ∷ row 0 0 (two 0 0) (one 1) (two 4 4) (one 1) (refused_by 1 0) 0
    ∷ lending (lent 2 1 2 2) (row 2 0 (two 0 0) (one 1) (two 4 4) (one 1) (refused_by 2 0) 7)
    ∷ lending (lent 4 3 4 5) (T 4 4 (one 3) (refused_by 3 0) 49)
    ∷ T 4 4 (one 4) (refused_by 4 0) 49
    ∷ row 4 0 (one 0) (one 4) (one 1) (one 4) (refused_by 5 0) 49
    -- 6 before 7 at one arc; of two arcs the earlier one's
    ∷ row 2 0 (one 0) (one 2) (one 0) (one 1) (refused_by 6 0) 7
    ∷ row 2 0 (two 0 0) (two 1 2) (two 0 4) (one 1) (refused_by 7 0) 7
    ∷ []

-- how many arcs have mark 0, 1, 2 and 3
unfoldable pub tally : (marks : List ℕ) → List ℕ
tally ms = four (how_many 0 ms) (how_many 1 ms) (how_many 2 ms) (how_many 3 ms)

-- the tallies that the first eight rows have to give
unfoldable pub tallies : List (List ℕ)
tallies =
    -- T, wanted 3; wanted 1; with a fifth node, wanted 4; wanted list empty; wanted only 0
    four 0 2 0 3
    ∷ four 1 1 2 1
    ∷ four 0 2 0 3
    ∷ four 3 0 2 0
    ∷ four 3 0 2 0
    -- one node, no arcs; one node, a loop; two equal arcs
    ∷ four 0 0 0 0
    ∷ four 0 1 0 0
    ∷ four 0 1 0 1
    ∷ []

-- the refusal of so many nodes, so many arcs 0 to 1 of length 1, and node 0 so many times wanted
unfoldable pub refusal_at : (nodes arcs wanted : ℕ) → Refusal
refusal_at n m k =
    let b = lent n n n m in
    plan_refusal n 0 (replicate m 0) (replicate m 1) (replicate m 1) (replicate k 0) b.distances b.prices b.tree b.marks

-- THE JOINT RESULT
pub record RackHolds : Type 0 where
  -- each row gives what it has to give, and its bound is the bound;
  pub answers : map given rack ≡ map due rack
  pub bounds : map (λ r. most_iterations r.n) rack ≡ map (λ r. r.bound) rack
  -- the marks of the first eight have these tallies;
  pub marks_tallied : map (λ r. tally (given r).marks) (take 8 rack) ≡ tallies
  -- 1,024 nodes, 6,000 arcs and 1,024 wanted nodes are not refused, and one more of each is;
  pub most : refusal_at 1024 6000 1024 ≡ no_refusal
  pub too_many_nodes : refusal_at 1025 6000 1024 ≡ refusal 1 0
  pub too_many_arcs : refusal_at 1024 6001 1024 ≡ refusal 2 0
  pub too_many_wanted : refusal_at 1024 6000 1025 ≡ refusal 5 1024
  -- a wanted list that is too long is refused at 1024, whatever stands in it
  pub long_wanted : (n : ℕ) (wanted : List ℕ) → most_wanted < length wanted → wanted_refusal n wanted ≡ refusal 5 1024

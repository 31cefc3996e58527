-- Link tables and walks. Assumes nothing: these are definitions.
--
-- A link is an ARC: it leads from its tail (the near end) to its head (the far end) and has a length. An arc's POSITION is its place in the
-- table, counted from 0. Parallel arcs and loops are allowed. A WALK is a list of positions, each arc's tail the head of the one before; it
-- may pass a node or an arc more than once, and the empty walk leads from a node to itself.
--
-- An arc is ABSENT where its length says that the link is down, and PRESENT otherwise. An absent arc keeps its position and has to be as good as any
-- other, but it leaves no node: so it is in no walk, and the auction never sees it.
use Rattle.std.specs.Prelude.{Bool, true, ◌&&◌, not, cond, List, [], ◌∷◌, map, ℕ, ◌+◌, ◌<◌, ltb, leb, eqb, length, get_or}

-- the most nodes, arcs and wanted nodes; the greatest number that stands as a length; the one that says that the link is down, so that the greatest
-- length in use is one less; what stands for no node, for no arc and for no distance
abbrev pub most_nodes : ℕ
most_nodes = 1024

abbrev pub most_arcs : ℕ
most_arcs = 6000

abbrev pub most_wanted : ℕ
most_wanted = 1024

abbrev pub longest : ℕ
longest = 4294967295

abbrev pub down : ℕ
down = 4294967295

abbrev pub no_node : ℕ
no_node = 65535

abbrev pub no_arc : ℕ
no_arc = 65535

abbrev pub no_distance : ℕ
no_distance = 18446744073709551615

pub record Arc : Type 0 where
  pub tail : ℕ
  pub head : ℕ
  pub arc_length : ℕ

-- n nodes, numbered from 0, one of them the origin, and the arcs
pub record Table : Type 0 where
  pub n : ℕ
  pub origin : ℕ
  pub arcs : List Arc

unfoldable pub arc : (tail head arc_length : ℕ) → Arc
arc t h l = record { tail = t; head = h; arc_length = l }

unfoldable pub table : (n origin : ℕ) → List Arc → Table
table n o as_listed = record { n = n; origin = o; arcs = as_listed }

-- the table that three columns of equal length hold
unfoldable pub arcs_of : (tails heads lengths : List ℕ) → List Arc
arcs_of [] hs ls = []
arcs_of (t ∷ ts) [] ls = []
arcs_of (t ∷ ts) (h ∷ hs) [] = []
arcs_of (t ∷ ts) (h ∷ hs) (l ∷ ls) = arc t h l ∷ arcs_of ts hs ls

-- the columns of arcs
unfoldable pub tails_of : List Arc → List ℕ
tails_of arcs = map (λ (a : Arc). a.tail) arcs

unfoldable pub heads_of : List Arc → List ℕ
heads_of arcs = map (λ (a : Arc). a.head) arcs

unfoldable pub lengths_of : List Arc → List ℕ
lengths_of arcs = map (λ (a : Arc). a.arc_length) arcs

unfoldable pub table_of : (n origin : ℕ) → (tails heads lengths : List ℕ) → Table
table_of n o ts hs ls = table n o (arcs_of ts hs ls)

-- how many arcs there are; the arc at a position
unfoldable pub arc_count : Table → ℕ
arc_count t = length t.arcs

unfoldable pub arc_at : Table → (i : ℕ) → Arc
arc_at t i = get_or t.arcs i (arc no_arc no_arc 0)

-- an arc is present where its link is not down
unfoldable pub present : Arc → Bool
present a = not (eqb a.arc_length down)

unfoldable pub present_at : Table → (i : ℕ) → Bool
present_at t i = present (arc_at t i)

-- the node that it leaves; an absent arc leaves none
unfoldable pub tail_at : Table → (i : ℕ) → ℕ
tail_at t i = cond (present_at t i) (arc_at t i).tail no_node

-- its head and its length
unfoldable pub head_at : Table → (i : ℕ) → ℕ
head_at t i = (arc_at t i).head

unfoldable pub length_at : Table → (i : ℕ) → ℕ
length_at t i = (arc_at t i).arc_length

-- the arcs at these positions lead from one node to another
unfoldable pub leads : Table → (from : ℕ) → (positions : List ℕ) → (to : ℕ) → Bool
leads t v [] w = eqb v w
leads t v (i ∷ is) w = (ltb i (arc_count t) && eqb (tail_at t i) v) && leads t (head_at t i) is w

-- a walk from the origin to a node
unfoldable pub is_walk : Table → (positions : List ℕ) → (to : ℕ) → Bool
is_walk t is v = leads t t.origin is v

unfoldable pub walk_length : Table → (positions : List ℕ) → ℕ
walk_length t [] = 0
walk_length t (i ∷ is) = length_at t i + walk_length t is

-- nodes below n; arcs between nodes below n, of length 1 to the greatest
unfoldable pub nodes_below : (n : ℕ) → List ℕ → Bool
nodes_below n [] = true
nodes_below n (v ∷ vs) = ltb v n && nodes_below n vs

unfoldable pub arc_good : (n : ℕ) → Arc → Bool
arc_good n a = (ltb a.tail n && ltb a.head n) && (leb 1 a.arc_length && leb a.arc_length longest)

unfoldable pub arcs_good : (n : ℕ) → List Arc → Bool
arcs_good n [] = true
arcs_good n (a ∷ more) = arc_good n a && arcs_good n more

-- a table with its wanted list as 01 has them: what Refusals.antt does not refuse
unfoldable pub is_table : Table → (wanted : List ℕ) → Bool
is_table t ws =
    ((leb 1 t.n && leb t.n most_nodes) && (ltb t.origin t.n && leb (arc_count t) most_arcs))
    && (arcs_good t.n t.arcs && (leb (length ws) most_wanted && nodes_below t.n ws))

-- every element of a column is below a bound, as its type has it
unfoldable pub Below : (bound : ℕ) → List ℕ → Type 0
Below b xs = (i : ℕ) → get_or xs i 0 < b

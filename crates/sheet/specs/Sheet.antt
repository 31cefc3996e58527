-- The printed sheet: which lines it has, from a table and its plan. Assumes nothing: these are definitions.
use Rattle.std.specs.Prelude.{Bool, true, false, ◌&&◌, ◌||◌, not, cond, List, [], ◌∷◌, ◌++◌, map, ℕ, zero, suc, min, eqb, ltb, length, get_or}
use Rattle.table.specs.Table.{most_nodes, no_arc, no_distance}
use Rattle.auction.specs.HandOver.{Answer, how_many}
use Rattle.auction.specs.Demands.{distance_of, price_of, link_of}
use Rattle.listing.specs.Listing.{tree_in, listing}
use Rattle.sheet.specs.Text.{text, decimal, spaced}

-- what a sheet is printed from: the table's origin, tails and heads, the nodes that have a path line, in order, and the plan's answer with its
-- buffers
pub record Finished : Type 0 where
  pub origin : ℕ
  pub tails : List ℕ
  pub heads : List ℕ
  pub order : List ℕ
  pub answer : Answer

abbrev pub to_print : (origin : ℕ) → (tails heads order : List ℕ) → Answer → Finished
to_print o ts hs vs a = record { origin = o; tails = ts; heads = hs; order = vs; answer = a }

-- THE LINES, each with its line end
unfoldable pub refused_line : (number place : ℕ) → List ℕ
refused_line n p = text "refused " ++ decimal n ++ text " at " ++ decimal p ++ text "\n"

unfoldable pub reached_line : (reached horizon iterations : ℕ) → List ℕ
reached_line r h i = text "reached " ++ decimal r ++ text " horizon " ++ decimal h ++ text " iterations " ++ decimal i ++ text "\n"

unfoldable pub counts_line : (contractions extensions deletions : ℕ) → List ℕ
counts_line c e d =
    text "contractions " ++ decimal c ++ text " extensions " ++ decimal e ++ text " deletions " ++ decimal d ++ text "\n"

unfoldable pub arc_text : (arc : ℕ) → List ℕ
arc_text i = cond (eqb i no_arc) (text "-") (decimal i)

unfoldable pub node_line : (node distance price arc : ℕ) → List ℕ
node_line v d p i =
    text "node " ++ decimal v ++ text " distance " ++ decimal d ++ text " price " ++ decimal p ++ text " arc " ++ arc_text i ++ text "\n"

unfoldable pub path_line : (node : ℕ) → (nodes : List ℕ) → List ℕ
path_line v vs = spaced (text "path " ++ decimal v ++ text ":") vs ++ text "\n"

unfoldable pub marks_line : (unreached dropped kept tree : ℕ) → List ℕ
marks_line u d k t =
    text "marks " ++ decimal u ++ text " " ++ decimal d ++ text " " ++ decimal k ++ text " " ++ decimal t ++ text "\n"

-- THE NODES that have a line: those with a distance. Each comes once, ascending.
unfoldable pub node_count : (distances : List ℕ) → ℕ
node_count ds = min (length ds) most_nodes

unfoldable pub has_distance : (distances : List ℕ) → (v : ℕ) → Bool
has_distance ds v = not (eqb (get_or ds v no_distance) no_distance)

-- those of `left` nodes from v on that pass a test, ascending
unfoldable pub with_node : Bool → (v : ℕ) → List ℕ → List ℕ
with_node true v more = v ∷ more
with_node false v more = more

unfoldable pub passing : (test : ℕ → Bool) → (left v : ℕ) → List ℕ
passing f zero v = []
passing f (suc k) v = with_node (f v) v (passing f k (suc v))

unfoldable pub reached_nodes : Finished → List ℕ
reached_nodes p = passing (has_distance p.answer.distances) (node_count p.answer.distances) 0

-- THE ORDER of the path lines: by distance, and at equal distances by node number. Whether node v comes before node u:
unfoldable pub before : (distances : List ℕ) → (v u : ℕ) → Bool
before ds v u =
    let d = get_or ds v no_distance in
    let e = get_or ds u no_distance in
    ltb d e || (eqb d e && ltb v u)

-- a node is put in order: behind those that come before it, unless it is there already
unfoldable pub insert : (distances : List ℕ) → (v : ℕ) → (nodes : List ℕ) → List ℕ
insert ds v [] = v ∷ []
insert ds v (u ∷ us) = cond (before ds u v) (u ∷ insert ds v us) (cond (eqb u v) (u ∷ us) (v ∷ u ∷ us))

-- THE NODES that have a path line: those with a line that are wanted. Each comes once, in order.
unfoldable pub has_line : (distances : List ℕ) → (v : ℕ) → Bool
has_line ds v = ltb v (node_count ds) && has_distance ds v

unfoldable pub path_nodes : (distances wanted : List ℕ) → List ℕ
path_nodes ds [] = []
path_nodes ds (w ∷ ws) = cond (has_line ds w) (insert ds w (path_nodes ds ws)) (path_nodes ds ws)

-- a plan that is finished, of a table with this wanted list
abbrev pub finished : (origin : ℕ) → (tails heads wanted : List ℕ) → Answer → Finished
finished o ts hs ws a = to_print o ts hs (path_nodes a.distances ws) a

unfoldable pub node_lines : Finished → (nodes : List ℕ) → List (List ℕ)
node_lines p vs = map (λ v. node_line v (distance_of p.answer v) (price_of p.answer v) (link_of p.answer v)) vs

unfoldable pub path_lines : Finished → (nodes : List ℕ) → List (List ℕ)
path_lines p vs = map (λ v. path_line v (listing p.origin v (tree_in p.tails p.heads p.answer.tree) most_nodes).nodes) vs

-- how many arcs have each of the four marks
unfoldable pub marks_lines : (marks : List ℕ) → List (List ℕ)
marks_lines ms = marks_line (how_many 0 ms) (how_many 1 ms) (how_many 2 ms) (how_many 3 ms) ∷ []

-- THE SHEET: the refusal's line first; nothing else but where the plan was made, which is without a refusal or on number 8
unfoldable pub after_nodes : Finished → List (List ℕ)
after_nodes p = path_lines p p.order ++ marks_lines p.answer.marks

unfoldable pub after_counts : Finished → List (List ℕ)
after_counts p = node_lines p (reached_nodes p) ++ after_nodes p

unfoldable pub from_counts : Finished → List (List ℕ)
from_counts p = counts_line p.answer.contractions p.answer.extensions p.answer.deletions ∷ after_counts p

unfoldable pub from_reached : Finished → List (List ℕ)
from_reached p = reached_line p.answer.reached p.answer.horizon p.answer.iterations ∷ from_counts p

unfoldable pub sheet : Finished → List (List ℕ)
sheet p =
    cond (eqb p.answer.number 0) (from_reached p)
    (refused_line p.answer.number p.answer.place ∷ cond (eqb p.answer.number 8) (from_reached p) [])

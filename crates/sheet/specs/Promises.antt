-- What is promised of a sheet. Each promise is a type; its proof, by the same name in small letters, stands in proofs/Promised.antt. Assumes nothing.
use Rattle.std.specs.Prelude.{◌≡◌, Bool, true, false, ◌&&◌, ◌||◌, cond, List, [], ◌∷◌, ◌++◌, map, ◌⊎◌, ℕ, ◌^◌, ◌<◌, eqb, length, get_or}
use Rattle.table.specs.Table.{Table, table_of, arc_count, no_distance, Below}
use Rattle.auction.specs.HandOver.{Answer, how_many}
use Rattle.auction.specs.Plan.{plan}
use Rattle.auction.specs.Promises.{Tallied}
use Rattle.auction.specs.Demands.{Given, distance_of, price_of, link_of, walk_of}
use Rattle.listing.specs.Promises.{nodes_of_walk}
use Rattle.sheet.specs.Sheet.{Finished, finished, refused_line, reached_line, counts_line, node_line, path_line, node_count, has_distance, reached_nodes, marks_lines, sheet}

-- EACH PATH LINE ONCE, whatever the buffers hold: a node that has a distance and is wanted, however often, has one path line, and no other node has any.
unfoldable pub holds : (v : ℕ) → List ℕ → Bool
holds v [] = false
holds v (w ∷ ws) = eqb w v || holds v ws

unfoldable pub has_path : (distances wanted : List ℕ) → (v : ℕ) → Bool
has_path ds ws v = has_distance ds v && holds v ws

pub record Once (p : Finished) (ws : List ℕ) (v : ℕ) : Type 0 where
  pub once : v < node_count p.answer.distances → has_path p.answer.distances ws v ≡ true → how_many v p.order ≡ 1
  pub never : (v < node_count p.answer.distances → has_path p.answer.distances ws v ≡ false) → how_many v p.order ≡ 0

unfoldable pub EachOnce : Type 0
EachOnce = (o : ℕ) (tails heads wanted : List ℕ) (a : Answer) (v : ℕ) → Once (finished o tails heads wanted a) wanted v

-- IN ORDER, whatever the buffers hold: of two path lines the upper one's node has the smaller distance, or the same distance and the smaller number.
unfoldable pub Upper : (distances : List ℕ) → (v u : ℕ) → Type 0
Upper ds v u =
    let d = get_or ds v no_distance in
    let e = get_or ds u no_distance in
    (d < e) ⊎ ((d ≡ e) × (v < u))

unfoldable pub NearestFirst : (distances nodes : List ℕ) → Type 0
NearestFirst ds vs = (i j : ℕ) → i < j → j < length vs → Upper ds (get_or vs i 0) (get_or vs j 0)

unfoldable pub InOrder : Type 0
InOrder = (o : ℕ) (tails heads wanted : List ℕ) (a : Answer) → NearestFirst a.distances (finished o tails heads wanted a).order

-- THE WANTED LIST'S ORDER DOES NOT SHOW: of one answer, two lists that hold the same nodes, in whatever order and however often, print the same sheet.
unfoldable pub OrderUnseen : Type 0
OrderUnseen =
    (o : ℕ) (tails heads wanted wanted' : List ℕ) (a : Answer) → ((v : ℕ) → holds v wanted ≡ holds v wanted') →
    sheet (finished o tails heads wanted a) ≡ sheet (finished o tails heads wanted' a)

-- WHERE A PLAN WAS MADE, the sheet shows it: after the refusal's line, if there is one, come the two lines of totals, a line for each node that was given
-- a walk, a path line for each of these that is wanted, which lists the nodes of the walk returned to it, and how many arcs have each of the four marks.
unfoldable pub refusal_lines : Answer → List (List ℕ)
refusal_lines a = cond (eqb a.number 0) [] (refused_line a.number a.place ∷ [])

unfoldable pub totals_lines : Answer → List (List ℕ)
totals_lines a =
    reached_line a.reached a.horizon a.iterations ∷ counts_line a.contractions a.extensions a.deletions ∷ []

pub record Shows (t : Table) (ws : List ℕ) (p : Finished) (a : Answer) : Type 0 where
  pub lines :
      sheet p
      ≡ refusal_lines a
      ++ totals_lines a
      ++ map (λ v. node_line v (distance_of a v) (price_of a v) (link_of a v)) (reached_nodes p)
      ++ map (λ v. path_line v (nodes_of_walk t (walk_of t a v))) p.order
      ++ marks_lines a.marks
  -- each node that was given a walk has one line, and no other has any;
  pub nodes : (v : ℕ) → Given a v → how_many v (reached_nodes p) ≡ 1
  pub no_others : (v : ℕ) → (Given a v → ⊥) → how_many v (reached_nodes p) ≡ 0
  -- each of these that is wanted has one path line, and no other has any; the nearer nodes come first, at equal distances the smaller node numbers
  pub paths : (v : ℕ) → Given a v → holds v ws ≡ true → how_many v p.order ≡ 1
  pub no_other_paths : (v : ℕ) → (Given a v → holds v ws ≡ false) → how_many v p.order ≡ 0
  pub nearest_first : NearestFirst a.distances p.order
  -- the four numbers of the last line add up to the arcs, and the last of them is one less than the nodes reached, which have as many lines
  pub tallied : Tallied (arc_count t) a.reached a.marks
  pub reached : length (reached_nodes p) ≡ a.reached

unfoldable pub PlansPrinted : Type 0
PlansPrinted =
    (n o : ℕ) (tails heads lengths wanted distances prices tree marks : List ℕ) →
    let a = plan n o tails heads lengths wanted distances prices tree marks in
    Below (2 ^ 32) lengths → (a.number ≡ 0) ⊎ (a.number ≡ 8) → Shows (table_of n o tails heads lengths) wanted (finished o tails heads wanted a) a

-- Any other number prints its line and nothing else.
unfoldable pub RefusalsPrinted : Type 0
RefusalsPrinted =
    (p : Finished) → (p.answer.number ≡ 0 → ⊥) → (p.answer.number ≡ 8 → ⊥) → sheet p ≡ refused_line p.answer.number p.answer.place ∷ []

-- ALL OF THEM together: the one theorem `promised` of proofs/Promised.antt
pub record Promises : Type 0 where
  pub each_once : EachOnce
  pub in_order : InOrder
  pub order_unseen : OrderUnseen
  pub plans_printed : PlansPrinted
  pub refusals_printed : RefusalsPrinted

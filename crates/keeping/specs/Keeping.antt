-- KEEPING THE STANDING PATH: which of two lists of nodes is given, for every input. Assumes nothing: these are definitions.
--
-- The STANDING list is the path in use, the FRESH one that of a new plan. The standing list is kept where it is still a walk of the table between the fresh
-- list's first and last node, and its total is no greater than the fresh one's. What is given is a part of one of the two lists that are lent.
use Rattle.std.specs.Prelude.{◌≡◌, Bool, false, ◌&&◌, cond, List, [], ◌∷◌, ℕ, zero, suc, ◌+◌, ◌-◌, ltb, leb, eqb, length, get_or, take}
use Rattle.std.proofs.Math.Option.{Option, none, some}
use Rattle.std.specs.Borrow.{Bor}
use Rattle.table.specs.Table.{Table, arcs_of, table_of, arc_count, tail_at, head_at, length_at, most_nodes}
use Rattle.table.specs.Refusals.{Refusal, refusal, no_refusal, or_else, count_bad, columns_bad, arcs_refusal}
use Rattle.table.specs.Slices.{Slice, was}
use Rattle.keeping.specs.declared.Kept.{Kept}

-- the lesser of two lengths, where there are two
unfoldable pub lesser : Option ℕ → Option ℕ → Option ℕ
lesser none b = b
lesser (some a) none = some a
lesser (some a) (some b) = some (cond (leb a b) a b)

-- the length of the arc at a position, where it leads from u to v; an arc that is absent leaves no node
unfoldable pub between : Table → (u v i : ℕ) → Option ℕ
between t u v i = cond (eqb (tail_at t i) u && eqb (head_at t i) v) (some (length_at t i)) none

unfoldable pub shortest_from : (left position : ℕ) → Table → (u v : ℕ) → Option ℕ
shortest_from zero i t u v = none
shortest_from (suc k) i t u v = lesser (between t u v i) (shortest_from k (suc i) t u v)

-- A STEP from u to v counts with the shortest arc between them; none where there is no arc
unfoldable pub step_length : Table → (u v : ℕ) → Option ℕ
step_length t u v = shortest_from (arc_count t) 0 t u v

-- two lengths together, none where one of them is none
unfoldable pub plus : Option ℕ → Option ℕ → Option ℕ
plus none b = none
plus (some a) none = none
plus (some a) (some b) = some (a + b)

-- THE TOTAL of a list of nodes. It has one where it is a walk: where it has a node, its nodes are below n and each step has an arc.
unfoldable pub total : Table → List ℕ → Option ℕ
total t [] = none
total t (v ∷ []) = cond (ltb v t.n) (some 0) none
total t (u ∷ v ∷ vs) = cond (ltb u t.n) (plus (step_length t u v) (total t (v ∷ vs))) none

-- the same of a list that is lent, which has at most 1,024 nodes
unfoldable pub lent_total : Table → List ℕ → Option ℕ
lent_total t vs = cond (ltb most_nodes (length vs)) none (total t vs)

-- its first and its last node
unfoldable pub first_node : List ℕ → ℕ
first_node vs = get_or vs 0 0

unfoldable pub last_node : List ℕ → ℕ
last_node vs = get_or vs (length vs - 1) 0

unfoldable pub same_ends : List ℕ → List ℕ → Bool
same_ends vs ws = eqb (first_node vs) (first_node ws) && eqb (last_node vs) (last_node ws)

-- both are totals, and the first is no greater
unfoldable pub no_greater : Option ℕ → Option ℕ → Bool
no_greater none b = false
no_greater (some a) none = false
no_greater (some a) (some b) = leb a b

-- WHETHER THE STANDING LIST IS KEPT
unfoldable pub stays : Table → (standing fresh : List ℕ) → Bool
stays t standing fresh = same_ends standing fresh && no_greater (lent_total t standing) (lent_total t fresh)

-- THE TABLE of the columns. Keeping asks for no origin; node 0, which every table has, stands in its place.
unfoldable pub table_in : (n : ℕ) → (tails heads lengths : List ℕ) → Table
table_in n ts hs ls = table_of n 0 ts hs ls

-- 15: the fresh list is empty, has more than 1,024 nodes, or is no walk
unfoldable pub fresh_refusal : (fresh_total : Option ℕ) → Refusal
fresh_refusal none = refusal 15 0
fresh_refusal (some d) = no_refusal

-- THE REFUSAL: 1, 2, then 6 and 7 arc by arc, then 15. The standing list is never refused.
unfoldable pub keep_refusal : (n : ℕ) → (tails heads lengths fresh : List ℕ) → Refusal
keep_refusal n ts hs ls fresh =
    cond (count_bad n) (refusal 1 0)
    (cond (columns_bad (length ts) (length hs) (length ls)) (refusal 2 0)
    (or_else (arcs_refusal n (arcs_of ts hs ls)) (fresh_refusal (lent_total (table_in n ts hs ls) fresh))))

unfoldable pub kept : (number place standing count : ℕ) → Kept
kept a p s c = record { number = a; place = p; standing = s; count = c }

-- the answer where nothing is refused: one of the lists, whole
unfoldable pub choice : Table → (standing fresh : List ℕ) → Kept
choice t standing fresh = cond (stays t standing fresh) (kept 0 0 1 (length standing)) (kept 0 0 0 (length fresh))

-- THE ANSWER; a refusal gives an empty part of the fresh list
unfoldable pub keep : (n : ℕ) → (tails heads lengths standing fresh : List ℕ) → Kept
keep n ts hs ls standing fresh =
    let f = keep_refusal n ts hs ls fresh in
    cond (eqb f.number 0) (choice (table_in n ts hs ls) standing fresh) (kept f.number f.place 0 0)

-- THE LIST THAT IS GIVEN: the first nodes, as many as the answer says, of the list that it says
unfoldable pub is_standing : Kept → Bool
is_standing k = eqb k.standing 1

unfoldable pub given : Kept → (standing fresh : List ℕ) → List ℕ
given k standing fresh = take k.count (cond (is_standing k) standing fresh)

-- the answer of the slices that are lent
abbrev pub keeps : (n : ℕ) → (tails heads lengths standing fresh : Slice) → Kept
keeps n ts hs ls standing fresh = keep n (was ts) (was hs) (was ls) (was standing) (was fresh)

-- A PART OF A LENT LIST, and no copy: it has the nodes that are given, and it begins in memory where the list that it is a part of begins.
pub record Part (k : Kept) (standing fresh part : Bor (List ℕ)) : Type 0 where
  pub nodes : part.now ≡ given k standing.now fresh.now
  pub begins : part.ref_ptr ≡ cond (is_standing k) standing.ref_ptr fresh.ref_ptr

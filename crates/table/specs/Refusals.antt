-- The refusals 1 to 7 of a table, in the order in which they are tested. Assumes nothing: these are definitions.
--
-- A REFUSAL, as a caller is told it, is a number, which is document 01's, and a place, 0 where none is named. Number 0 is no refusal.
use Rattle.std.specs.Prelude.{Bool, true, ◌&&◌, ◌||◌, not, cond, List, [], ◌∷◌, ℕ, suc, ltb, leb, eqb, length}
use Rattle.table.specs.Table.{Arc, arcs_of, most_nodes, most_arcs, most_wanted}

pub record Refusal : Type 0 where
  pub number : ℕ
  pub place : ℕ

unfoldable pub refusal : (number place : ℕ) → Refusal
refusal n p = record { number = n; place = p }

unfoldable pub no_refusal : Refusal
no_refusal = refusal 0 0

unfoldable pub or_else : Refusal → Refusal → Refusal
or_else a b = cond (eqb a.number 0) b a

-- 1: n is 0 or above the most nodes
unfoldable pub count_bad : (n : ℕ) → Bool
count_bad n = eqb n 0 || ltb most_nodes n

-- 2: columns of these lengths are unequal, or have too many arcs
unfoldable pub columns_bad : (tails heads lengths : ℕ) → Bool
columns_bad t h l = not (eqb t h && eqb h l) || ltb most_arcs t

-- 3: a buffer's length and the one it needs
pub record Room : Type 0 where
  pub has : ℕ
  pub needs : ℕ

unfoldable pub room : (has needs : ℕ) → Room
room h n = record { has = h; needs = n }

unfoldable pub rooms_fit : List Room → Bool
rooms_fit [] = true
rooms_fit (r ∷ rs) = eqb r.has r.needs && rooms_fit rs

-- 3, of columns that are lent to be filled: one of them is shorter than a table may need
unfoldable pub columns_short : (tails heads lengths : ℕ) → Bool
columns_short t h l = ltb t most_arcs || (ltb h most_arcs || ltb l most_arcs)

-- 5: too many wanted nodes, or the first one not below n
unfoldable pub wanted_from : (place n : ℕ) → List ℕ → Refusal
wanted_from i n [] = no_refusal
wanted_from i n (w ∷ ws) = cond (ltb w n) (wanted_from (suc i) n ws) (refusal 5 i)

unfoldable pub wanted_refusal : (n : ℕ) → List ℕ → Refusal
wanted_refusal n ws = cond (ltb most_wanted (length ws)) (refusal 5 most_wanted) (wanted_from 0 n ws)

-- 6 and 7: an arc's fault, its ends before its length, also where the arc is absent; the first arc with a fault
unfoldable pub arc_fault : (n : ℕ) → Arc → ℕ
arc_fault n a = cond (leb n a.tail || leb n a.head) 6 (cond (eqb a.arc_length 0) 7 0)

unfoldable pub arcs_from : (place n : ℕ) → List Arc → Refusal
arcs_from i n [] = no_refusal
arcs_from i n (a ∷ more) = cond (eqb (arc_fault n a) 0) (arcs_from (suc i) n more) (refusal (arc_fault n a) i)

unfoldable pub arcs_refusal : (n : ℕ) → List Arc → Refusal
arcs_refusal n arcs = arcs_from 0 n arcs

-- 1 to 7 of a table given by its columns, with the buffers lent for the answer
unfoldable pub table_refusal : (n origin : ℕ) → (tails heads lengths wanted : List ℕ) → List Room → Refusal
table_refusal n o ts hs ls ws rooms =
    cond (count_bad n) (refusal 1 0)
    (cond (columns_bad (length ts) (length hs) (length ls)) (refusal 2 0)
    (cond (not (rooms_fit rooms)) (refusal 3 0)
    (cond (leb n o) (refusal 4 0) (or_else (wanted_refusal n ws) (arcs_refusal n (arcs_of ts hs ls))))))

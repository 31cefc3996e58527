-- The refusals 1 to 7, one after the other; of 5, 6 and 7, what is left to test from an index on. Assumes nothing.
use mathlib.Core.Path.{◌≡◌, refl, sym}
use mathlib.Core.Bool.{not, cond}
use mathlib.Core.List.{List, [], ◌∷◌}
use Prim.Native.Nat.{ℕ, ◌+◌, ◌≤◌, ◌<◌}
use native.Mathlib.Numerals.{add-one}
use lib.Dec.{ltb, leb}
use lib.ListN.{length, get_or, drop, drop_of_length-le}
use lib.Seq.{drop-cons}
use borrow.Author.Tests.{lt-ltb, le-ltb, eq-eqb, ne_eqb}
use Rattle.table.specs.Table.{Arc, arcs_of, most_wanted}
use Rattle.table.specs.declared.faults.Fault.{Fault}
use Rattle.table.specs.Told.{number}
use Rattle.table.proofs.Telling.{numbered, first}
use Rattle.table.specs.Refusals.{Room, refusal, no_refusal, or_else, count_bad, columns_bad, rooms_fit, table_refusal, wanted_from, wanted_refusal, arc_fault, arcs_from, arcs_refusal}

-- 1 TO 7 IN ORDER
pub in_order : (n o : ℕ) (ts hs ls ws : List ℕ) (rs : List Room) →
    or_else (cond (count_bad n) (refusal 1 0) no_refusal)
    (or_else (cond (columns_bad (length ts) (length hs) (length ls)) (refusal 2 0) no_refusal)
    (or_else (cond (not (rooms_fit rs)) (refusal 3 0) no_refusal)
    (or_else (cond (leb n o) (refusal 4 0) no_refusal) (or_else (wanted_refusal n ws) (arcs_refusal n (arcs_of ts hs ls))))))
    ≡ table_refusal n o ts hs ls ws rs
unfolding table_refusal
in_order n o ts hs ls ws rs =
    rw (
      ← first (count_bad n) 1 0 _ refl,
      ← first (columns_bad (length ts) (length hs) (length ls)) 2 0 _ refl,
      ← first (not (rooms_fit rs)) 3 0 _ refl,
      ← first (leb n o) 4 0 _ refl,
    )

-- 5
module _ (n : ℕ) (ws : List ℕ) where
  pub count_first : or_else (cond (ltb most_wanted (length ws)) (refusal 5 most_wanted) no_refusal) (wanted_from 0 n ws) ≡ wanted_refusal n ws
  unfolding wanted_refusal
  count_first = sym (first (ltb most_wanted (length ws)) 5 most_wanted _ refl)

  module _ (i : ℕ) (inside : i < length ws) where
    pub wanted_good : get_or ws i 0 < n → wanted_from (i + 1) n (drop (i + 1) ws) ≡ wanted_from i n (drop i ws)
    unfolding wanted_from
    wanted_good l = rw (drop-cons ws i 0 inside, lt-ltb (get_or ws i 0) n l, add-one i)

    pub wanted_bad : n ≤ get_or ws i 0 → refusal 5 i ≡ wanted_from i n (drop i ws)
    unfolding wanted_from
    wanted_bad l = rw (drop-cons ws i 0 inside, le-ltb (get_or ws i 0) n l)

  pub wanted_done : (i : ℕ) → length ws ≤ i → no_refusal ≡ wanted_from i n (drop i ws)
  unfolding wanted_from
  wanted_done i h = rw (drop_of_length-le ws h)

-- 6 and 7
module _ (n i : ℕ) {left : List Arc} where
  module _ {a : Arc} {more : List Arc} (e : left ≡ a ∷ more) where
    pub arc_good : arc_fault n a ≡ 0 → arcs_from (i + 1) n more ≡ arcs_from i n left
    unfolding arcs_from
    arc_good good = rw (e, eq-eqb (arc_fault n a) 0 good, add-one i)

    pub arc_bad : (f : Fault) → number f ≡ arc_fault n a → refusal (number f) i ≡ arcs_from i n left
    unfolding arcs_from
    arc_bad f bad = rw (e, ← bad, ne_eqb (number f) 0 (numbered f))

  pub arcs_done : left ≡ [] → no_refusal ≡ arcs_from i n left
  unfolding arcs_from
  arcs_done e = rw e

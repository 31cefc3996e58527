-- The exchanged table: arc by arc, and the one result about its walks. Assumes nothing.
use mathlib.Core.Path.{◌≡◌, refl, sym, ap, subst, ◌∙◌}
use mathlib.Core.Bool.{Bool, true, false, ◌&&◌, and_comm}
use mathlib.Core.List.{List, [], ◌∷◌, map, reverse_aux, reverse, reverse-reverse}
use mathlib.Core.Logic.{⊎_elim}
use Prim.Native.Nat.{ℕ, suc, ◌+◌, ◌<◌}
use native.Mathlib.Omega.{arith}
use lib.Dec.{ltb, eqb}
use lib.ListN.{get_or, length-map, get_or-map}
use borrow.Author.Tests.{eqb-true, lt-ltb, eq-eqb}
use Rattle.std.proofs.lemmas.Bool.{and_from, cases_Bool}
use Rattle.table.specs.Table.{Arc, Table, arc, table, arcs_of, table_of, is_table, arc_good, arcs_good, arc_count, arc_at, present, present_at, tail_at, head_at, length_at, leads, walk_length, no_arc}
use Rattle.auction.specs.Absent.{present_arcs, without_absent, present_from, place_of}
use Rattle.table.proofs.Present.{present_tail, leaves_present}
use Rattle.auction.proofs.Good.{Good, good}
use Rattle.auction.proofs.Back.{first}
use Rattle.collector.specs.Exchanged.{exchanged_arc, exchanged, ExchangedWalks, ExchangedTwice, ExchangedIsTable, ExchangedColumns, ExchangedWithoutAbsent}

-- THE TABLE
twice : (arcs : List Arc) → map exchanged_arc (map exchanged_arc arcs) ≡ arcs
unfolding exchanged_arc arc
twice [] = refl
twice (a ∷ arcs) = ap (λ l. a ∷ l) (twice arcs)

pub exchanged_twice : ExchangedTwice
unfolding ExchangedTwice exchanged table
exchanged_twice t = ap (λ l. table t.n t.origin l) (twice t.arcs)

pub columns : (ts hs ls : List ℕ) → arcs_of hs ts ls ≡ map exchanged_arc (arcs_of ts hs ls)
unfolding arcs_of exchanged_arc arc
columns [] [] ls = refl
columns [] (h ∷ hs) ls = refl
columns (t ∷ ts) [] ls = refl
columns (t ∷ ts) (h ∷ hs) [] = refl
columns (t ∷ ts) (h ∷ hs) (l ∷ ls) = ap (λ arcs. arc h t l ∷ arcs) (columns ts hs ls)

pub exchanged_columns : ExchangedColumns
unfolding ExchangedColumns exchanged table_of table
exchanged_columns n c ts hs ls = ap (λ arcs. table n c arcs) (columns ts hs ls)

pub count_kept : (t : Table) → arc_count (exchanged t) ≡ arc_count t
unfolding arc_count exchanged table
count_kept t = length-map t.arcs exchanged_arc

arcs_as_good : (n : ℕ) (arcs : List Arc) → arcs_good n (map exchanged_arc arcs) ≡ arcs_good n arcs
unfolding arcs_good arc_good exchanged_arc arc
arcs_as_good n [] = refl
arcs_as_good n (a ∷ more) = rw (arcs_as_good n more, and_comm (ltb a.head n) (ltb a.tail n))

pub exchanged_is_table : ExchangedIsTable
unfolding ExchangedIsTable is_table exchanged table
exchanged_is_table t ws = rw (count_kept t, arcs_as_good t.n t.arcs)

-- ARC BY ARC
module _ (t : Table) (i : ℕ) where
  arc_so : arc_at (exchanged t) i ≡ exchanged_arc (arc_at t i)
  unfolding arc_at exchanged table exchanged_arc arc
  arc_so = get_or-map exchanged_arc t.arcs i (arc no_arc no_arc 0)

  -- its tail there is its head, and its head there its tail
  pub tail_there : (arc_at (exchanged t) i).tail ≡ head_at t i
  unfolding head_at exchanged_arc arc
  tail_there = ap (λ a. a.tail) arc_so

  pub head_there : head_at (exchanged t) i ≡ (arc_at t i).tail
  unfolding head_at exchanged_arc arc
  head_there = ap (λ a. a.head) arc_so

  pub length_kept : length_at (exchanged t) i ≡ length_at t i
  unfolding length_at exchanged_arc arc
  length_kept = ap (λ a. a.arc_length) arc_so

  pub present_kept : present_at (exchanged t) i ≡ present_at t i
  unfolding present_at present exchanged_arc arc
  present_kept = ap present arc_so

  -- a present arc leaves its head there, and leads to its tail
  module _ (p : present_at t i ≡ true) where
    pub leaves_head : tail_at (exchanged t) i ≡ head_at t i
    leaves_head = present_tail (exchanged t) i (present_kept ∙ p) ∙ tail_there

    pub leads_to_tail : head_at (exchanged t) i ≡ tail_at t i
    leads_to_tail = head_there ∙ sym (present_tail t i p)

-- WALK BY WALK, on a table that is not refused
module _ (t : Table) (g : Good t) where
  -- an arc that leaves a node there is present
  pub leaves_there : (i : ℕ) → tail_at (exchanged t) i < t.n → present_at t i ≡ true
  unfolding exchanged table
  leaves_there i low = sym (present_kept t i) ∙ leaves_present (exchanged t) i g.few_nodes low

  -- the arcs of a walk there, backwards, and then those of a walk here from where it began
  turned : (is onward : List ℕ) (v w u : ℕ) → v < t.n → leads (exchanged t) v is w ≡ true → leads t v onward u ≡ true →
      leads t w (reverse_aux is onward) u ≡ true
  unfolding leads
  turned [] onward v w u low e on = subst (λ (z : ℕ). leads t z onward u ≡ true) (eqb-true v w e) on
  turned (i ∷ is) onward v w u low e on =
      let f = first (exchanged t) v i is w e in
      let here = leaves_there i (omega (arith, f.leaves, low)) in
      let listed : i < arc_count t = omega (arith, f.listed, count_kept t) in
      turned is (i ∷ onward) (tail_at t i) w u (omega (arith, present_tail t i here, g.end_in i listed))
      (subst (λ (z : ℕ). leads (exchanged t) z is w ≡ true) (leads_to_tail t i here) f.rest)
      (and_from (ltb i (arc_count t) && eqb (tail_at t i) (tail_at t i)) (leads t (head_at t i) onward u)
      (and_from (ltb i (arc_count t)) (eqb (tail_at t i) (tail_at t i)) (lt-ltb i (arc_count t) listed) (eq-eqb (tail_at t i) (tail_at t i) refl))
      (subst (λ (z : ℕ). leads t z onward u ≡ true) (sym f.leaves ∙ leaves_head t i here) on))

  turned_walk : (is : List ℕ) (v w : ℕ) → v < t.n → leads (exchanged t) v is w ≡ true → leads t w (reverse is) v ≡ true
  unfolding leads
  turned_walk is v w low e = turned is [] v w v low e (eq-eqb v v refl)

-- and they are as long
length_on : (t : Table) (is onward : List ℕ) → walk_length (exchanged t) is + walk_length t onward ≡ walk_length t (reverse_aux is onward)
unfolding walk_length
length_on t [] onward = omega arith
length_on t (i ∷ is) onward = omega (arith, length_on t is (i ∷ onward), length_kept t i)

pub turned_length : (t : Table) (is : List ℕ) → walk_length (exchanged t) is ≡ walk_length t (reverse is)
unfolding walk_length
turned_length t is = omega (arith, length_on t is [])

-- two tests, each true where the other is
same_test : (a b : Bool) → (a ≡ true → b ≡ true) → (b ≡ true → a ≡ true) → a ≡ b
same_test true b f g = sym (f refl)
same_test false true f g = g refl
same_test false false f g = refl

pub exchanged_walks : ExchangedWalks
unfolding ExchangedWalks ExchangedTwice ExchangedIsTable exchanged table
exchanged_walks t ws v w is e low_v low_w =
    let g = good t ws e in
    let x = exchanged t in
    let h = good x ws (exchanged_is_table t ws ∙ e) in
    let back : leads t w (reverse is) v ≡ true → leads x v is w ≡ true =
    λ q.
    subst (λ (l : List ℕ). leads x v l w ≡ true) (reverse-reverse is)
    (turned_walk x h (reverse is) w v low_w (subst (λ (y : Table). leads y w (reverse is) v ≡ true) (sym (exchanged_twice t)) q)) in
    record {
      walk = same_test (leads x v is w) (leads t w (reverse is) v) (turned_walk t g is v w low_v) back;
      as_long = turned_length t is;
    }

-- ABSENT ARCS
absent_left_out : (arcs : List Arc) → present_arcs (map exchanged_arc arcs) ≡ map exchanged_arc (present_arcs arcs)
unfolding present_arcs present exchanged_arc arc
absent_left_out [] = refl
absent_left_out (a ∷ arcs) =
    ⊎_elim (λ (p : present a ≡ true). rw (p, absent_left_out arcs)) (λ (p : present a ≡ false). rw (p, absent_left_out arcs)) (cases_Bool (present a))

same_places : (i : ℕ) (arcs : List Arc) → present_from i (map exchanged_arc arcs) ≡ present_from i arcs
unfolding present_from present exchanged_arc arc
same_places i [] = refl
same_places i (a ∷ arcs) = rw (same_places (suc i) arcs)

pub exchanged_without_absent : ExchangedWithoutAbsent
unfolding ExchangedWithoutAbsent without_absent place_of exchanged table
exchanged_without_absent t = (
  ap (λ arcs. table t.n t.origin arcs) (absent_left_out t.arcs),
  λ k. ap (λ (is : List ℕ). get_or is k no_arc) (same_places 0 t.arcs),
)

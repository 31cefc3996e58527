-- Three columns and the arcs that they hold: each says the other. Assumes nothing.
use mathlib.Core.Path.{◌≡◌, refl, sym, ap, ◌∙◌}
use mathlib.Core.List.{List, [], ◌∷◌}
use Prim.Native.Nat.{ℕ, zero, suc, ◌+◌, ◌<◌, ◌≤◌}
use Rattle.std.specs.Prelude.{false}
use native.Mathlib.Numerals.{add-one}
use native.Mathlib.Omega.{arith}
use lib.ListN.{length, length-map, get_or, drop, drop_of_length-le}
use lib.Seq.{drop-cons}
use borrow.Author.Tests.{le-ltb, eq-eqb}
use Rattle.std.proofs.lemmas.Bool.Decides.{nat_tests}
use Rattle.table.specs.Lent.{arc_of}
use Rattle.table.specs.Refusals.{columns_bad, columns_short}
use Rattle.table.specs.Table.{Arc, arc, table, arcs_of, tails_of, heads_of, lengths_of, table_of, arc_count, arc_at, head_at, length_at, most_arcs}
use Rattle.table.specs.declared.links.Arc as links
use Rattle.table.specs.declared.links.Columns.{Columns}

pub arcs_count : (ts hs ls : List ℕ) → length ts ≡ length hs → length hs ≡ length ls → length (arcs_of ts hs ls) ≡ length ts
unfolding arcs_of
arcs_count [] hs ls eh el = refl
arcs_count (t ∷ ts) [] ls eh el = absurd (omega arith)
arcs_count (t ∷ ts) (h ∷ hs) [] eh el = absurd (omega arith)
arcs_count (t ∷ ts) (h ∷ hs) (l ∷ ls) eh el = ap suc (arcs_count ts hs ls (omega arith) (omega arith))

arcs_at : (ts hs ls : List ℕ) (d : Arc) (i : ℕ) → length hs ≡ length ts → length ls ≡ length ts → i < length ts →
    get_or (arcs_of ts hs ls) i d ≡ arc (get_or ts i 0) (get_or hs i 0) (get_or ls i 0)
unfolding arcs_of
arcs_at [] hs ls d i eh el h = absurd (omega arith)
arcs_at (t ∷ ts) [] ls d i eh el h = absurd (omega arith)
arcs_at (t ∷ ts) (k ∷ hs) [] d i eh el h = absurd (omega arith)
arcs_at (t ∷ ts) (k ∷ hs) (l ∷ ls) d zero eh el h = refl
arcs_at (t ∷ ts) (k ∷ hs) (l ∷ ls) d (suc i) eh el h = arcs_at ts hs ls d i (omega arith) (omega arith) (omega arith)

-- The columns of the arcs of three columns of equal length are those three.
pub record ColumnsBack (ts hs ls : List ℕ) : Type 0 where
  pub tails_back : tails_of (arcs_of ts hs ls) ≡ ts
  pub heads_back : heads_of (arcs_of ts hs ls) ≡ hs
  pub lengths_back : lengths_of (arcs_of ts hs ls) ≡ ls

pub columns_back : (ts hs ls : List ℕ) → length ts ≡ length hs → length hs ≡ length ls → ColumnsBack ts hs ls
unfolding arcs_of tails_of heads_of lengths_of arc
columns_back [] [] [] e f = record { tails_back = refl; heads_back = refl; lengths_back = refl }
columns_back [] [] (l ∷ ls) e f = absurd (omega arith)
columns_back [] (h ∷ hs) ls e f = absurd (omega arith)
columns_back (t ∷ ts) [] ls e f = absurd (omega arith)
columns_back (t ∷ ts) (h ∷ hs) [] e f = absurd (omega arith)
columns_back (t ∷ ts) (h ∷ hs) (l ∷ ls) e f =
    let rest = columns_back ts hs ls (omega arith) (omega arith) in
    record {
      tails_back = ap (λ (xs : List ℕ). t ∷ xs) rest.tails_back;
      heads_back = ap (λ (xs : List ℕ). h ∷ xs) rest.heads_back;
      lengths_back = ap (λ (xs : List ℕ). l ∷ xs) rest.lengths_back;
    }

-- the arcs of the columns of arcs are those arcs
pub arcs_back : (arcs : List Arc) → arcs_of (tails_of arcs) (heads_of arcs) (lengths_of arcs) ≡ arcs
unfolding arcs_of tails_of heads_of lengths_of arc
arcs_back [] = refl
arcs_back (a ∷ more) = ap (λ (xs : List Arc). a ∷ xs) (arcs_back more)

-- their lengths
pub length_tails : (arcs : List Arc) → length (tails_of arcs) ≡ length arcs
unfolding tails_of
length_tails arcs = length-map arcs (λ (a : Arc). a.tail)

pub length_heads : (arcs : List Arc) → length (heads_of arcs) ≡ length arcs
unfolding heads_of
length_heads arcs = length-map arcs (λ (a : Arc). a.head)

pub length_lengths : (arcs : List Arc) → length (lengths_of arcs) ≡ length arcs
unfolding lengths_of
length_lengths arcs = length-map arcs (λ (a : Arc). a.arc_length)

-- the columns of arcs are not refused
pub columns_equal : (arcs : List Arc) → length arcs ≤ most_arcs → columns_bad (length (tails_of arcs)) (length (heads_of arcs)) (length (lengths_of arcs)) ≡ false
unfolding columns_bad
columns_equal arcs few =
    rw (length_tails arcs, length_heads arcs, length_lengths arcs, eq-eqb (length arcs) (length arcs) refl, le-ltb most_arcs (length arcs) few)

module _ (n o : ℕ) (ts hs ls : List ℕ) (eh : length hs ≡ length ts) (el : length ls ≡ length ts) where
  pub count_so : arc_count (table_of n o ts hs ls) ≡ length ts
  unfolding arc_count table_of table
  count_so = arcs_count ts hs ls (sym eh) (eh ∙ sym el)

  pub end_so : (i : ℕ) → i < length ts → (arc_at (table_of n o ts hs ls) i).tail ≡ get_or ts i 0
  unfolding arc_at table_of table arc
  end_so i h = ap (λ a. a.tail) (arcs_at ts hs ls _ i eh el h)

  pub head_so : (i : ℕ) → i < length ts → head_at (table_of n o ts hs ls) i ≡ get_or hs i 0
  unfolding head_at arc_at table_of table arc
  head_so i h = ap (λ a. a.head) (arcs_at ts hs ls _ i eh el h)

  pub length_so : (i : ℕ) → i < length ts → length_at (table_of n o ts hs ls) i ≡ get_or ls i 0
  unfolding length_at arc_at table_of table arc
  length_so i h = ap (λ a. a.arc_length) (arcs_at ts hs ls _ i eh el h)

  pub nodes_so : (table_of n o ts hs ls).n ≡ n
  unfolding table_of table
  nodes_so = refl

  pub origin_so : (table_of n o ts hs ls).origin ≡ o
  unfolding table_of table
  origin_so = refl

-- the arcs from a position on
abbrev pub arcs_left : Columns → (i : ℕ) → List Arc
arcs_left c i = arcs_of (drop i c.tails.now) (drop i c.heads.now) (drop i c.lengths.now)

module _ (c : Columns) (i : ℕ) where
  -- they are the one there, as `Columns::arc` gives it, and those behind it
  pub arcs_more : (a : links.Arc) → i < length c.tails.now → a.tail ≡ get_or c.tails.now i 0 → a.head ≡ get_or c.heads.now i 0
      → a.length ≡ get_or c.lengths.now i 0 → arcs_left c i ≡ arc_of a ∷ arcs_left c (i + 1)
  unfolding arcs_of
  arcs_more a inside t h l =
      rw (
        add-one i,
        drop-cons c.tails.now i 0 inside,
        drop-cons c.heads.now i 0 (omega (arith, c.heads_are)),
        drop-cons c.lengths.now i 0 (omega (arith, c.heads_are, c.lengths_are)),
        t,
        h,
        l,
      )

  -- there are none
  pub arcs_none : length c.tails.now ≤ i → arcs_left c i ≡ []
  unfolding arcs_of
  arcs_none end = rw (drop_of_length-le c.tails.now end)

-- columns that are not refused by 2
pub few_and_equal : (t h l : ℕ) → columns_bad t h l ≡ false → (t ≡ h) × ((h ≡ l) × (t ≤ most_arcs))
unfolding columns_bad
few_and_equal t h l e = grind (arith, nat_tests)

-- columns that are not refused by 3
pub roomy_columns : (t h l : ℕ) → columns_short t h l ≡ false → (most_arcs ≤ t) × (most_arcs ≤ h) × (most_arcs ≤ l)
unfolding columns_short
roomy_columns t h l e = grind (arith, nat_tests)

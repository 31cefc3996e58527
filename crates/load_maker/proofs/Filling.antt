-- Filling the three columns with the arcs that are left, one by one. Assumes nothing.
use mathlib.Core.Path.{◌≡◌, refl, ap}
use mathlib.Core.List.{List, [], ◌∷◌}
use Prim.Native.Nat.{ℕ, ◌+◌}
use native.Mathlib.Omega.{arith}
use lib.ListN.{length, set}
use lib.Seq.{sets}
use Rattle.table.specs.Lent.{arc_of}
use Rattle.table.specs.declared.links.Arc as links
use Rattle.table.specs.Table.{Arc, arc, tails_of, heads_of, lengths_of}
use Rattle.table.proofs.Storing.{Column, column_next}

-- Of all arcs, i stand in the columns, and the others are left.
pub record Filling (all : List Arc) (tails heads lengths tails' heads' lengths' : List ℕ) (i : ℕ) (left : List Arc) : Type 0 where
  pub tails_put : Column tails 0 (tails_of all) tails' i (tails_of left)
  pub heads_put : Column heads 0 (heads_of all) heads' i (heads_of left)
  pub lengths_put : Column lengths 0 (lengths_of all) lengths' i (lengths_of left)
  pub counted : i + length left ≡ length all

pub begins : (all left : List Arc) (tails heads lengths : List ℕ) → left ≡ all → Filling all tails heads lengths tails heads lengths 0 left
begins all left tails heads lengths e =
    record {
      tails_put = record { kept = refl; same = rw e refl };
      heads_put = record { kept = refl; same = rw e refl };
      lengths_put = record { kept = refl; same = rw e refl };
      counted = omega (arith, ap length e);
    }

module _ {all : List Arc} {ts hs ls ts' hs' ls' : List ℕ} {i : ℕ} {left : List Arc} (f : Filling all ts hs ls ts' hs' ls' i left) where
  -- the first of those that are left is put at i
  pub puts : (x : links.Arc) (more : List Arc) → left ≡ arc_of x ∷ more → (k next : ℕ) → k ≡ i → next ≡ i + 1 →
      Filling all ts hs ls (set ts' k x.tail) (set hs' k x.head) (set ls' k x.length) next more
  unfolding arc tails_of heads_of lengths_of
  puts x more first k next here then =
      rw (here, then)
      (record {
        tails_put = column_next (rw first at f.tails_put);
        heads_put = column_next (rw first at f.heads_put);
        lengths_put = column_next (rw first at f.lengths_put);
        counted = omega (arith, ap length first, f.counted);
      })

  -- none is left: each column has all of them
  pub done : left ≡ [] → (ts' ≡ sets ts 0 (tails_of all)) × ((hs' ≡ sets hs 0 (heads_of all)) × (ls' ≡ sets ls 0 (lengths_of all)))
  unfolding tails_of heads_of lengths_of
  done e = ((rw e at f.tails_put).same, ((rw e at f.heads_put).same, (rw e at f.lengths_put).same))

-- A table that the writer does not refuse: what its tests have shown, and that its file is read back. Assumes nothing.
use mathlib.Core.Bool.{Bool, true, false, cond}
use mathlib.Core.List.{List, []}
use mathlib.Core.Path.{◌≡◌, refl}
use Prim.Native.Nat.{ℕ, ◌<◌}
use native.Mathlib.Omega.{arith}
use borrow.Author.Tests.{ltb-false}
use lib.Dec.{ltb}
use lib.ListN.{length}
use Rattle.table.specs.Refusals.{refusal, no_refusal, count_bad, columns_bad}
use Rattle.table.specs.Table.{arcs_of, Below, most_wanted, tails_of, heads_of, lengths_of}
use Rattle.link_format.specs.Buffers.{file_of, writing}
use Rattle.link_format.specs.Format.{Content, content, file_bytes}
use Rattle.link_format.specs.Promises.{Writable}
use Rattle.link_format.specs.Reading.{got, read_file}
use Rattle.table.proofs.Columns.{arcs_back, arcs_count}
use Rattle.link_format.proofs.ArcColumns.{small_arcs}
use Rattle.table.proofs.Counts.{some_nodes, few_nodes}
use Rattle.link_format.proofs.Counts.{equal_columns}
use Rattle.link_format.proofs.WriteThenRead.{written_tables_read_back}

pub record Unrefused (n o : ℕ) (ts hs ls ws : List ℕ) (room : ℕ) : Type 0 where
  pub fine : count_bad n ≡ false
  pub equal : columns_bad (length ts) (length hs) (length ls) ≡ false
  pub few : ltb most_wanted (length ws) ≡ false
  pub fits : ltb room (length (file_of n o ts hs ls ws)) ≡ false

four_tests : (a b c d : Bool)
    → (cond a (refusal 1 0) (cond b (refusal 2 0) (cond c (refusal 5 most_wanted) (cond d (refusal 13 0) no_refusal)))).number ≡ 0
    → (a ≡ false) × (b ≡ false) × (c ≡ false) × (d ≡ false)
unfolding refusal no_refusal
four_tests true b c d e = absurd (omega arith)
four_tests false true c d e = absurd (omega arith)
four_tests false false true d e = absurd (omega arith)
four_tests false false false true e = absurd (omega arith)
four_tests false false false false e = (refl, refl, refl, refl)

pub unrefused : (n o : ℕ) (ts hs ls ws : List ℕ) (room : ℕ) → (writing n o ts hs ls ws room).number ≡ 0 → Unrefused n o ts hs ls ws room
unfolding writing
unrefused n o ts hs ls ws room e =
    let all = four_tests (count_bad n) (columns_bad (length ts) (length hs) (length ls)) (ltb most_wanted (length ws)) (ltb room (length (file_of n o ts hs ls ws))) e in
    record { fine = all.0; equal = all.1; few = all.2; fits = all.3 }

pub is_accepted : (n o : ℕ) (ts hs ls ws : List ℕ) (room : ℕ) → Unrefused n o ts hs ls ws room → writing n o ts hs ls ws room ≡ no_refusal
unfolding writing
is_accepted n o ts hs ls ws room u = rw (u.fine, u.equal, u.few, u.fits)

writable : (n o : ℕ) (ts hs ls ws : List ℕ) (room : ℕ) → o < 65536 → Below 65536 ts → Below 65536 hs → Below 4294967296 ls → Below 65536 ws
    → Unrefused n o ts hs ls ws room → Writable (content n o ws (arcs_of ts hs ls))
unfolding content
writable n o ts hs ls ws room so st sh sl sw u =
    let equal = equal_columns ts hs ls u.equal in
    record {
      header =
          record {
            some = some_nodes u.fine;
            nodes = few_nodes u.fine;
            origin_fits = so;
            wanted_few = ltb-false most_wanted (length ws) u.few;
            wanted_fit = sw;
          };
      arcs_few = omega (arith, equal.few, arcs_count ts hs ls equal.heads_are equal.lengths_are);
      arcs_fit = small_arcs ts hs ls st sh sl;
    }

pub read_of : (n o : ℕ) (ts hs ls ws : List ℕ) (room : ℕ) → o < 65536 → Below 65536 ts → Below 65536 hs → Below 4294967296 ls → Below 65536 ws
    → Unrefused n o ts hs ls ws room
    → read_file (file_of n o ts hs ls ws) ≡ got (content n o ws (arcs_of ts hs ls)) (length (file_of n o ts hs ls ws)) []
unfolding file_of
read_of n o ts hs ls ws room so st sh sl sw u =
    written_tables_read_back (content n o ws (arcs_of ts hs ls)) (writable n o ts hs ls ws room so st sh sl sw u)

-- the columns of a content make its file again
pub file_of_content : (t : Content)
    → file_of t.n t.origin (tails_of t.arcs) (heads_of t.arcs) (lengths_of t.arcs) t.wanted ≡ file_bytes t
unfolding file_of content
file_of_content t = rw (arcs_back t.arcs)

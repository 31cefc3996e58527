-- The loops that size and write the records. Assumes nothing.
use mathlib.Core.List.{List, [], ◌∷◌, ◌++◌}
use mathlib.Core.Option.{Option, none, some}
use mathlib.Core.Path.{◌≡◌, ap}
use Prim.Native.Nat.{ℕ, ◌+◌, ◌*◌, ◌≤◌}
use native.Mathlib.Omega.{arith}
use lib.ListN.{length, length-append}
use Rattle.table.specs.Table.{Arc}
use Rattle.table.specs.declared.links.Columns.{Columns}
use Rattle.table.proofs.Columns.{arcs_left, arcs_none}
use Rattle.link_format.specs.Format.{most_record, record_bytes, records_bytes}
use Rattle.link_writer.specs.Says.{arcs_in}

-- what is left to write: a record, and those behind it; or none
module _ (before : Option Arc) {left : List Arc} where
  pub bytes_more : {a : Arc} {more : List Arc} → left ≡ a ∷ more → records_bytes before left ≡ record_bytes before a ++ records_bytes (some a) more
  unfolding records_bytes
  bytes_more e = rw e

  pub bytes_none : left ≡ [] → records_bytes before left ≡ []
  unfolding records_bytes
  bytes_none e = rw e

-- Sizing the records: the size so far and that of what is left make the whole.
pub record Sizing (c : Columns) (size : ℕ) (before : Option Arc) (i : ℕ) : Type 0 where
  -- no arc that was sized is longer than the longest record
  pub near : size ≤ most_record * i
  -- with the rest they make the whole
  pub same : size + length (records_bytes before (arcs_left c i)) ≡ length (records_bytes none (arcs_in c))

module _ {c : Columns} {size i : ℕ} {before : Option Arc} (s : Sizing c size before i) where
  pub sizing_next : {a : Arc} → arcs_left c i ≡ a ∷ arcs_left c (i + 1) → {more : ℕ} → more ≡ length (record_bytes before a) → more ≤ most_record
      → Sizing c (size + more) (some a) (i + 1)
  sizing_next {a} e {more} sized low =
      record {
        near = omega (arith, s.near);
        same = omega (arith, s.same, ap length (bytes_more before e), length-append (record_bytes before a) (records_bytes (some a) (arcs_left c (i + 1))));
      }

  pub sizing_done : length c.tails.now ≤ i → size ≡ length (records_bytes none (arcs_in c))
  sizing_done end = omega (arith, s.same, ap length (bytes_none before (arcs_none c i end)))

-- How long the file of a load may be. Assumes nothing.
use mathlib.Core.Path.{◌≡◌, refl, ap, ◌∙◌}
use mathlib.Core.Bool.{Bool, true, false, not}
use mathlib.Core.List.{List, [], ◌∷◌, ◌++◌}
use mathlib.Core.Option.{Option, none, some}
use Prim.Native.Nat.{ℕ, ◌*◌, ◌≤◌}
use native.Mathlib.Omega.{arith}
use lib.Dec.{eqb}
use lib.ListN.{length, length-append}
use Rattle.table.specs.Table.{Arc, most_arcs}
use Rattle.link_format.specs.Format.{node_width, length_width, most_record, most_file, content, bytes, has, field_bytes, count_up, all_nodes, header_bits, wanted_bytes, header_bytes, record_bits, fields_bytes, record_bytes, records_bytes, file_bytes}
use Rattle.link_format.proofs.AllNodes.{all_count_up}
use Rattle.link_format.proofs.BitMaps.{made_of}
use Rattle.link_format.proofs.Numbers.{length_bytes}
use Rattle.load_file.specs.LoadFile.{arcs_of_load, content_of_load, bytes_of_load}
use Rattle.load_file.specs.declared.LoadFile.{LoadFile}

short_field : (stands : Bool) (w v : ℕ) → length (field_bytes stands w v) ≤ w
unfolding field_bytes
short_field true w v = omega (arith, length_bytes w v)
short_field false w v = omega arith

short_record : (before : Option Arc) (a : Arc) → length (record_bytes before a) ≤ most_record
unfolding record_bytes fields_bytes
short_record before a =
    let bits = record_bits before a in
    simp length-append
    (omega (arith, short_field (has 1 bits) node_width a.tail, short_field (has 2 bits) node_width a.head, short_field (has 4 bits) length_width a.arc_length))

short_records : (before : Option Arc) (arcs : List Arc) → length (records_bytes before arcs) ≤ most_record * length arcs
unfolding records_bytes
short_records before [] = omega arith
short_records before (a ∷ more) =
    simp length-append (omega (arith, short_record before a, short_records (some a) more))

-- where all nodes are wanted, the header has no list
short_header : (n o : ℕ) → length (header_bytes n o (count_up 0 n)) ≤ 5
unfolding header_bytes header_bits wanted_bytes
short_header n o =
    let ws : List ℕ = count_up 0 n in
    let bits : ℕ = header_bits n o ws in
    let origin : List ℕ = field_bytes (has 2 bits) node_width o in
    let unlisted : has 4 bits ≡ false = (made_of true (not (eqb o 0)) (not (all_nodes n ws))).third_bit ∙ ap not (all_count_up n) in
    let list_is : wanted_bytes (has 4 bits) ws ≡ [] = rw unlisted refl in
    omega (
      arith,
      length-append (bytes node_width n) (origin ++ wanted_bytes (has 4 bits) ws),
      length-append origin (wanted_bytes (has 4 bits) ws),
      ap length list_is,
      length_bytes node_width n,
      short_field (has 2 bits) node_width o,
    )

pub short_file : (o : LoadFile) → length (arcs_of_load o) ≤ most_arcs → length (bytes_of_load o) ≤ most_file
unfolding bytes_of_load content_of_load file_bytes content
short_file o few = simp length-append (omega (arith, few, short_header o.n o.origin, short_records none (arcs_of_load o)))

-- Every table that the writer accepts is read back as it was: each part of the reader gets, from the bytes that the writer puts for a value,
-- that value. Assumes nothing.
use mathlib.Core.Bool.{Bool, true, false, not}
use mathlib.Core.List.{List, [], ◌∷◌, ◌++◌, append_assoc}
use mathlib.Core.Option.{Option, none, some}
use mathlib.Core.Path.{◌≡◌, refl, sym, ◌∙◌}
use Prim.Native.Nat.{ℕ, zero, suc, ◌+◌, ◌^◌, ◌≤◌, ◌<◌}
use native.Mathlib.Nat.{zero-add, add-zero}
use native.Mathlib.Omega.{arith}
use lib.Dec.{eqb}
use lib.ListN.{length, length-append}
use lib.Seq.{drop_at}
use borrow.Author.Tests.{le-leb, le-ltb, eq-eqb, eqb-true, not-false, both_ways}
use Rattle.table.specs.Refusals.{count_bad}
use Rattle.table.specs.Table.{Arc, arc, Below, most_arcs, most_wanted}
use Rattle.link_format.specs.Format.{last_head, content, bytes, bit_map, has, field_bytes, all_nodes, nodes_bytes, wanted_bytes, header_bits, header_bytes, record_bits, fields_bytes, record_bytes, records_bytes, file_bytes}
use Rattle.link_format.specs.Promises.{LongFilesAreRefused, WritableHeader, SmallArc, SmallArcs, ImpliedWhereAbsent, WrittenTablesReadBack}
use Rattle.link_format.specs.Reading.{forbidden_header, refused, ◌>>◌, ◌>>=◌, got, and_then, give, here, refuse_if, number, field, optional, implied, forbidden, read_nodes, read_wanted, read_header, read_record, read_records, read_content, read_file}
use Rattle.link_format.proofs.AllNodes.{all_nodes_are}
use Rattle.link_format.proofs.BitMaps.{made_of}
use Rattle.table.proofs.Counts.{good_count}
use Rattle.link_format.proofs.Numbers.{length_bytes, number_bytes}
use Rattle.link_format.proofs.Records.{records_full, in_front, records_none, records_more}

-- a field
field_again : (w v at : ℕ) (rest : List ℕ) → v < 256 ^ w → field w at (bytes w v ++ rest) ≡ got v (at + length (bytes w v)) rest
unfolding field
field_again w v at rest small =
    let room : w ≤ length (bytes w v ++ rest) = omega (arith, length-append (bytes w v) rest, length_bytes w v) in
    rw (le-leb w (length (bytes w v ++ rest)) room, number_bytes w v rest small, drop_at (bytes w v) rest w (length_bytes w v), length_bytes w v)

optional_again : (stands : Bool) (w absent v at : ℕ) (rest : List ℕ) → v < 256 ^ w → (stands ≡ false → v ≡ absent)
    → optional stands w absent at (field_bytes stands w v ++ rest) ≡ got v (at + length (field_bytes stands w v)) rest
unfolding optional field_bytes give
optional_again true w absent v at rest small said = field_again w v at rest small
optional_again false w absent v at rest small said = rw (said refl, add-zero at)

-- a bit map
byte_again : (bits at : ℕ) (rest : List ℕ) → field 1 at (bits ∷ rest) ≡ got bits (at + 1) rest
unfolding field number
byte_again bits at rest = rw (le-leb 1 (length (bits ∷ rest)) (omega arith), zero-add bits)

-- a run of nodes
nodes_again : (ws : List ℕ) (at : ℕ) (rest : List ℕ) → Below 65536 ws
    → read_nodes (length ws) at (nodes_bytes ws ++ rest) ≡ got ws (at + length (nodes_bytes ws)) rest
unfolding read_nodes ◌>>=◌ and_then give nodes_bytes Below
nodes_again [] at rest small = rw (add-zero at)
nodes_again (w ∷ ws) at rest small =
    let sum : at + length (bytes 2 w) + length (nodes_bytes ws) ≡ at + length (bytes 2 w ++ nodes_bytes ws) = omega (arith, length-append (bytes 2 w) (nodes_bytes ws)) in
    rw (
      append_assoc (bytes 2 w) (nodes_bytes ws) rest,
      field_again 2 w at (nodes_bytes ws ++ rest) (small 0),
      nodes_again ws (at + length (bytes 2 w)) rest (λ (i : ℕ). small (suc i)),
      sum,
    )

-- the wanted list
wanted_again : (stands : Bool) (n : ℕ) (ws : List ℕ) (at : ℕ) (rest : List ℕ) → (stands ≡ false → all_nodes n ws ≡ true) → length ws ≤ most_wanted
    → Below 65536 ws → read_wanted stands n at (wanted_bytes stands ws ++ rest) ≡ got ws (at + length (wanted_bytes stands ws)) rest
unfolding read_wanted ◌>>=◌ ◌>>◌ and_then refuse_if give wanted_bytes
wanted_again false n ws at rest said few small = rw (← all_nodes_are n ws (said refl), add-zero at)
wanted_again true n ws at rest said few small =
    let sum : at + length (bytes 2 (length ws)) + length (nodes_bytes ws) ≡ at + length (bytes 2 (length ws) ++ nodes_bytes ws) =
    omega (arith, length-append (bytes 2 (length ws)) (nodes_bytes ws)) in
    rw (
      append_assoc (bytes 2 (length ws)) (nodes_bytes ws) rest,
      field_again 2 (length ws) at (nodes_bytes ws ++ rest) (omega arith),
      le-ltb most_wanted (length ws) few,
      nodes_again ws (at + length (bytes 2 (length ws))) rest small,
      sum,
    )

-- the canonical bit map of a record is allowed, and the fields that it leaves out are implied
pub canonical_allowed : (before : Option Arc) (a : Arc) → forbidden before (record_bits before a) ≡ false
unfolding forbidden record_bits bit_map
canonical_allowed none a = refl
canonical_allowed (some p) a = le-ltb 7 _ (made_of (not (eqb a.tail p.tail)) (not (eqb a.head (p.head + 1))) (not (eqb a.arc_length p.arc_length))).low

said : {b : Bool} (x y : ℕ) → b ≡ not (eqb x y) → b ≡ false → x ≡ y
said x y e f = eqb-true x y (not-false (eqb x y) (sym e ∙ f))

never : {X : Type 0} {b : Bool} → b ≡ true → b ≡ false → X
never t f = absurd (both_ways _ f t)

pub canonical_implied : (before : Option Arc) (a : Arc) → ImpliedWhereAbsent before (record_bits before a) a
unfolding record_bits implied arc
canonical_implied none a =
    let made = made_of true true true in
    record { tail_said = never made.first_bit; head_said = never made.second_bit; length_said = never made.third_bit }
canonical_implied (some p) a =
    let made = made_of (not (eqb a.tail p.tail)) (not (eqb a.head (p.head + 1))) (not (eqb a.arc_length p.arc_length)) in
    record {
      tail_said = said a.tail p.tail made.first_bit;
      head_said = said a.head (p.head + 1) made.second_bit;
      length_said = said a.arc_length p.arc_length made.third_bit;
    }

-- one record
record_again : (before : Option Arc) (a : Arc) (at : ℕ) (rest : List ℕ) → SmallArc a
    → read_record before at (record_bytes before a ++ rest) ≡ got a (at + length (record_bytes before a)) rest
unfolding read_record ◌>>=◌ ◌>>◌ and_then here refuse_if give record_bytes fields_bytes arc
record_again before a at rest small =
    let bits : ℕ = record_bits before a in
    let x : List ℕ = field_bytes (has 1 bits) 2 a.tail in
    let y : List ℕ = field_bytes (has 2 bits) 2 a.head in
    let z : List ℕ = field_bytes (has 4 bits) 4 a.arc_length in
    let absent = canonical_implied before a in
    let sum : at + 1 + length x + length y + length z ≡ at + suc (length (x ++ (y ++ z))) = omega (arith, length-append x (y ++ z), length-append y z) in
    rw (
      byte_again bits at ((x ++ (y ++ z)) ++ rest),
      canonical_allowed before a,
      append_assoc x (y ++ z) rest,
      append_assoc y z rest,
      optional_again (has 1 bits) 2 (implied before).tail a.tail (at + 1) (y ++ (z ++ rest)) small.tail_fits absent.tail_said,
      optional_again (has 2 bits) 2 (implied before).head a.head (at + 1 + length x) (z ++ rest) small.head_fits absent.head_said,
      optional_again (has 4 bits) 4 (implied before).arc_length a.arc_length (at + 1 + length x + length y) rest small.length_fits absent.length_said,
      le-ltb last_head a.head (omega (arith, small.head_fits)),
      eq-eqb bits bits refl,
      sum,
    )

-- a record has at least its bit map
some_bytes : (before : Option Arc) (a : Arc) (rest : List ℕ) → 0 < length (record_bytes before a ++ rest)
unfolding record_bytes
some_bytes before a rest = omega arith

next : (k : ℕ) (before : Option Arc) (a : Arc) (more : List Arc) (at : ℕ) (r rest : List ℕ) → at + length r + length rest ≡ at + length (r ++ rest)
    → read_record before at (r ++ rest) ≡ got a (at + length r) rest → read_records k (some a) (at + length r) rest ≡ got more (at + length r + length rest) []
    → and_then (read_record before at (r ++ rest)) (λ (b : Arc) (to : ℕ) (tl : List ℕ). in_front b (read_records k (some b) to tl)) ≡ got (a ∷ more) (at + length (r ++ rest)) []
unfolding and_then give
next k before a more at r rest sum one all = rw (one, all, sum)

-- the records to the end of the file
records_again : (k : ℕ) (before : Option Arc) (arcs : List Arc) (at : ℕ) → length arcs ≤ k → SmallArcs arcs
    → read_records k before at (records_bytes before arcs) ≡ got arcs (at + length (records_bytes before arcs)) []
unfolding records_bytes SmallArcs
records_again k before [] at few small = records_none k before at ∙ rw (add-zero at)
records_again zero before (a ∷ more) at few small = absurd (omega arith)
records_again (suc k) before (a ∷ more) at few small =
    let r : List ℕ = record_bytes before a in
    let rest : List ℕ = records_bytes (some a) more in
    let sum : at + length r + length rest ≡ at + length (r ++ rest) = omega (arith, length-append r rest) in
    records_more k before at (r ++ rest) (some_bytes before a rest)
    ∙ next k before a more at r rest sum (record_again before a at rest small.0) (records_again k (some a) more (at + length r) (omega arith) small.1)

-- and more of them than are allowed
one_too_many : (k : ℕ) (before : Option Arc) (a : Arc) (at : ℕ) (r rest : List ℕ) → read_record before at (r ++ rest) ≡ got a (at + length r) rest
    → read_records k (some a) (at + length r) rest ≡ refused 2 most_arcs
    → and_then (read_record before at (r ++ rest)) (λ (b : Arc) (to : ℕ) (tl : List ℕ). in_front b (read_records k (some b) to tl)) ≡ refused 2 most_arcs
unfolding and_then give
one_too_many k before a at r rest one all = rw (one, all)

records_refused : (k : ℕ) (before : Option Arc) (arcs : List Arc) (at : ℕ) → k < length arcs → SmallArcs arcs
    → read_records k before at (records_bytes before arcs) ≡ refused 2 most_arcs
unfolding records_bytes SmallArcs
records_refused k before [] at many small = absurd (omega arith)
records_refused zero before (a ∷ more) at many small =
    records_full before at (record_bytes before a ++ records_bytes (some a) more) (some_bytes before a (records_bytes (some a) more))
records_refused (suc k) before (a ∷ more) at many small =
    let r : List ℕ = record_bytes before a in
    let rest : List ℕ = records_bytes (some a) more in
    records_more k before at (r ++ rest) (some_bytes before a rest)
    ∙ one_too_many k before a at r rest (record_again before a at rest small.0) (records_refused k (some a) more (at + length r) (omega arith) small.1)

-- the canonical bit map of a header is allowed, and the fields that it leaves out are implied
header_allowed : (n o : ℕ) (ws : List ℕ) → forbidden_header (header_bits n o ws) ≡ false
unfolding header_bits forbidden_header
header_allowed n o ws =
    let made = made_of true (not (eqb o 0)) (not (all_nodes n ws)) in
    rw (le-ltb 7 (bit_map true (not (eqb o 0)) (not (all_nodes n ws))) made.low, made.first_bit)

origin_said : (n o : ℕ) (ws : List ℕ) → has 2 (header_bits n o ws) ≡ false → o ≡ 0
unfolding header_bits
origin_said n o ws = said o 0 (made_of true (not (eqb o 0)) (not (all_nodes n ws))).second_bit

list_said : (n o : ℕ) (ws : List ℕ) → has 4 (header_bits n o ws) ≡ false → all_nodes n ws ≡ true
unfolding header_bits
list_said n o ws e = not-false (all_nodes n ws) (sym (made_of true (not (eqb o 0)) (not (all_nodes n ws))).third_bit ∙ e)

-- the header
header_again : (n o : ℕ) (ws : List ℕ) (at : ℕ) (rest : List ℕ) → WritableHeader n o ws
    → read_header at (header_bytes n o ws ++ rest) ≡ got (content n o ws []) (at + length (header_bytes n o ws)) rest
unfolding read_header ◌>>=◌ ◌>>◌ and_then here refuse_if give header_bytes
header_again n o ws at rest w =
    let bits : ℕ = header_bits n o ws in
    let x : List ℕ = bytes 2 n in
    let y : List ℕ = field_bytes (has 2 bits) 2 o in
    let z : List ℕ = wanted_bytes (has 4 bits) ws in
    let sum : at + 1 + length x + length y + length z ≡ at + suc (length (x ++ (y ++ z))) = omega (arith, length-append x (y ++ z), length-append y z) in
    let good : count_bad n ≡ false = good_count n w.some w.nodes in
    rw (
      byte_again bits at ((x ++ (y ++ z)) ++ rest),
      header_allowed n o ws,
      append_assoc x (y ++ z) rest,
      append_assoc y z rest,
      field_again 2 n (at + 1) (y ++ (z ++ rest)) (omega (arith, w.nodes)),
      good,
      optional_again (has 2 bits) 2 0 o (at + 1 + length x) (z ++ rest) w.origin_fits (origin_said n o ws),
      wanted_again (has 4 bits) n ws (at + 1 + length x + length y) rest (list_said n o ws) w.wanted_few w.wanted_fit,
      eq-eqb bits bits refl,
      sum,
    )

pub written_tables_read_back : WrittenTablesReadBack
unfolding read_file read_content ◌>>=◌ and_then give file_bytes content
written_tables_read_back t w =
    let head : List ℕ = header_bytes t.n t.origin t.wanted in
    let rest : List ℕ = records_bytes none t.arcs in
    let sum : 0 + length head + length rest ≡ length (head ++ rest) = omega (arith, length-append head rest) in
    rw (
      header_again t.n t.origin t.wanted 0 rest w.header,
      records_again most_arcs none t.arcs (0 + length head) w.arcs_few w.arcs_fit,
      sum,
    )

pub long_files_are_refused : LongFilesAreRefused
unfolding read_file read_content ◌>>=◌ and_then give file_bytes
long_files_are_refused t w small many =
    let head : List ℕ = header_bytes t.n t.origin t.wanted in
    rw (
      header_again t.n t.origin t.wanted 0 (records_bytes none t.arcs) w,
      records_refused most_arcs none t.arcs (0 + length head) many small,
    )

-- The link file, page 1: what bytes a table has. Assumes nothing: these are definitions.
--
-- Numbers stand with their lowest byte first. A file is a header and a record for each arc. Both begin with a BIT MAP of three fields: a field
-- is there exactly where its bit stands. In the header the bits are the node count (always there), the origin (absent: 0) and the wanted list
-- (absent: all nodes ascending). In a record they are tail (absent: that of the record before), head (absent: the head before plus 1) and
-- length (absent: the length before); the first record has all three.
--
-- The file is canonical: a bit stands exactly where its absence would say something else or be refused. `header_bits` and `record_bits` are
-- that rule; the reader refuses every other bit map (page 2, Reading.antt).
use Rattle.std.specs.Prelude.{Bool, true, ◌&&◌, not, cond, List, [], ◌∷◌, ◌++◌, ℕ, zero, suc, ◌+◌, ◌*◌, ◌/◌, ◌%◌, ◌^◌, eqb, length}
use Rattle.std.proofs.Math.Option.{Option, none, some}
use Rattle.table.specs.Table.{Arc, most_arcs, most_wanted}

-- the bytes of a bit map, of a node number or a count, and of a length
abbrev pub map_width : ℕ
map_width = 1

abbrev pub node_width : ℕ
node_width = 2

abbrev pub length_width : ℕ
length_width = 4

-- a byte, and a number of so many bytes, is below a limit
abbrev pub byte_limit : ℕ
byte_limit = 256

abbrev pub limit : (width : ℕ) → ℕ
limit w = byte_limit ^ w

-- the highest head, which is what a node's bytes hold
abbrev pub last_head : ℕ
last_head = 65535

-- the most bytes of a header, of a record and of a file: every field stands, and there are as many wanted nodes and arcs as there may be
abbrev pub most_header : ℕ
most_header = map_width + node_width + node_width + node_width + node_width * most_wanted

abbrev pub most_record : ℕ
most_record = map_width + node_width + node_width + length_width

abbrev pub most_file : ℕ
most_file = most_header + most_record * most_arcs

-- what a link file holds
pub record Content : Type 0 where
  pub n : ℕ
  pub origin : ℕ
  pub wanted : List ℕ
  pub arcs : List Arc

unfoldable pub content : (n origin : ℕ) → (wanted : List ℕ) → (arcs : List Arc) → Content
content n o ws more = record { n = n; origin = o; wanted = ws; arcs = more }

-- a number in so many bytes, the lowest first
unfoldable pub bytes : (width value : ℕ) → List ℕ
bytes zero v = []
bytes (suc w) v = v % byte_limit ∷ bytes w (v / byte_limit)

-- the bit map of three fields, of weight 1, 2 and 4; whether the field of a weight stands in a bit map
unfoldable pub bit_map : (first second third : Bool) → ℕ
bit_map a b c = cond a 1 0 + cond b 2 0 + cond c 4 0

unfoldable pub has : (weight bits : ℕ) → Bool
has w bits = eqb (bits / w % 2) 1

-- a field's bytes, where it stands
unfoldable pub field_bytes : (stands : Bool) → (width value : ℕ) → List ℕ
field_bytes stands w v = cond stands (bytes w v) []

-- a list that counts up from a number; the list of all n nodes, ascending, and whether a list is that one
unfoldable pub count_up : (from size : ℕ) → List ℕ
count_up i zero = []
count_up i (suc k) = i ∷ count_up (suc i) k

unfoldable pub counts_from : (from : ℕ) → List ℕ → Bool
counts_from i [] = true
counts_from i (w ∷ ws) = eqb w i && counts_from (suc i) ws

unfoldable pub all_nodes : (n : ℕ) → List ℕ → Bool
all_nodes n ws = eqb (length ws) n && counts_from 0 ws

-- the canonical bit map of a header, and its bytes
unfoldable pub header_bits : (n origin : ℕ) → (wanted : List ℕ) → ℕ
header_bits n o ws = bit_map true (not (eqb o 0)) (not (all_nodes n ws))

unfoldable pub nodes_bytes : List ℕ → List ℕ
nodes_bytes [] = []
nodes_bytes (w ∷ ws) = bytes node_width w ++ nodes_bytes ws

unfoldable pub wanted_bytes : (stands : Bool) → List ℕ → List ℕ
wanted_bytes stands ws = cond stands (bytes node_width (length ws) ++ nodes_bytes ws) []

unfoldable pub header_bytes : (n origin : ℕ) → (wanted : List ℕ) → List ℕ
header_bytes n o ws =
    let bits = header_bits n o ws in
    bits ∷ (bytes node_width n ++ (field_bytes (has 2 bits) node_width o ++ wanted_bytes (has 4 bits) ws))

-- the canonical bit map of an arc's record, given the arc of the record before it, and the record's bytes. After a head of 65535 the head always
-- stands, since no head is 65536
unfoldable pub record_bits : (before : Option Arc) → Arc → ℕ
record_bits none a = bit_map true true true
record_bits (some p) a =
    bit_map (not (eqb a.tail p.tail)) (not (eqb a.head (p.head + 1))) (not (eqb a.arc_length p.arc_length))

unfoldable pub fields_bytes : (bits : ℕ) → Arc → List ℕ
fields_bytes bits a =
    field_bytes (has 1 bits) node_width a.tail
    ++ (field_bytes (has 2 bits) node_width a.head ++ field_bytes (has 4 bits) length_width a.arc_length)

unfoldable pub record_bytes : (before : Option Arc) → Arc → List ℕ
record_bytes before a = record_bits before a ∷ fields_bytes (record_bits before a) a

unfoldable pub records_bytes : (before : Option Arc) → List Arc → List ℕ
records_bytes before [] = []
records_bytes before (a ∷ more) = record_bytes before a ++ records_bytes (some a) more

-- the file
unfoldable pub file_bytes : Content → List ℕ
file_bytes t = header_bytes t.n t.origin t.wanted ++ records_bytes none t.arcs

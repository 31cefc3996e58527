-- The link file, page 2: what reading a list of bytes gives. Assumes nothing: these are definitions.
--
-- A READER takes an offset of the file and the bytes from there on. It got a value, with the next offset and the bytes from there on, or it
-- refused, with a refusal's number and a place. The lines of a `do` block run one after the other and the first refusal ends it, so they are
-- document 01's order: the first fault from the left.
use Rattle.std.specs.Prelude.{Bool, true, false, ◌||◌, not, cond, List, [], ◌∷◌, ℕ, zero, suc, ◌+◌, ◌*◌, eqb, ltb, leb, length, drop}
use Rattle.std.proofs.Math.Option.{Option, none, some}
use Rattle.table.specs.Refusals.{count_bad}
use Rattle.table.specs.Table.{Arc, arc, most_arcs, most_wanted}
use Rattle.link_format.specs.Format.{Content, content, map_width, node_width, length_width, byte_limit, last_head, has, count_up, header_bits, record_bits}

pub data Outcome (A : Type 0) : Type 0 where
  got : (value : A) → (next : ℕ) → (rest : List ℕ) → Outcome A
  refused : (number place : ℕ) → Outcome A

abbrev pub Reader : Type 0 → Type 0
Reader A = (at : ℕ) → (rest : List ℕ) → Outcome A

-- whether a value was got; the list that was got, empty where none was
unfoldable pub accepted : {A : Type 0} → Outcome A → Bool
accepted (got a at rest) = true
accepted (refused n p) = false

unfoldable pub list_got : {A : Type 0} → Outcome (List A) → List A
list_got (got xs at rest) = xs
list_got (refused n p) = []

-- what follows a reader: it goes on where that one got a value
unfoldable pub and_then : {A B : Type 0} → Outcome A → (A → Reader B) → Outcome B
and_then (got a at rest) f = f a at rest
and_then (refused n p) f = refused n p

unfoldable pub ◌>>=◌ : {A B : Type 0} → Reader A → (A → Reader B) → Reader B
◌>>=◌ m f = λ at rest. and_then (m at rest) f

unfoldable pub ◌>>◌ : {A B : Type 0} → Reader A → Reader B → Reader B
◌>>◌ m k = λ at rest. and_then (m at rest) (λ _. k)

unfoldable pub give : {A : Type 0} → A → Reader A
give a = λ at rest. got a at rest

-- the offset where the reader stands
unfoldable pub here : Reader ℕ
here = λ at rest. got at at rest

unfoldable pub refuse_if : Bool → (number place : ℕ) → Reader Unit
refuse_if bad n p = λ at rest. cond bad (refused n p) (got tt at rest)

-- the number in the first so many bytes, the lowest first
unfoldable pub number : (width : ℕ) → List ℕ → ℕ
number zero bs = 0
number (suc w) [] = 0
number (suc w) (b ∷ bs) = number w bs * byte_limit + b

-- a field of so many bytes. 9: the file is cut inside it, or before it; the place is the file's length
unfoldable pub field : (width : ℕ) → Reader ℕ
field w = λ at rest. cond (leb w (length rest)) (got (number w rest) (at + w) (drop w rest)) (refused 9 (at + length rest))

-- a field that may be absent, and what its absence says
unfoldable pub optional : (stands : Bool) → (width absent : ℕ) → Reader ℕ
optional stands w absent = cond stands (field w) (give absent)

-- so many nodes
unfoldable pub read_nodes : (count : ℕ) → Reader (List ℕ)
read_nodes zero = give []
read_nodes (suc k) = do
  w ← field node_width
  ws ← read_nodes k
  give (w ∷ ws)

-- the wanted list of n nodes: its count and the nodes; absent, all nodes ascending
unfoldable pub read_wanted : (stands : Bool) → (n : ℕ) → Reader (List ℕ)
read_wanted false n = give (count_up 0 n)
read_wanted true n = do
  count ← field node_width
  refuse_if (ltb most_wanted count) 5 most_wanted
  read_nodes count

-- the bit maps that a header may not have: bits 3 to 7, or no node count
unfoldable pub forbidden_header : (bits : ℕ) → Bool
forbidden_header bits = ltb 7 bits || not (has 1 bits)

-- The header: 10 in its bit map, 9 in a field, 1 after the node count, 5 after the wanted count, 12 at its end. Its content has no arcs yet.
unfoldable pub read_header : Reader Content
read_header = do
  start ← here
  bits ← field map_width
  refuse_if (forbidden_header bits) 10 start
  n ← field node_width
  refuse_if (count_bad n) 1 0
  origin ← optional (has 2 bits) node_width 0
  wanted ← read_wanted (has 4 bits) n
  refuse_if (not (eqb bits (header_bits n origin wanted))) 12 start
  give (content n origin wanted [])

-- what a record says where its fields are absent; at the first record no field is
unfoldable pub implied : (before : Option Arc) → Arc
implied none = arc 0 0 0
implied (some p) = arc p.tail (p.head + 1) p.arc_length

-- the bit maps that a record may not have: bits 3 to 7, or at the first record a field absent
unfoldable pub forbidden : (before : Option Arc) → (bits : ℕ) → Bool
forbidden none bits = not (eqb bits 7)
forbidden (some p) bits = ltb 7 bits

-- A record: 10 in its bit map, 9 in a field, and at its end, all fields read, 11 and then 12. An implied head is the only one that can pass the last.
unfoldable pub read_record : (before : Option Arc) → Reader Arc
read_record before = do
  start ← here
  bits ← field map_width
  refuse_if (forbidden before bits) 10 start
  tail ← optional (has 1 bits) node_width (implied before).tail
  head ← optional (has 2 bits) node_width (implied before).head
  long ← optional (has 4 bits) length_width (implied before).arc_length
  refuse_if (ltb last_head head) 11 start
  refuse_if (not (eqb bits (record_bits before (arc tail head long)))) 12 start
  give (arc tail head long)

-- the records to the end of the file, of which so many are still allowed. 2: one more begins
unfoldable pub read_records : (allowed : ℕ) → (before : Option Arc) → Reader (List Arc)
read_records zero before at [] = got [] at []
read_records (suc k) before at [] = got [] at []
read_records zero before at (b ∷ rest) = refused 2 most_arcs
read_records (suc k) before at (b ∷ rest) = and_then (read_record before at (b ∷ rest)) λ a.
    do
      more ← read_records k (some a)
      give (a ∷ more)

-- the file
unfoldable pub read_content : Reader Content
read_content = do
  header ← read_header
  arcs ← read_records most_arcs none
  give (content header.n header.origin header.wanted arcs)

unfoldable pub read_file : (file : List ℕ) → Outcome Content
read_file file = read_content 0 file

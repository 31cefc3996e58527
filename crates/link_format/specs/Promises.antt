-- The promises about the format, over the definitions of Format.antt and Reading.antt. Assumes nothing: these are statements.
use Rattle.std.specs.Prelude.{Bool, true, false, ◌&&◌, ◌||◌, not, List, [], ◌∷◌, ◌≡◌, ℕ, ◌+◌, ◌≤◌, ◌<◌, eqb, length}
use Rattle.std.proofs.Math.Option.{Option, none, some}
use Rattle.table.specs.Table.{Arc, Below, most_nodes, most_arcs, most_wanted}
use Rattle.link_format.specs.Format.{Content, byte_limit, node_width, length_width, limit, has, all_nodes, header_bits, record_bits, file_bytes}
use Rattle.link_format.specs.Reading.{got, refused, forbidden_header, forbidden, implied, read_file}

-- Every file that the reader accepts is what the writer makes of what was read.
abbrev pub AcceptedFilesWriteBack : Type 0
AcceptedFilesWriteBack =
    (file : List ℕ) (t : Content) (next : ℕ) (rest : List ℕ) → Below byte_limit file → read_file file ≡ got t next rest → file_bytes t ≡ file

-- An arc, and a content, as columns of 16 and 32 bits hold them: tails, heads and wanted nodes need not be below n, nor a length above 0.
pub record SmallArc (a : Arc) : Type 0 where
  pub tail_fits : a.tail < limit node_width
  pub head_fits : a.head < limit node_width
  pub length_fits : a.arc_length < limit length_width

unfoldable pub SmallArcs : List Arc → Type 0
SmallArcs [] = Unit {0}
SmallArcs (a ∷ more) = SmallArc a × SmallArcs more

pub record WritableHeader (n origin : ℕ) (wanted : List ℕ) : Type 0 where
  pub some : 0 < n
  pub nodes : n ≤ most_nodes
  pub origin_fits : origin < limit node_width
  pub wanted_few : length wanted ≤ most_wanted
  pub wanted_fit : Below (limit node_width) wanted

pub record Writable (t : Content) : Type 0 where
  pub header : WritableHeader t.n t.origin t.wanted
  pub arcs_few : length t.arcs ≤ most_arcs
  pub arcs_fit : SmallArcs t.arcs

-- Every table that the writer accepts is read back as it was.
abbrev pub WrittenTablesReadBack : Type 0
WrittenTablesReadBack = (t : Content) → Writable t → read_file (file_bytes t) ≡ got t (length (file_bytes t)) []

-- The bytes of more than 6,000 arcs, whatever these are, are refused where record 6,001 begins.
abbrev pub LongFilesAreRefused : Type 0
LongFilesAreRefused =
    (t : Content) → WritableHeader t.n t.origin t.wanted → SmallArcs t.arcs → most_arcs < length t.arcs
    → read_file (file_bytes t) ≡ refused 2 most_arcs

-- A file that is refused has a number, and it is not 8, on which a plan is made all the same.
abbrev pub ReaderNumber : ℕ → Type 0
ReaderNumber n = (0 < n) × (n ≡ 8 → ⊥)

abbrev pub FilesRefusedByNumber : Type 0
FilesRefusedByNumber = (file : List ℕ) (n p : ℕ) → read_file file ≡ refused n p → ReaderNumber n

-- Rule 12 in 01's words: a field stands that says what its absence would say. Where the fields that are absent say that, and the bit map is
-- allowed, this is the same as a bit map that is not the canonical one.
unfoldable pub needless : (before : Option Arc) → (bits : ℕ) → Arc → Bool
needless none bits a = false
needless (some p) bits a =
    (has 1 bits && eqb a.tail p.tail) || ((has 2 bits && eqb a.head (p.head + 1)) || (has 4 bits && eqb a.arc_length p.arc_length))

pub record ImpliedWhereAbsent (before : Option Arc) (bits : ℕ) (a : Arc) : Type 0 where
  pub tail_said : has 1 bits ≡ false → a.tail ≡ (implied before).tail
  pub head_said : has 2 bits ≡ false → a.head ≡ (implied before).head
  pub length_said : has 4 bits ≡ false → a.arc_length ≡ (implied before).arc_length

abbrev pub NeedlessIsNotCanonical : Type 0
NeedlessIsNotCanonical =
    (before : Option Arc) (bits : ℕ) (a : Arc) → forbidden before bits ≡ false → ImpliedWhereAbsent before bits a
    → needless before bits a ≡ not (eqb bits (record_bits before a))

-- The same of a header: an origin of 0, or a wanted list of all nodes ascending, that is written out.
unfoldable pub needless_header : (bits n origin : ℕ) → (wanted : List ℕ) → Bool
needless_header bits n o ws = (has 2 bits && eqb o 0) || (has 4 bits && all_nodes n ws)

abbrev pub NeedlessHeaderIsNotCanonical : Type 0
NeedlessHeaderIsNotCanonical =
    (bits n o : ℕ) (ws : List ℕ) → forbidden_header bits ≡ false → (has 2 bits ≡ false → o ≡ 0) → (has 4 bits ≡ false → all_nodes n ws ≡ true)
    → needless_header bits n o ws ≡ not (eqb bits (header_bits n o ws))

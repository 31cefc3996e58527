-- What the answers of the reader's own functions mean, in the terms of Format.antt and Reading.antt. Assumes nothing: these are definitions.
use Rattle.std.specs.Prelude.{Bool, true, List, [], ◌∷◌, ◌≡◌, ℕ, zero, suc, ◌+◌, ◌-◌, ◌*◌, ◌≤◌, ◌<◌, length, drop, Option, Some, None, IfSome, Result, Ok, Err}
use Rattle.std.proofs.Math.Option as math
use Rattle.link_format.specs.Format.{node_width, most_header, most_record, content, count_up, counts_from, all_nodes}
use Rattle.link_format.specs.Reading.{Outcome, got, refused, accepted, list_got, number, read_wanted, read_header, read_record, read_records}
use Rattle.table.specs.declared.faults.Refusal.{Refusal}
use Rattle.table.specs.Table.{Arc, most_arcs, most_nodes, most_wanted}
use Rattle.table.specs.Told as told
use Rattle.table.specs.declared.links.Arc as links
use Rattle.table.specs.Lent.{arc_of}
use Rattle.link_fields.specs.declared.fields.Read.{Read}
use Rattle.link_reader.specs.declared.header.Header.{Header}
use Rattle.link_reader.specs.declared.header.Wanted.{Wanted}

-- An answer tells what reading gives: of its value this holds, or its refusal is the one that reading gives.
abbrev pub Reads : {T A : Type 0} → Result T Refusal → (T → Type 0) → Outcome A → Type 0
Reads (Ok v) Holds o = Holds v
Reads (Err r) Holds o = o ≡ refused (told.number r.fault) r.place

-- The record at the start of a part of the file was read: its arc, and where the next one begins in the file.
pub record RecordGot (before : math.Option Arc) (part : List ℕ) (at : ℕ) (r : Read links.Arc) : Type 0 where
  pub is : read_record before at part ≡ got (arc_of r.value) r.next (drop (r.next - at) part)
  -- the next record is behind this one, by at most the longest record, and not behind the file's end
  pub on : at < r.next
  pub near : r.next ≤ at + most_record
  pub inside : r.next ≤ at + length part

-- what reading the records from an offset to the end of the file gives, and their arcs
abbrev pub records_from : (file : List ℕ) → (start : ℕ) → Outcome (List Arc)
records_from file start = read_records most_arcs math.none start (drop start file)

abbrev pub arcs_from : (file : List ℕ) → (start : ℕ) → List Arc
arcs_from file start = list_got (records_from file start)

-- The records from an offset to the end of the file were read, and counted.
pub record Counted (file : List ℕ) (start count : ℕ) : Type 0 where
  pub good : accepted (records_from file start) ≡ true
  pub is : count ≡ length (arcs_from file start)

-- The second pass may run: the first one accepted the records, and the columns have room.
pub record Fillable (file : List ℕ) (start : ℕ) (tails heads lengths : List ℕ) : Type 0 where
  -- the records begin inside the file, behind a header
  pub inside : start ≤ length file
  pub short : start ≤ most_header
  -- all of them are good
  pub good : accepted (records_from file start) ≡ true
  -- and each column is long enough
  pub tails_room : most_arcs ≤ length tails
  pub heads_room : most_arcs ≤ length heads
  pub lengths_room : most_arcs ≤ length lengths

-- the nodes in so many pairs of bytes
unfoldable pub nodes_in : (count : ℕ) → List ℕ → List ℕ
nodes_in zero bs = []
nodes_in (suc k) bs = number node_width bs ∷ nodes_in k (drop node_width bs)

-- A run of nodes at an offset of the file was read, and compared with a run that counts up from 0.
pub record NodesGot (file : List ℕ) (from count : ℕ) (r : Read Bool) : Type 0 where
  -- the next offset, behind all nodes and inside the file
  pub on : r.next ≡ from + node_width * count
  pub inside : r.next ≤ length file
  -- whether they count up
  pub up : r.value ≡ counts_from 0 (nodes_in count (drop from file))

-- The wanted list: so many nodes that are listed at an offset of the file, or all n nodes.
unfoldable pub wanted_in : (file : List ℕ) → (listed_at : Option ℕ) → (n count : ℕ) → List ℕ
wanted_in file (Some at) n count = nodes_in count (drop at file)
wanted_in file None n count = count_up 0 n

-- The wanted list was read: the count, the next offset, and whether it is all nodes ascending.
pub record WantedGot (file : List ℕ) (from : ℕ) (listed : Bool) (n : ℕ) (w : Wanted) : Type 0 where
  pub is : read_wanted listed n from (drop from file) ≡ got (wanted_in file w.listed_at n w.count) w.next (drop w.next file)
  -- the count is the list's length, and not too high
  pub size : length (wanted_in file w.listed_at n w.count) ≡ w.count
  pub few : w.count ≤ most_wanted
  -- whether it is all nodes
  pub same : w.all ≡ all_nodes n (wanted_in file w.listed_at n w.count)
  -- the next offset is near and inside the file, and the nodes that are listed end there
  pub near : w.next ≤ from + node_width + node_width * most_wanted
  pub inside : w.next ≤ length file
  pub ends : IfSome w.listed_at (λ at. at + node_width * w.count ≡ w.next)

-- the wanted list of a header
abbrev pub wanted_of : (file : List ℕ) → Header → List ℕ
wanted_of file h = wanted_in file h.listed_at h.n h.wanted

-- The header was read.
pub record HeaderGot (file : List ℕ) (h : Header) : Type 0 where
  pub is : read_header 0 file ≡ got (content h.n h.origin (wanted_of file h) []) h.next (drop h.next file)
  -- the count of wanted nodes is the list's length
  pub size : length (wanted_of file h) ≡ h.wanted
  -- both counts are in range
  pub nodes : h.n ≤ most_nodes
  pub few : h.wanted ≤ most_wanted
  -- the first record is near and inside the file, and the nodes that are listed end where it begins
  pub short : h.next ≤ most_header
  pub inside : h.next ≤ length file
  pub ends : IfSome h.listed_at (λ at. at + node_width * h.wanted ≡ h.next)

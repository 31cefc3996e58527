-- What the functions on fields and bit maps answer and put, in the terms of Format.antt and Reading.antt. Assumes nothing: these are definitions.
use Rattle.std.specs.Prelude.{Bool, true, false, List, ◌≡◌, ℕ, ◌+◌, ◌≤◌, ◌<◌, length, drop, Option, Some, None}
use Rattle.std.proofs.Math.Option as math
use Rattle.std.proofs.lemmas.List.Edits.{sets}
use Rattle.table.specs.declared.links.Arc as links
use Rattle.table.specs.Lent.{arc_of}
use Rattle.table.specs.Table.{Arc, arc}
use Rattle.link_format.specs.Format.{node_width, length_width, limit, bit_map}
use Rattle.link_format.specs.Reading.{Reader, got, refused, implied}
use Rattle.link_fields.specs.declared.arcs.Absent.{Absent}
use Rattle.link_fields.specs.declared.bit_maps.BitMap.{BitMap}
use Rattle.link_fields.specs.declared.fields.Read.{Read}
use Rattle.link_fields.specs.declared.fields.Output.{Output}

-- At an offset of a part of the file a reader gets this field's value and goes on at its next offset, wherever in the file the part begins.
pub record Got (m : Reader ℕ) (part : List ℕ) (from width bound : ℕ) (f : Read ℕ) : Type 0 where
  pub is : (at : ℕ) → m (at + from) (drop from part) ≡ got f.value (at + f.next) (drop f.next part)
  -- the next offset is behind this one, by at most the field's width, and inside the part
  pub on : from ≤ f.next
  pub near : f.next ≤ from + width
  pub inside : f.next ≤ length part
  -- the value is below a bound
  pub small : f.value < bound

-- The part ends inside a field of this width, which is refused at the file's length.
pub record CutInside (m : Reader ℕ) (part : List ℕ) (from width : ℕ) : Type 0 where
  pub is : (at : ℕ) → m (at + from) (drop from part) ≡ refused 9 (at + length part)
  -- the end is near, so that its offset is small
  pub near : length part < from + width

abbrev pub FieldSays : Option (Read ℕ) → Reader ℕ → (part : List ℕ) → (from width bound : ℕ) → Type 0
FieldSays (Some f) m part from w bound = Got m part from w bound f
FieldSays None m part from w bound = CutInside m part from w

-- A PIECE OF THE FILE IS PUT behind the bytes written so far.
pub record Puts (piece : List ℕ) (old new : Output) : Type 0 where
  -- it is the same output
  pub same : new.bytes.ghost_name ≡ old.bytes.ghost_name
  -- the next piece goes behind this one
  pub on : new.end ≡ old.end + length piece
  -- the rest of the output is as it was
  pub is : new.bytes.now ≡ sets old.bytes.now old.end piece

-- the byte of a bit map
abbrev pub byte_of : BitMap → ℕ
byte_of m = bit_map m.first m.second m.third

-- The bit map that a byte is, unless the byte is forbidden.
abbrev pub MapSays : Option BitMap → (forbidden : Bool) → (byte : ℕ) → Type 0
MapSays (Some m) bad byte = (bad ≡ false) × (byte ≡ byte_of m)
MapSays None bad byte = bad ≡ true

-- the arc of the record before
abbrev pub arc_before : Option links.Arc → math.Option Arc
arc_before None = math.none
arc_before (Some p) = math.some (arc_of p)

-- What a record's absent fields say: a tail and a length fit their fields, a head may be one too high.
pub record AbsentSays (before : math.Option Arc) (a : Absent) : Type 0 where
  pub is : arc a.tail a.head a.length ≡ implied before
  pub tail_fits : a.tail < limit node_width
  pub length_fits : a.length < limit length_width

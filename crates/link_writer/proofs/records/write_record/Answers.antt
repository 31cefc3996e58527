-- `records::write_record` meets its contract: the bit map and its fields are put one after the other, each with its room. Assumes nothing.
use Rattle.std.proofs.Common.{◌≡◌, [], ◌∷◌, ◌++◌, List, ℕ, ◌∙◌}
use Rattle.table.specs.Lent.{arc_of}
use Rattle.table.specs.Table.{arc}
use Rattle.link_format.specs.Format.{field_bytes, record_bytes}
use Rattle.link_fields.specs.Fields.{arc_before, Puts}
use Rattle.link_fields.specs.declared.fields.Output.{Output}
use Rattle.link_fields.proofs.fields.Putting.{Putting, none_put, part_room, part_put, rest_room, rest_put}
use Rattle.link_writer.proofs.records.Bytes.{record_pieces}
use Rattle.link_writer.proofs.records.write_record.Goals as goal
use Rattle.link_writer.proofs.records.write_record.Goals.{After-from}

-- the record's pieces, which are left to put
module _ (c : After-from) where
  abbrev tail : List ℕ
  tail = field_bytes c.of_record-map.result.first 2 c.args.arc.tail

  abbrev head : List ℕ
  head = field_bytes c.of_record-map.result.second 2 c.args.arc.head

  abbrev long : List ℕ
  long = field_bytes c.of_record-map.result.third 4 c.args.arc.length

  abbrev whole : List ℕ
  whole = record_bytes (arc_before c.args.previous) (arc_of c.args.arc)

  pieces : whole ≡ c.from.result ∷ (tail ++ (head ++ long))
  unfolding arc
  pieces = record_pieces _ (arc_of c.args.arc) _ c.of_record-map.ensures ∙ rw c.from.ensures

  to_put : Putting whole (c.from.result ∷ (tail ++ (head ++ long))) c.args.output.now c.args.output.now
  to_put = rw pieces (none_put _ _ (rw pieces at c.requires))

  -- what is left behind the bit map, and behind the tail
  module _ {out : Output} (map_put : Puts (c.from.result ∷ []) c.args.output.now out) where
    after_map : Putting whole (tail ++ (head ++ long)) c.args.output.now out
    after_map = part_put (c.from.result ∷ []) _ to_put map_put

    after_tail : {out₁ : Output} → Puts tail out out₁ → Putting whole (head ++ long) c.args.output.now out₁
    after_tail = part_put tail _ after_map

pub byte-requires : goal.byte-requires
byte-requires c = part_room (c.from.result ∷ []) _ (to_put (goal.at.byte-requires c).After-from)

pub optional-requires : goal.optional-requires
optional-requires c =
    let here = (goal.at.optional-requires c).After-from in
    rw c.from-2.ensures (part_room (tail here) _ (after_map here c.byte.ensures))

pub optional-requires-2 : goal.optional-requires-2
optional-requires-2 c =
    let here = (goal.at.optional-requires-2 c).After-from in
    rw c.from-3.ensures (part_room (head here) _ (after_tail here c.byte.ensures (rw c.from-2.ensures at c.optional.ensures)))

pub optional-requires-3 : goal.optional-requires-3
optional-requires-3 c =
    let here = (goal.at.optional-requires-3 c).After-from in
    rest_room
    (part_put (head here) _ (after_tail here c.byte.ensures (rw c.from-2.ensures at c.optional.ensures))
    (rw c.from-3.ensures at c.optional-2.ensures))

-- the length is put too: the whole record
pub returns : goal.returns
returns c =
    let here = (goal.at.returns c).After-from in
    rest_put
    (part_put (head here) _ (after_tail here c.byte.ensures (rw c.from-2.ensures at c.optional.ensures))
    (rw c.from-3.ensures at c.optional-2.ensures))
    c.optional-3.ensures

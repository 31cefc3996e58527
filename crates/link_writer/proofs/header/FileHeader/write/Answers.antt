-- `FileHeader::write` meets its contract: the bit map and the fields are put one after the other, each with its room. Assumes nothing.
use Rattle.std.proofs.Common.{arith, ◌≡◌, [], ◌∷◌, ◌++◌, List, ℕ, ◌∙◌}
use Rattle.link_format.specs.Format.{bytes, field_bytes, wanted_bytes}
use Rattle.link_format.proofs.Numbers.{length_bytes}
use Rattle.link_writer.specs.Says.{bytes_of}
use Rattle.link_fields.specs.Fields.{Puts}
use Rattle.link_fields.specs.declared.fields.Output.{Output}
use Rattle.link_fields.proofs.fields.Putting.{Putting, none_put, part_room, part_put, rest_room, rest_put}
use Rattle.link_writer.proofs.header.Bytes.{header_pieces}
use Rattle.link_writer.proofs.header.FileHeader.write.Goals as goal
use Rattle.link_writer.proofs.header.FileHeader.write.Goals.{After-from}

-- the header's pieces, which are left to put
module _ (c : After-from) where
  abbrev count : List ℕ
  count = bytes 2 c.args.self.n

  abbrev origin : List ℕ
  origin = field_bytes c.args.self.map.second 2 c.args.self.origin

  abbrev list : List ℕ
  list = wanted_bytes c.args.self.map.third c.args.self.wanted.now

  pieces : bytes_of c.args.self ≡ c.from.result ∷ (count ++ (origin ++ list))
  pieces = header_pieces c.args.self ∙ rw c.from.ensures

  to_put : Putting (bytes_of c.args.self) (c.from.result ∷ (count ++ (origin ++ list))) c.args.output.now c.args.output.now
  to_put = rw pieces (none_put _ _ (rw pieces at c.requires))

  -- what is left behind the bit map, and behind the node count
  module _ {out : Output} (map_put : Puts (c.from.result ∷ []) c.args.output.now out) where
    after_map : Putting (bytes_of c.args.self) (count ++ (origin ++ list)) c.args.output.now out
    after_map = part_put (c.from.result ∷ []) _ to_put map_put

    after_count : {out₁ : Output} → Puts count out out₁ → Putting (bytes_of c.args.self) (origin ++ list) c.args.output.now out₁
    after_count = part_put count _ after_map

pub byte-requires : goal.byte-requires
byte-requires c = part_room (c.from.result ∷ []) _ (to_put (goal.at.byte-requires c).After-from)

pub field-requires : goal.field-requires
field-requires c =
    let here = (goal.at.field-requires c).After-from in
    omega (arith, length_bytes 2 c.args.self.n, part_room (count here) _ (after_map here c.byte.ensures))

pub optional-requires : goal.optional-requires
optional-requires c =
    let here = (goal.at.optional-requires c).After-from in
    rw c.from-2.ensures (part_room (origin here) _ (after_count here c.byte.ensures c.field.ensures))

pub write_wanted-requires : goal.write_wanted-requires
write_wanted-requires c =
    let here = (goal.at.write_wanted-requires c).After-from in
    rest_room (part_put (origin here) _ (after_count here c.byte.ensures c.field.ensures) (rw c.from-2.ensures at c.optional.ensures))

-- the wanted list is put too: the whole header
pub returns : goal.returns
returns c =
    let here = (goal.at.returns c).After-from in
    rest_put
    (part_put (origin here) _ (after_count here c.byte.ensures c.field.ensures) (rw c.from-2.ensures at c.optional.ensures))
    c.write_wanted.ensures

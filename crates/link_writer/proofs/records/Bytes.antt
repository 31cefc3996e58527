-- The bytes of a record: its bit map and three fields. Assumes nothing.
use mathlib.Core.List.{◌∷◌, ◌++◌}
use mathlib.Core.Option.{Option}
use mathlib.Core.Path.{◌≡◌}
use Rattle.table.specs.Table.{Arc}
use Rattle.link_format.specs.Format.{field_bytes, fields_bytes, record_bits, record_bytes}
use Rattle.link_format.proofs.BitMaps.{MadeOf, made_of}
use Rattle.link_fields.specs.Fields.{byte_of}
use Rattle.link_fields.specs.declared.bit_maps.BitMap.{BitMap}

pub record_pieces : (before : Option Arc) (a : Arc) (map : BitMap) → byte_of map ≡ record_bits before a
    → record_bytes before a ≡ byte_of map ∷ (field_bytes map.first 2 a.tail ++ (field_bytes map.second 2 a.head ++ field_bytes map.third 4 a.arc_length))
unfolding record_bytes fields_bytes
record_pieces before a map canonical =
    let m : MadeOf map.first map.second map.third = made_of map.first map.second map.third in
    rw (← canonical, m.first_bit, m.second_bit, m.third_bit)

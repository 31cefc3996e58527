-- The ways out of reading a record, one law for each `return` of the code, in the code's order. Assumes nothing.
use mathlib.Core.Bool.{true, false, not}
use mathlib.Core.List.{List}
use mathlib.Core.Option.{Option}
use mathlib.Core.Path.{◌≡◌, refl, sym, ◌∙◌}
use Prim.Native.Nat.{ℕ, ◌+◌, ◌≤◌, ◌<◌}
use native.Mathlib.Nat.{add-sub_cancel_left}
use native.Mathlib.Omega.{arith}
use lib.Dec.{ltb, eqb}
use lib.ListN.{length, drop, get_or}
use borrow.Author.Tests.{lt-ltb, le-ltb, eq-eqb, ne_eqb}
use Rattle.table.specs.Table.{Arc, arc}
use Rattle.link_format.specs.Format.{last_head, record_bits}
use Rattle.link_format.specs.Reading.{Reader, ◌>>◌, ◌>>=◌, refused, and_then, give, here, refuse_if, optional, implied, forbidden, read_record}
use Rattle.link_format.proofs.BitMaps.{MadeOf, made_of}
use Rattle.link_fields.specs.Fields.{Got, CutInside, AbsentSays, byte_of}
use Rattle.link_fields.proofs.fields.Parts.{first_byte}
use Rattle.link_fields.specs.declared.arcs.Absent.{Absent}
use Rattle.link_fields.specs.declared.bit_maps.BitMap.{BitMap}
use Rattle.link_fields.specs.declared.fields.Read.{Read}
use Rattle.link_reader.specs.Says.{RecordGot}

module _ (before : Option Arc) (part : List ℕ) (at : ℕ) (some : 0 < length part) where
  pub refused_bits : forbidden before (get_or part 0 0) ≡ true → read_record before at part ≡ refused 10 at
  unfolding read_record ◌>>=◌ ◌>>◌ and_then here refuse_if
  refused_bits bad = rw (first_byte part at some, bad)

  module _ (map : BitMap) (mapped : (forbidden before (get_or part 0 0) ≡ false) × (get_or part 0 0 ≡ byte_of map)) {absent : Absent} (says : AbsentSays before absent) where
    m : MadeOf map.first map.second map.third
    m = made_of map.first map.second map.third

    i : implied before ≡ arc absent.tail absent.head absent.length
    i = sym says.is

    pub cut_tail : CutInside (optional map.first 2 absent.tail) part 1 2 → read_record before at part ≡ refused 9 (at + length part)
    unfolding read_record ◌>>=◌ ◌>>◌ and_then here refuse_if arc
    cut_tail cut = rw (first_byte part at some, mapped.0, mapped.1, m.first_bit, i, cut.is at)

    module _ {b : ℕ} {t : Read ℕ} (tail : Got (optional map.first 2 absent.tail) part 1 2 b t) where
      pub cut_head : CutInside (optional map.second 2 absent.head) part t.next 2 → read_record before at part ≡ refused 9 (at + length part)
      unfolding read_record ◌>>=◌ ◌>>◌ and_then here refuse_if arc
      cut_head cut = rw (first_byte part at some, mapped.0, mapped.1, m.first_bit, i, tail.is at, m.second_bit, cut.is at)

      module _ {b₂ : ℕ} {h : Read ℕ} (head : Got (optional map.second 2 absent.head) part t.next 2 b₂ h) where
        pub cut_length : CutInside (optional map.third 4 absent.length) part h.next 4 → read_record before at part ≡ refused 9 (at + length part)
        unfolding read_record ◌>>=◌ ◌>>◌ and_then here refuse_if arc
        cut_length cut = rw (first_byte part at some, mapped.0, mapped.1, m.first_bit, i, tail.is at, m.second_bit, head.is at, m.third_bit, cut.is at)

        module _ {b₃ : ℕ} {l : Read ℕ} (long : Got (optional map.third 4 absent.length) part h.next 4 b₃ l) where
          abbrev a : Arc
          a = arc t.value h.value l.value

          -- THE FIELDS ARE READ: what is left to test
          tested : Reader Arc
          tested = do
            refuse_if (ltb last_head h.value) 11 at
            refuse_if (not (eqb (byte_of map) (record_bits before a))) 12 at
            give a

          fields_read : read_record before at part ≡ tested (at + l.next) (drop l.next part)
          unfolding read_record ◌>>=◌ ◌>>◌ and_then here refuse_if give arc tested
          fields_read =
              rw (first_byte part at some, mapped.0, mapped.1, m.first_bit, i, tail.is at, m.second_bit, head.is at, m.third_bit, long.is at) refl

          pub refused_head : last_head < h.value → read_record before at part ≡ refused 11 at
          unfolding ◌>>◌ and_then refuse_if tested
          refused_head high = fields_read ∙ rw (lt-ltb last_head h.value high)

          module _ (low : h.value ≤ last_head) where
            pub refused_needless : (byte_of map ≡ record_bits before (arc t.value h.value l.value) → ⊥) → read_record before at part ≡ refused 12 at
            unfolding ◌>>◌ and_then refuse_if tested
            refused_needless other = fields_read ∙ rw (le-ltb last_head h.value low, ne_eqb (byte_of map) (record_bits before a) other)

            pub got_record : byte_of map ≡ record_bits before (arc t.value h.value l.value)
                → RecordGot before part at (record { value = record { tail = t.value; head = h.value; length = l.value }; next = at + l.next })
            unfolding ◌>>◌ and_then refuse_if give arc tested
            got_record same =
                record {
                  is =
                      fields_read
                      ∙ rw (le-ltb last_head h.value low, eq-eqb (byte_of map) (record_bits before a) same, add-sub_cancel_left at l.next);
                  on = omega (arith, tail.on, head.on, long.on);
                  near = omega (arith, tail.near, head.near, long.near);
                  inside = omega (arith, long.inside);
                }

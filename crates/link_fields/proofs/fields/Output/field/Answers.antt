-- `Output::field` meets its contract: the bytes that are left to put stand behind those that were. Assumes nothing.
use Rattle.std.proofs.Common.{arith, refl, ◌≡◌, ◌+◌, ◌-◌, suc}
use borrow.Rule.Slice.PartMut.{mid_len}
use Rattle.link_format.specs.Format.{bytes}
use Rattle.link_format.proofs.Numbers.{length_bytes}
use Rattle.table.proofs.Storing.{column_next, part_done}
use Rattle.link_fields.proofs.fields.Output.field.Goals as goal

pub loop-byte-preserved : goal.loop-byte-preserved
unfolding bytes
loop-byte-preserved c =
    let a = c.args in
    let s = a.self.now in
    let size = mid_len s.end (s.end + a.width) s.bytes.now c.requires in
    let one_less : a.width - c.loop-byte.byte-index ≡ suc (a.width - (c.loop-byte.byte-index + 1)) = omega (arith, size) in
    column_next (rw one_less at c.loop-byte.invariant)

pub returns : goal.returns
unfolding bytes
returns c =
    let a = c.args in
    let s = a.self.now in
    let size = mid_len s.end (s.end + a.width) s.bytes.now c.requires in
    let none_left : a.width - c.loop-byte.byte-index ≡ 0 = omega (arith, size) in
    record {
      same = refl;
      on = rw (length_bytes a.width a.value);
      is =
          part_done s.bytes.now s.end (s.end + a.width - s.end) (rw none_left at c.loop-byte.invariant) (omega arith)
          (omega (arith, length_bytes a.width a.value));
    }

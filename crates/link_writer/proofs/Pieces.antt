-- The sizes of a field and of a record's fields. Assumes nothing.
use mathlib.Core.Bool.{Bool, true, false, cond}
use mathlib.Core.List.{List, ◌++◌}
use mathlib.Core.Path.{◌≡◌, refl}
use Prim.Native.Nat.{ℕ, ◌+◌, ◌*◌}
use native.Mathlib.Omega.{arith}
use mir.Val.{bool_byte}
use lib.ListN.{length, length-append}
use Rattle.table.specs.Table.{Arc}
use Rattle.link_format.specs.Format.{has, field_bytes, fields_bytes}
use Rattle.link_format.proofs.Numbers.{length_bytes}

pub length_field : (stands : Bool) (width value : ℕ) → length (field_bytes stands width value) ≡ bool_byte stands * width
unfolding field_bytes
length_field true width value = omega (arith, length_bytes width value)
length_field false width value = omega arith

by_width : (stands : Bool) (width value : ℕ) → length (field_bytes stands width value) ≡ cond stands width 0
unfolding field_bytes
by_width true width value = length_bytes width value
by_width false width value = refl

-- under any bit map
pub length_fields : (bits : ℕ) (a : Arc)
    → length (fields_bytes bits a) ≡ cond (has 1 bits) 2 0 + (cond (has 2 bits) 2 0 + cond (has 4 bits) 4 0)
unfolding fields_bytes
length_fields bits a =
    let t : List ℕ = field_bytes (has 1 bits) 2 a.tail in
    let h : List ℕ = field_bytes (has 2 bits) 2 a.head in
    let l : List ℕ = field_bytes (has 4 bits) 4 a.arc_length in
    rw (
      length-append t (h ++ l),
      length-append h l,
      by_width (has 1 bits) 2 a.tail,
      by_width (has 2 bits) 2 a.head,
      by_width (has 4 bits) 4 a.arc_length,
    )

-- A field at an offset of a part of the file: what the code's loop over its bytes comes to, and what the reader says there. Assumes nothing.
use mathlib.Core.Bool.{false}
use mathlib.Core.Path.{◌≡◌, refl, sym, ap, ap₂, ◌∙◌}
use mathlib.Core.List.{List, [], ◌∷◌, ◌++◌, append_assoc}
use Prim.Native.Nat.{ℕ, suc, ◌+◌, ◌-◌, ◌*◌, ◌^◌, ◌≤◌, ◌<◌}
use native.Mathlib.Nat.{zero-add, add_assoc, pow-le-pow_right}
use native.Mathlib.Decide.{dec_le}
use native.Mathlib.Omega.{arith}
use lib.ListN.{length, take, drop, get_or, length-drop, length-append, take-append-drop}
use lib.Seq.{drop-drop, drop_at}
use Rattle.std.proofs.Common.{length-take-le}
use Rattle.std.proofs.lemmas.List.{nil_from_length}
use borrow.Author.Tests.{le-leb, lt-leb}
use mir.Syntax.{Width}
use mir.Val.{Fits, bits}
use Rattle.table.specs.Table.{Below}
use Rattle.link_format.specs.Reading.{Reader, got, refused, number, field, optional, give}
use Rattle.link_format.proofs.Numbers.{number_small, below_drop}
use Rattle.link_format.proofs.Outcomes.{refused_got, got_next, got_value}
use Rattle.link_fields.specs.Fields.{Got, CutInside, FieldSays}
use Rattle.std.specs.Prelude.{Option, Some, None}
use Rattle.link_fields.specs.declared.fields.Read.{Read}

-- a column of a type's values is below the type's bound
pub column_below : (w : Width) (xs : List ℕ) → ((i : ℕ) → Fits w (get_or xs i 0)) → Below (2 ^ bits w) xs
unfolding Below
column_below w xs h = λ (i : ℕ). (h i).fits

module _ (part : List ℕ) (from width : ℕ) (fits : from ≤ length part) where
  -- there is room for the field
  pub field_got : width ≤ length part - from → Below 256 part
      → Got (field width) part from width (256 ^ width) (record { value = number width (drop from part); next = from + width })
  unfolding field
  field_got room small =
      record {
        is = λ (at : ℕ).
            rw (le-leb width (length (drop from part)) (rw (length-drop from part) room), drop-drop width from part, add_assoc at from width);
        on = omega arith;
        near = omega arith;
        inside = omega arith;
        small = number_small width (drop from part) (below_drop 256 from part small);
      }

  -- there is none
  pub field_cut : length part - from < width → CutInside (field width) part from width
  unfolding field
  field_cut short =
      record {
        is = λ (at : ℕ).
            let e : at + from + (length part - from) ≡ at + length part = omega arith in
            rw (lt-leb width (length (drop from part)) (rw (length-drop from part) short), length-drop from part, e);
        near = omega arith;
      }

-- a larger bound
pub field_wider : (r : Option (Read ℕ)) (m : Reader ℕ) (part : List ℕ) (from width small bound : ℕ) → small ≤ bound
    → FieldSays r m part from width small → FieldSays r m part from width bound
field_wider (Some f) m part from width small bound h g =
    record { is = g.is; on = g.on; near = g.near; inside = g.inside; small = omega (arith, g.small) }
field_wider None m part from width small bound h g = g

-- an absent field
pub absent_got : (part : List ℕ) (from width absent bound : ℕ) → from ≤ length part → absent < bound
    → Got (optional false width absent) part from width bound (record { value = absent; next = from })
unfolding optional give
absent_got part from width absent bound fits small =
    record { is = λ (at : ℕ). refl; on = omega arith; near = omega arith; inside = fits; small = small }

-- The loop over a field's bytes, from the highest down
pub record Passed (width : ℕ) (part : List ℕ) (value : ℕ) (left : List ℕ) : Type 0 where
  -- the bytes passed stand behind those that are left
  pub behind : List ℕ
  pub all : part ≡ left ++ behind
  -- so many they are
  pub many : ℕ
  pub count : length left + many ≡ width
  -- and the value is the number in them
  pub is : value ≡ number many behind

pub passed_none : (width : ℕ) (part left : List ℕ) → width ≤ length part → left ≡ take width part → Passed width part 0 left
unfolding number
passed_none width part left room e =
    record {
      behind = drop width part;
      all = rw e (sym (take-append-drop width part));
      many = 0;
      count = omega (arith, ap length e, length-take-le width part room);
      is = refl;
    }

module _ {width value : ℕ} {part left : List ℕ} (p : Passed width part value left) where
  pub passed_next : (more : List ℕ) (b : ℕ) → left ≡ more ++ b ∷ [] → Passed width part (value * 256 + b) more
  unfolding number
  passed_next more b e =
      record {
        behind = b ∷ p.behind;
        all = p.all ∙ ap (λ (l : List ℕ). l ++ p.behind) e ∙ append_assoc more (b ∷ []) p.behind;
        many = suc p.many;
        count = omega (arith, p.count, ap length e, length-append more (b ∷ []));
        is = ap (λ (v : ℕ). v * 256 + b) p.is;
      }

  pub passed_small : width ≤ 4 → Below 256 part → value < 256 ^ 4
  passed_small few small =
      let below : Below 256 p.behind = rw (p.all, drop_at left p.behind (length left) refl) at (below_drop 256 (length left) part small) in
      let fits : p.many ≤ 4 = omega (arith, p.count) in
      omega (arith, p.is, number_small p.many p.behind below, pow-le-pow_right {n = 256} (omega arith) fits)

  -- all bytes passed: the whole number
  pub passed_all : length left ≡ 0 → value ≡ number width part
  passed_all none = p.is ∙ ap₂ number (omega (arith, p.count)) (sym (p.all ∙ ap (λ (l : List ℕ). l ++ p.behind) (nil_from_length left none)))

-- what a field that was got is: the number in its bytes, and the offset behind them
pub field_value : {part : List ℕ} {from width bound : ℕ} {f : Read ℕ} → Got (field width) part from width bound f
    → (f.value ≡ number width (drop from part)) × (f.next ≡ from + width)
unfolding field
field_value {part} {from} {width} {bound} {f} g =
    elim (dec_le width (length (drop from part))) [
      | yes h ↦
          let e : got (number width (drop from part)) (0 + from + width) (drop width (drop from part)) ≡ got f.value (0 + f.next) (drop f.next part) =
          rw (le-leb width (length (drop from part)) h) at (g.is 0) in
          (sym (got_value e), let p : 0 + from + width ≡ 0 + f.next = got_next e in omega arith)
      | no h ↦
          let e : refused 9 (0 + from + length (drop from part)) ≡ got f.value (0 + f.next) (drop f.next part) =
          rw (lt-leb width (length (drop from part)) (omega (arith, h))) at (g.is 0) in
          absurd (refused_got e)
    ]

-- the same where the part is the whole file
pub got_here : {m : Reader ℕ} {file : List ℕ} {from width bound : ℕ} {f : Read ℕ} → Got m file from width bound f
    → m from (drop from file) ≡ got f.value f.next (drop f.next file)
got_here g = simp zero-add at (g.is 0)

pub cut_here : {m : Reader ℕ} {file : List ℕ} {from width : ℕ} → CutInside m file from width → m from (drop from file) ≡ refused 9 (length file)
cut_here cut = simp zero-add at (cut.is 0)

-- the bit map is the part's first byte
pub first_byte : (part : List ℕ) (at : ℕ) → 0 < length part → field 1 at part ≡ got (get_or part 0 0) (at + 1) (drop 1 part)
unfolding field number
first_byte [] at h = absurd (omega arith)
first_byte (b ∷ bs) at h = rw (le-leb 1 (length (b ∷ bs)) h, zero-add b)

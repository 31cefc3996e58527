-- Bit maps: the fields of a bit map, which ones a record may not have, and rule 12 in 01's words. Assumes nothing.
use mathlib.Core.Bool.{Bool, true, false, not, ◌&&◌, ◌||◌}
use mathlib.Core.Option.{none, some}
use mathlib.Core.Path.{◌≡◌, refl, ap, sym, ◌∙◌}
use Prim.Native.Nat.{ℕ, zero, suc, ◌+◌, ◌≤◌}
use native.Mathlib.Omega.{arith}
use lib.Dec.{ltb, eqb}
use borrow.Author.Tests.{ltb-false, eq-eqb, eqb-true, not-false, both_ways}
use Rattle.std.proofs.lemmas.Bool.{or_parts}
use Rattle.table.specs.Table.{arc}
use Rattle.link_format.specs.Format.{bit_map, has, all_nodes, header_bits, record_bits}
use Rattle.link_format.specs.Promises.{needless, needless_header, NeedlessIsNotCanonical, NeedlessHeaderIsNotCanonical}
use Rattle.link_format.specs.Reading.{forbidden_header, forbidden, implied}

-- A bit map has the bits that it was made of, and no other.
pub record MadeOf (a b c : Bool) : Type 0 where
  pub first_bit : has 1 (bit_map a b c) ≡ a
  pub second_bit : has 2 (bit_map a b c) ≡ b
  pub third_bit : has 4 (bit_map a b c) ≡ c
  pub low : bit_map a b c ≤ 7

pub made_of : (a b c : Bool) → MadeOf a b c
unfolding has bit_map
made_of true true true = record { first_bit = refl; second_bit = refl; third_bit = refl; low = omega arith }
made_of true true false = record { first_bit = refl; second_bit = refl; third_bit = refl; low = omega arith }
made_of true false true = record { first_bit = refl; second_bit = refl; third_bit = refl; low = omega arith }
made_of true false false = record { first_bit = refl; second_bit = refl; third_bit = refl; low = omega arith }
made_of false true true = record { first_bit = refl; second_bit = refl; third_bit = refl; low = omega arith }
made_of false true false = record { first_bit = refl; second_bit = refl; third_bit = refl; low = omega arith }
made_of false false true = record { first_bit = refl; second_bit = refl; third_bit = refl; low = omega arith }
made_of false false false = record { first_bit = refl; second_bit = refl; third_bit = refl; low = omega arith }

-- and one of at most 7 is made of its bits
pub its_bits : (bits : ℕ) → bits ≤ 7 → bits ≡ bit_map (has 1 bits) (has 2 bits) (has 4 bits)
unfolding has bit_map
its_bits zero h = refl
its_bits (suc zero) h = refl
its_bits (suc (suc zero)) h = refl
its_bits (suc (suc (suc zero))) h = refl
its_bits (suc (suc (suc (suc zero)))) h = refl
its_bits (suc (suc (suc (suc (suc zero))))) h = refl
its_bits (suc (suc (suc (suc (suc (suc zero)))))) h = refl
its_bits (suc (suc (suc (suc (suc (suc (suc zero))))))) h = refl
its_bits (suc (suc (suc (suc (suc (suc (suc (suc k)))))))) h = absurd (omega arith)

-- A bit that stands, and whether its field says what its absence would: an absent field does.
each_case : (P : Bool → Bool → Type 0) → P true true → P true false → P false true → (b e : Bool) → (b ≡ false → e ≡ true) → P b e
each_case P tt tf ft true true h = tt
each_case P tt tf ft true false h = tf
each_case P tt tf ft false true h = ft
each_case P tt tf ft false false h = absurd (both_ways _ refl (h refl))

-- Three bits, each with whether its field says what its absence would: one stands needlessly just where the bit map is not the canonical one.
abbrev Agree : (b₁ e₁ b₂ e₂ b₃ e₃ : Bool) → Type 0
unfolding bit_map
Agree b₁ e₁ b₂ e₂ b₃ e₃ =
    ((b₁ && e₁) || ((b₂ && e₂) || (b₃ && e₃))) ≡ not (eqb (bit_map b₁ b₂ b₃) (bit_map (not e₁) (not e₂) (not e₃)))

not_canonical : (b₁ e₁ b₂ e₂ b₃ e₃ : Bool) → (b₁ ≡ false → e₁ ≡ true) → (b₂ ≡ false → e₂ ≡ true) → (b₃ ≡ false → e₃ ≡ true) → Agree b₁ e₁ b₂ e₂ b₃ e₃
unfolding bit_map
not_canonical b₁ e₁ b₂ e₂ b₃ e₃ h₁ h₂ h₃ =
    each_case (λ (b e : Bool). Agree b e b₂ e₂ b₃ e₃)
    (each_case (λ (b e : Bool). Agree true true b e b₃ e₃)
    (each_case (λ (y z : Bool). Agree true true true true y z) refl refl refl b₃ e₃ h₃)
    (each_case (λ (y z : Bool). Agree true true true false y z) refl refl refl b₃ e₃ h₃)
    (each_case (λ (y z : Bool). Agree true true false true y z) refl refl refl b₃ e₃ h₃)
    b₂ e₂ h₂)
    (each_case (λ (b e : Bool). Agree true false b e b₃ e₃)
    (each_case (λ (y z : Bool). Agree true false true true y z) refl refl refl b₃ e₃ h₃)
    (each_case (λ (y z : Bool). Agree true false true false y z) refl refl refl b₃ e₃ h₃)
    (each_case (λ (y z : Bool). Agree true false false true y z) refl refl refl b₃ e₃ h₃)
    b₂ e₂ h₂)
    (each_case (λ (b e : Bool). Agree false true b e b₃ e₃)
    (each_case (λ (y z : Bool). Agree false true true true y z) refl refl refl b₃ e₃ h₃)
    (each_case (λ (y z : Bool). Agree false true true false y z) refl refl refl b₃ e₃ h₃)
    (each_case (λ (y z : Bool). Agree false true false true y z) refl refl refl b₃ e₃ h₃)
    b₂ e₂ h₂)
    b₁ e₁ h₁

eqb_said : {x y : ℕ} {b : Bool} → (b ≡ false → x ≡ y) → b ≡ false → eqb x y ≡ true
eqb_said {x} {y} said e = eq-eqb x y (said e)

pub needless_record : NeedlessIsNotCanonical
unfolding needless record_bits forbidden implied arc bit_map
needless_record none bits a good said =
    let seven : bits ≡ 7 = eqb-true bits 7 (not-false (eqb bits 7) good) in
    rw seven
needless_record (some p) bits a good said =
    let e = not_canonical (has 1 bits) (eqb a.tail p.tail) (has 2 bits) (eqb a.head (p.head + 1)) (has 4 bits) (eqb a.arc_length p.arc_length)
    (eqb_said said.tail_said) (eqb_said said.head_said) (eqb_said said.length_said) in
    rw (← its_bits bits (ltb-false 7 bits good)) at e

pub needless_header_bits : NeedlessHeaderIsNotCanonical
unfolding needless_header header_bits Agree forbidden_header
needless_header_bits bits n o ws allowed no_Origin no_list =
    let tests = or_parts (ltb 7 bits) (not (has 1 bits)) allowed in
    let low : bits ≤ 7 = ltb-false 7 bits tests.0 in
    let count : has 1 bits ≡ true = not-false (has 1 bits) tests.1 in
    let e = not_canonical true false (has 2 bits) (eqb o 0) (has 4 bits) (all_nodes n ws)
    (λ (z : true ≡ false). sym z) (eqb_said no_Origin) no_list in
    let made : bit_map true (has 2 bits) (has 4 bits) ≡ bits = ap (λ (b : Bool). bit_map b (has 2 bits) (has 4 bits)) (sym count) ∙ sym (its_bits bits low) in
    rw made at e

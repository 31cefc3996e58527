-- Outcomes: what follows where two are equal, and that no refusal of the reader has number 0 or 8. Assumes nothing.
use mathlib.Core.Bool.{Bool, true, false, cond}
use mathlib.Core.List.{List, [], ◌∷◌}
use mathlib.Core.Option.{Option, none, some}
use mathlib.Core.Path.{◌≡◌, refl, sym, subst, ◌∙◌}
use Prim.Native.Nat.{ℕ, zero, suc}
use native.Mathlib.Omega.{arith}
use lib.Dec.{ltb, leb}
use lib.ListN.{length}
use Rattle.table.specs.Refusals.{Refusal, refusal}
use Rattle.table.specs.Table.{Arc, most_wanted}
use Rattle.link_format.specs.Buffers.{too_short, reading, refusal_of}
use Rattle.link_format.specs.Format.{Content}
use Rattle.link_format.specs.Promises.{ReaderNumber, FilesRefusedByNumber}
use Rattle.link_format.specs.Reading.{◌>>◌, ◌>>=◌, Outcome, Reader, got, refused, and_then, give, here, refuse_if, field, optional, implied, read_nodes, read_wanted, read_header, read_record, read_records, read_content, read_file}

-- two outcomes that are equal
pub got_value : {A : Type 0} {a b : A} {m n : ℕ} {xs ys : List ℕ} → got a m xs ≡ got b n ys → a ≡ b
got_value e = cc

pub got_next : {A : Type 0} {a b : A} {m n : ℕ} {xs ys : List ℕ} → got a m xs ≡ got b n ys → m ≡ n
got_next e = cc

pub got_rest : {A : Type 0} {a b : A} {m n : ℕ} {xs ys : List ℕ} → got a m xs ≡ got b n ys → xs ≡ ys
got_rest e = cc

pub refused_got : {A : Type 0} {a : A} {m n p : ℕ} {xs : List ℕ} → refused m p ≡ got a n xs → ⊥
refused_got e = let z : ◌≡◌ {A = ℕ} 0 1 = cc in omega arith

refused_same : {A : Type 0} {m n p q : ℕ} → ◌≡◌ {A = Outcome A} (refused m p) (refused n q) → m ≡ n
refused_same e = cc

-- an outcome that is refused, by a refusal of that number and place
pub refused_by : {A : Type 0} {o : Outcome A} {f : Refusal} {n p : ℕ} → f ≡ refusal n p → o ≡ refused n p → o ≡ refused f.number f.place
unfolding refusal
refused_by e h = h ∙ rw e

-- no refusal of the reader has number 0 or 8
data Numbered {A : Type 0} : Outcome A → Type 0 where
  a_value : {a : A} {at : ℕ} {rest : List ℕ} → Numbered (got a at rest)
  a_refusal : {n p : ℕ} → ReaderNumber n → Numbered (refused n p)

numbered_after : {A B : Type 0} {o : Outcome A} {f : A → Reader B} → Numbered o
    → ((a : A) (at : ℕ) (rest : List ℕ) → Numbered (f a at rest)) → Numbered (and_then o f)
unfolding and_then
numbered_after (a_value {a} {at} {rest}) k = k a at rest
numbered_after (a_refusal h) k = a_refusal h

numbered_cond : {A : Type 0} (b : Bool) {x y : Outcome A} → Numbered x → Numbered y → Numbered (cond b x y)
numbered_cond true p q = p
numbered_cond false p q = q

numbered_field : (w at : ℕ) (rest : List ℕ) → Numbered (field w at rest)
unfolding field
numbered_field w at rest = numbered_cond (leb w (length rest)) a_value (a_refusal (omega arith, λ e. omega arith))

numbered_if : (bad : Bool) (n p at : ℕ) (rest : List ℕ) → ReaderNumber n → Numbered (refuse_if bad n p at rest)
unfolding refuse_if
numbered_if true n p at rest h = a_refusal h
numbered_if false n p at rest h = a_value

numbered_optional : (stands : Bool) (w absent at : ℕ) (rest : List ℕ) → Numbered (optional stands w absent at rest)
unfolding optional give
numbered_optional true w absent at rest = numbered_field w at rest
numbered_optional false w absent at rest = a_value

numbered_nodes : (k at : ℕ) (rest : List ℕ) → Numbered (read_nodes k at rest)
unfolding read_nodes ◌>>=◌ give
numbered_nodes zero at rest = a_value
numbered_nodes (suc k) at rest =
    numbered_after (numbered_field 2 at rest) λ (w at₁ : ℕ) (r₁ : List ℕ).
    numbered_after (numbered_nodes k at₁ r₁) λ (ws : List ℕ) (at₂ : ℕ) (r₂ : List ℕ). a_value

numbered_wanted : (stands : Bool) (n at : ℕ) (rest : List ℕ) → Numbered (read_wanted stands n at rest)
unfolding read_wanted ◌>>=◌ ◌>>◌ give
numbered_wanted false n at rest = a_value
numbered_wanted true n at rest =
    numbered_after (numbered_field 2 at rest) λ (count at₁ : ℕ) (r₁ : List ℕ).
    numbered_after (numbered_if (ltb most_wanted count) 5 most_wanted at₁ r₁ (omega arith, λ e. omega arith)) λ (u : Unit) (at₂ : ℕ) (r₂ : List ℕ). numbered_nodes count at₂ r₂

numbered_header : (at : ℕ) (rest : List ℕ) → Numbered (read_header at rest)
unfolding read_header ◌>>=◌ ◌>>◌ here and_then give
numbered_header at rest =
    numbered_after (numbered_field 1 at rest) λ (bits at₁ : ℕ) (r₁ : List ℕ).
    numbered_after (numbered_if _ _ _ at₁ r₁ (omega arith, λ e. omega arith)) λ (u₁ : Unit) (at₂ : ℕ) (r₂ : List ℕ).
    numbered_after (numbered_field 2 at₂ r₂) λ (n at₃ : ℕ) (r₃ : List ℕ).
    numbered_after (numbered_if _ _ _ at₃ r₃ (omega arith, λ e. omega arith)) λ (u₂ : Unit) (at₄ : ℕ) (r₄ : List ℕ).
    numbered_after (numbered_optional _ 2 0 at₄ r₄) λ (o at₅ : ℕ) (r₅ : List ℕ).
    numbered_after (numbered_wanted _ n at₅ r₅) λ (ws : List ℕ) (at₆ : ℕ) (r₆ : List ℕ).
    numbered_after (numbered_if _ _ _ at₆ r₆ (omega arith, λ e. omega arith)) λ (u₃ : Unit) (at₇ : ℕ) (r₇ : List ℕ). a_value

numbered_record : (before : Option Arc) (at : ℕ) (rest : List ℕ) → Numbered (read_record before at rest)
unfolding read_record ◌>>=◌ ◌>>◌ here and_then give
numbered_record before at rest =
    numbered_after (numbered_field 1 at rest) λ (bits at₁ : ℕ) (r₁ : List ℕ).
    numbered_after (numbered_if _ _ _ at₁ r₁ (omega arith, λ e. omega arith)) λ (u₁ : Unit) (at₂ : ℕ) (r₂ : List ℕ).
    numbered_after (numbered_optional _ 2 (implied before).tail at₂ r₂) λ (t at₃ : ℕ) (r₃ : List ℕ).
    numbered_after (numbered_optional _ 2 (implied before).head at₃ r₃) λ (h at₄ : ℕ) (r₄ : List ℕ).
    numbered_after (numbered_optional _ 4 (implied before).arc_length at₄ r₄) λ (l at₅ : ℕ) (r₅ : List ℕ).
    numbered_after (numbered_if _ _ _ at₅ r₅ (omega arith, λ e. omega arith)) λ (u₂ : Unit) (at₆ : ℕ) (r₆ : List ℕ).
    numbered_after (numbered_if _ _ _ at₆ r₆ (omega arith, λ e. omega arith)) λ (u₃ : Unit) (at₇ : ℕ) (r₇ : List ℕ). a_value

numbered_records : (k : ℕ) (before : Option Arc) (at : ℕ) (rest : List ℕ) → Numbered (read_records k before at rest)
unfolding read_records ◌>>=◌ give
numbered_records zero before at [] = a_value
numbered_records (suc k) before at [] = a_value
numbered_records zero before at (b ∷ rest) = a_refusal {n = 2} (omega arith, λ e. omega arith)
numbered_records (suc k) before at (b ∷ rest) =
    numbered_after (numbered_record before at (b ∷ rest)) λ (a : Arc) (at₁ : ℕ) (r₁ : List ℕ).
    numbered_after (numbered_records k (some a) at₁ r₁) λ (more : List Arc) (at₂ : ℕ) (r₂ : List ℕ). a_value

numbered_file : (file : List ℕ) → Numbered (read_file file)
unfolding read_file read_content ◌>>=◌ give
numbered_file file =
    numbered_after (numbered_header 0 file) λ (h : Content) (at₁ : ℕ) (r₁ : List ℕ).
    numbered_after (numbered_records _ none at₁ r₁) λ (arcs : List Arc) (at₂ : ℕ) (r₂ : List ℕ). a_value

numbered_reading : (file ts hs ls ws : List ℕ) → Numbered (reading file ts hs ls ws)
unfolding reading
numbered_reading file ts hs ls ws =
    numbered_cond (too_short (length ts) (length hs) (length ls) (length ws)) (a_refusal (omega arith, λ e. omega arith))
    (numbered_file file)

refused_number : {A : Type 0} {o : Outcome A} {n p : ℕ} → Numbered o → o ≡ refused n p → ReaderNumber n
refused_number a_value e = absurd (refused_got (sym e))
refused_number (a_refusal h) e = subst ReaderNumber (refused_same e) h

pub files_refused_by_number : FilesRefusedByNumber
files_refused_by_number file n p e = refused_number (numbered_file file) e

-- so number 0 is an acceptance, with buffers that are long enough
got_of : {A : Type 0} (o : Outcome A) → Numbered o → (refusal_of o).number ≡ 0 → (a : A) × (at : ℕ) × (rest : List ℕ) × (o ≡ got a at rest)
unfolding refusal_of refusal
got_of (got a at rest) n e = (a, at, rest, refl)
got_of (refused k p) (a_refusal h) e = absurd (omega (arith, h.0, e))

pub read_without_refusal : (file ts hs ls ws : List ℕ) → (refusal_of (reading file ts hs ls ws)).number ≡ 0
    → (t : Content) × (at : ℕ) × (rest : List ℕ) × (reading file ts hs ls ws ≡ got t at rest)
read_without_refusal file ts hs ls ws e = got_of (reading file ts hs ls ws) (numbered_reading file ts hs ls ws) e

chosen : {A : Type 0} (b : Bool) {o : Outcome A} {a : A} {at : ℕ} {rest : List ℕ} → cond b (refused 3 0) o ≡ got a at rest → o ≡ got a at rest
chosen true e = absurd (refused_got e)
chosen false e = e

pub file_of_reading : (file ts hs ls ws : List ℕ) {t : Content} {at : ℕ} {rest : List ℕ} → reading file ts hs ls ws ≡ got t at rest → read_file file ≡ got t at rest
unfolding reading
file_of_reading file ts hs ls ws e = chosen (too_short (length ts) (length hs) (length ls) (length ws)) e

-- the buffers come first
pub reading_short : (file tails heads lengths wanted : List ℕ) → too_short (length tails) (length heads) (length lengths) (length wanted) ≡ true
    → reading file tails heads lengths wanted ≡ refused 3 0
unfolding reading
reading_short file tails heads lengths wanted e = rw e

pub reading_roomy : (file tails heads lengths wanted : List ℕ) → too_short (length tails) (length heads) (length lengths) (length wanted) ≡ false
    → reading file tails heads lengths wanted ≡ read_file file
unfolding reading
reading_roomy file tails heads lengths wanted e = rw e

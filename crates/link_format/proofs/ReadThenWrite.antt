-- Every file that the reader accepts is what the writer makes of what was read. Each part of the reader is taken back to the bytes that it
-- read: where it got a value, those bytes are what the writer puts for that value. Assumes nothing.
use mathlib.Core.Bool.{Bool, true, false}
use mathlib.Core.List.{List, [], ◌∷◌, ◌++◌, append_assoc}
use mathlib.Core.Option.{Option, none, some}
use mathlib.Core.Path.{◌≡◌, refl, ap, sym, ◌∙◌, subst}
use Prim.Native.Nat.{ℕ, zero, suc, ◌+◌, ◌≤◌}
use native.Mathlib.Nat.{zero-add}
use native.Mathlib.Decide.{dec_le}
use native.Mathlib.Omega.{arith}
use lib.ListN.{length, drop, take-append-drop}
use borrow.Author.Tests.{le-leb, lt-leb, ltb-false, eqb-true, not-false}
use Rattle.table.specs.Refusals.{count_bad}
use Rattle.table.specs.Table.{Arc, arc, Below, most_nodes, most_arcs, most_wanted}
use Rattle.link_format.specs.Format.{Content, content, bytes, has, count_up, field_bytes, nodes_bytes, wanted_bytes, header_bits, header_bytes, record_bits, fields_bytes, record_bytes, records_bytes, file_bytes}
use Rattle.link_format.specs.Promises.{AcceptedFilesWriteBack}
use Rattle.link_format.specs.Reading.{◌>>◌, ◌>>=◌, Outcome, Reader, got, refused, list_got, and_then, give, here, refuse_if, number, field, optional, implied, read_nodes, read_wanted, read_header, read_record, read_records, read_content, read_file}
use Rattle.link_format.proofs.AllNodes.{length_count_up}
use Rattle.table.proofs.Counts.{few_nodes}
use Rattle.link_format.proofs.Numbers.{bytes_number, below_drop}
use Rattle.link_format.proofs.Outcomes.{got_value, got_rest, refused_got}
use Rattle.link_format.proofs.Records.{few_records}

-- What follows a step of a `do` block that got a value: the step got one too.
module _ {B : Type 0} {b : B} {next : ℕ} {end : List ℕ} {P : Type 0} where
  then_got : {A : Type 0} {o : Outcome A} {f : A → Reader B} → and_then o f ≡ got b next end
      → ((a : A) (at : ℕ) (rest : List ℕ) → o ≡ got a at rest → f a at rest ≡ got b next end → P) → P
  unfolding and_then
  then_got {o = got a at rest} e k = k a at rest refl e
  then_got {o = refused n p} e k = absurd (refused_got e)

  passed : (bad : Bool) (n p at : ℕ) (rest : List ℕ) (f : Unit → Reader B) → and_then (refuse_if bad n p at rest) f ≡ got b next end
      → (bad ≡ false → f tt at rest ≡ got b next end → P) → P
  unfolding and_then refuse_if
  passed true n p at rest f e k = absurd (refused_got e)
  passed false n p at rest f e k = k refl e

  -- a bit map
  byte_first : (at : ℕ) (rest : List ℕ) (f : ℕ → Reader B) → Below 256 rest → and_then (field 1 at rest) f ≡ got b next end
      → ((bits : ℕ) (more : List ℕ) → rest ≡ bits ∷ more → Below 256 more → f bits (at + 1) more ≡ got b next end → P) → P
  unfolding and_then field number Below
  byte_first at [] f small e k = absurd (refused_got e)
  byte_first at (x ∷ more) f small e k =
      k x more refl (λ (i : ℕ). small (suc i)) (rw (le-leb 1 (length (x ∷ more)) (omega arith), zero-add x) at e)

-- a field
field_back : (w at : ℕ) (rest : List ℕ) {v next : ℕ} {more : List ℕ} → Below 256 rest → field w at rest ≡ got v next more
    → (rest ≡ bytes w v ++ more) × Below 256 more
unfolding field
field_back w at rest {v} {next} {more} small e =
    elim (dec_le w (length rest)) [
      | yes h ↦
          let is : got (number w rest) (at + w) (drop w rest) ≡ got v next more = rw (le-leb w (length rest) h) at e in
          let value : number w rest ≡ v = got_value is in
          let left : drop w rest ≡ more = got_rest is in (
            sym (take-append-drop w rest) ∙ rw (← left, ← value, bytes_number w rest small h),
            subst (Below 256) left (below_drop 256 w rest small),
          )
      | no h ↦ absurd (refused_got (rw (lt-leb w (length rest) (omega (arith, h))) at e))
    ]

optional_back : (stands : Bool) (w absent at : ℕ) (rest : List ℕ) {v next : ℕ} {more : List ℕ} → Below 256 rest
    → optional stands w absent at rest ≡ got v next more → (rest ≡ field_bytes stands w v ++ more) × Below 256 more
unfolding optional field_bytes give
optional_back true w absent at rest small e = field_back w at rest small e
optional_back false w absent at rest small e = (got_rest e, subst (Below 256) (got_rest e) small)

-- a run of nodes
nodes_back : (k at : ℕ) (rest : List ℕ) {ws : List ℕ} {next : ℕ} {more : List ℕ} → Below 256 rest → read_nodes k at rest ≡ got ws next more
    → (rest ≡ nodes_bytes ws ++ more) × (Below 256 more) × (length ws ≡ k)
unfolding read_nodes ◌>>=◌ give nodes_bytes
nodes_back zero at rest small e = rw (← got_value e, ← got_rest e) (refl, small, refl)
nodes_back (suc k) at rest {ws} {next} {more} small e =
    then_got e λ (w at₁ : ℕ) (r₁ : List ℕ) e₁ k₁.
    then_got k₁ λ (tl : List ℕ) (at₂ : ℕ) (r₂ : List ℕ) e₂ k₂.
    let one = field_back 2 at rest small e₁ in
    let all = nodes_back k at₁ r₁ one.1 e₂ in
    let list : w ∷ tl ≡ ws = got_value k₂ in
    let left : r₂ ≡ more = got_rest k₂ in (
      one.0 ∙ rw (all.0, ← list, left) (sym (append_assoc (bytes 2 w) (nodes_bytes tl) more)),
      subst (Below 256) left all.1,
      ap length (sym list) ∙ ap suc all.2,
    )

-- the wanted list
wanted_back : (stands : Bool) (n at : ℕ) (rest : List ℕ) {ws : List ℕ} {next : ℕ} {more : List ℕ} → Below 256 rest
    → n ≤ most_nodes → read_wanted stands n at rest ≡ got ws next more
    → (rest ≡ wanted_bytes stands ws ++ more) × (Below 256 more) × (length ws ≤ most_wanted)
unfolding read_wanted ◌>>=◌ ◌>>◌ give wanted_bytes
wanted_back false n at rest {ws} small low e =
    let all : length (count_up 0 n) ≡ length ws = ap length (got_value e) in
    (got_rest e, subst (Below 256) (got_rest e) small, omega (arith, length_count_up 0 n))
wanted_back true n at rest {ws} {next} {more} small low e =
    then_got e λ (count at₁ : ℕ) (r₁ : List ℕ) e₁ k₁.
    passed _ 5 most_wanted _ _ _ k₁ λ ok k₂.
    let one = field_back 2 at rest small e₁ in
    let all = nodes_back count at₁ r₁ one.1 k₂ in (
      one.0 ∙ rw (all.0, all.2) (sym (append_assoc (bytes 2 count) (nodes_bytes ws) more)),
      all.1,
      omega (arith, all.2, ltb-false most_wanted count ok),
    )

-- What a header that was got is: its bytes stand first in what was read, and its counts are good.
pub record HeaderBack (rest more : List ℕ) (t : Content) : Type 0 where
  pub bytes_are : rest ≡ header_bytes t.n t.origin t.wanted ++ more
  pub small : Below 256 more
  pub fine : count_bad t.n ≡ false
  pub few : length t.wanted ≤ most_wanted

-- the pieces of a header, and of a record, put together
header_made : (bits n o : ℕ) (ws rest r₁ r₂ r₃ r₄ : List ℕ) {t : Content} {at next : ℕ} {more : List ℕ} → rest ≡ bits ∷ r₁ → r₁ ≡ bytes 2 n ++ r₂
    → r₂ ≡ field_bytes (has 2 bits) 2 o ++ r₃ → r₃ ≡ wanted_bytes (has 4 bits) ws ++ r₄ → Below 256 r₄ → bits ≡ header_bits n o ws
    → count_bad n ≡ false → length ws ≤ most_wanted → got (content n o ws []) at r₄ ≡ got t next more → HeaderBack rest more t
unfolding header_bytes content
header_made bits n o ws rest r₁ r₂ r₃ r₄ {t} {at} {next} {more} e₁ e₂ e₃ e₄ small same fine few e =
    let is : content n o ws [] ≡ t = got_value e in
    let left : r₄ ≡ more = got_rest e in
    let origin : List ℕ = field_bytes (has 2 bits) 2 o in
    let list : List ℕ = wanted_bytes (has 4 bits) ws in
    record {
      bytes_are =
          rw (← is, ← left, ← same) (e₁ ∙ rw (e₂, e₃, e₄, append_assoc (bytes 2 n) (origin ++ list) r₄, append_assoc origin list r₄));
      small = subst (Below 256) left small;
      fine = rw (← is) fine;
      few = rw (← is) few;
    }

record_made : (before : Option Arc) (bits t h l : ℕ) (rest r₁ r₂ r₃ r₄ : List ℕ) {a : Arc} {at next : ℕ} {more : List ℕ} → rest ≡ bits ∷ r₁
    → r₁ ≡ field_bytes (has 1 bits) 2 t ++ r₂ → r₂ ≡ field_bytes (has 2 bits) 2 h ++ r₃ → r₃ ≡ field_bytes (has 4 bits) 4 l ++ r₄ → Below 256 r₄
    → bits ≡ record_bits before (arc t h l) → got (arc t h l) at r₄ ≡ got a next more → (rest ≡ record_bytes before a ++ more) × Below 256 more
unfolding record_bytes fields_bytes arc
record_made before bits t h l rest r₁ r₂ r₃ r₄ {a} {at} {next} {more} e₁ e₂ e₃ e₄ small same e =
    let is : arc t h l ≡ a = got_value e in
    let left : r₄ ≡ more = got_rest e in
    let x : List ℕ = field_bytes (has 1 bits) 2 t in
    let y : List ℕ = field_bytes (has 2 bits) 2 h in
    let z : List ℕ = field_bytes (has 4 bits) 4 l in (
      rw (← is, ← left, ← same) (e₁ ∙ rw (e₂, e₃, e₄, append_assoc x (y ++ z) r₄, append_assoc y z r₄)),
      subst (Below 256) left small,
    )

-- the header
pub header_back : (at : ℕ) (rest : List ℕ) {t : Content} {next : ℕ} {more : List ℕ} → Below 256 rest → read_header at rest ≡ got t next more
    → HeaderBack rest more t
unfolding read_header ◌>>=◌ ◌>>◌ here and_then give
header_back at rest {t} {next} {more} small e =
    byte_first at rest _ small e λ (bits : ℕ) (r₁ : List ℕ) e₁ s₁ k₁.
    passed _ 10 at _ _ _ k₁ λ ok₁ k₂.
    then_got k₂ λ (n at₂ : ℕ) (r₂ : List ℕ) e₂ k₃.
    passed _ 1 0 _ _ _ k₃ λ ok₂ k₄.
    then_got k₄ λ (o at₃ : ℕ) (r₃ : List ℕ) e₃ k₅.
    then_got k₅ λ (ws : List ℕ) (at₄ : ℕ) (r₄ : List ℕ) e₄ k₆.
    passed _ 12 at _ _ _ k₆ λ ok₃ k₇.
    let f₂ = field_back 2 (at + 1) r₁ s₁ e₂ in
    let f₃ = optional_back (has 2 bits) 2 0 at₂ r₂ f₂.1 e₃ in
    let f₄ = wanted_back (has 4 bits) n at₃ r₃ f₃.1 (few_nodes ok₂) e₄ in
    header_made bits n o ws rest r₁ r₂ r₃ r₄ e₁ f₂.0 f₃.0 f₄.0 f₄.1 (eqb-true bits (header_bits n o ws) (not-false _ ok₃)) ok₂ f₄.2 k₇

-- one record
pub record_back : (before : Option Arc) (at : ℕ) (rest : List ℕ) {a : Arc} {next : ℕ} {more : List ℕ} → Below 256 rest
    → read_record before at rest ≡ got a next more → (rest ≡ record_bytes before a ++ more) × Below 256 more
unfolding read_record ◌>>=◌ ◌>>◌ here and_then give
record_back before at rest {a} {next} {more} small e =
    byte_first at rest _ small e λ (bits : ℕ) (r₁ : List ℕ) e₁ s₁ k₁.
    passed _ 10 at _ _ _ k₁ λ ok₁ k₂.
    then_got k₂ λ (t at₂ : ℕ) (r₂ : List ℕ) e₂ k₃.
    then_got k₃ λ (h at₃ : ℕ) (r₃ : List ℕ) e₃ k₄.
    then_got k₄ λ (l at₄ : ℕ) (r₄ : List ℕ) e₄ k₅.
    passed _ 11 at _ _ _ k₅ λ ok₂ k₆.
    passed _ 12 at _ _ _ k₆ λ ok₃ k₇.
    let f₂ = optional_back (has 1 bits) 2 (implied before).tail (at + 1) r₁ s₁ e₂ in
    let f₃ = optional_back (has 2 bits) 2 (implied before).head at₂ r₂ f₂.1 e₃ in
    let f₄ = optional_back (has 4 bits) 4 (implied before).arc_length at₃ r₃ f₃.1 e₄ in
    record_made before bits t h l rest r₁ r₂ r₃ r₄ e₁ f₂.0 f₃.0 f₄.0 f₄.1 (eqb-true bits (record_bits before (arc t h l)) (not-false _ ok₃)) k₇

-- the records to the end of the file
records_back : (k : ℕ) (before : Option Arc) (at : ℕ) (rest : List ℕ) {arcs : List Arc} {next : ℕ} {more : List ℕ} → Below 256 rest
    → read_records k before at rest ≡ got arcs next more → rest ≡ records_bytes before arcs
unfolding read_records ◌>>=◌ give records_bytes
records_back zero before at [] small e = ap (records_bytes before) (got_value e)
records_back (suc k) before at [] small e = ap (records_bytes before) (got_value e)
records_back zero before at (b ∷ rest) small e = absurd (refused_got e)
records_back (suc k) before at (b ∷ rest) {arcs} small e =
    then_got e λ (a : Arc) (at₁ : ℕ) (r₁ : List ℕ) e₁ k₁.
    then_got k₁ λ (tl : List Arc) (at₂ : ℕ) (r₂ : List ℕ) e₂ k₂.
    let one = record_back before at (b ∷ rest) small e₁ in
    let all : r₁ ≡ records_bytes (some a) tl = records_back k (some a) at₁ r₁ one.1 e₂ in
    let list : a ∷ tl ≡ arcs = got_value k₂ in
    one.0 ∙ rw (all, ← list)

-- What an accepted file is: the bytes of its content, whose counts are good.
pub record FileBack (file : List ℕ) (t : Content) : Type 0 where
  pub bytes_are : file_bytes t ≡ file
  pub fine : count_bad t.n ≡ false
  pub wanted_few : length t.wanted ≤ most_wanted
  pub arcs_few : length t.arcs ≤ most_arcs

pub file_back : (file : List ℕ) {t : Content} {next : ℕ} {rest : List ℕ} → Below 256 file → read_file file ≡ got t next rest → FileBack file t
unfolding read_file read_content ◌>>=◌ give file_bytes content list_got
file_back file {t} small e =
    then_got e λ (h : Content) (at₁ : ℕ) (r₁ : List ℕ) e₁ k₁.
    then_got k₁ λ (arcs : List Arc) (at₂ : ℕ) (r₂ : List ℕ) e₂ k₂.
    let head = header_back 0 file small e₁ in
    let all : r₁ ≡ records_bytes none arcs = records_back most_arcs none at₁ r₁ head.small e₂ in
    let is : content h.n h.origin h.wanted arcs ≡ t = got_value k₂ in
    let few : length arcs ≤ most_arcs = rw e₂ at (few_records most_arcs none at₁ r₁) in
    record {
      bytes_are = rw (← is) (sym (head.bytes_are ∙ rw all));
      fine = rw (← is) head.fine;
      wanted_few = rw (← is) head.few;
      arcs_few = rw (← is) few;
    }

pub accepted_files_write_back : AcceptedFilesWriteBack
accepted_files_write_back file t next rest small e = (file_back file small e).bytes_are

-- Running through the records of a file: what is left to read at an offset, before and after one record. Assumes nothing.
use mathlib.Core.List.{List, []}
use mathlib.Core.Option.{Option, some}
use mathlib.Core.Bool.{true}
use mathlib.Core.Path.{◌≡◌, refl, sym, ap, ◌∙◌}
use Prim.Native.Nat.{ℕ, suc, ◌+◌, ◌-◌, ◌*◌, ◌≤◌, ◌<◌}
use native.Mathlib.Nat.{add-zero}
use native.Mathlib.Omega.{arith}
use lib.ListN.{length, drop, length-drop, drop_of_length-le}
use lib.Seq.{drop-drop}
use Rattle.table.specs.Table.{Arc, most_arcs}
use Rattle.link_format.specs.Reading.{Outcome, got, refused, accepted, list_got, and_then, give, read_record, read_records}
use Rattle.link_format.proofs.Outcomes.{got_value, refused_got}
use Rattle.link_format.proofs.Records.{in_front, records_more, records_full, records_none}
use Rattle.table.specs.Lent.{arc_of}
use Rattle.table.specs.declared.links.Arc as links
use Rattle.link_fields.specs.declared.fields.Read.{Read}
use Rattle.link_reader.specs.Says.{RecordGot}
use Rattle.link_format.specs.Format.{most_record, most_header}

-- what is left to read at an offset, after so many records
abbrev pub remaining : (file : List ℕ) → (at count : ℕ) → (before : Option Arc) → Outcome (List Arc)
remaining file at count before = read_records (most_arcs - count) before at (drop at file)

module _ (file : List ℕ) (at count : ℕ) (before : Option Arc) where
  pub run_none : length file ≤ at → remaining file at count before ≡ got [] at []
  run_none end = rw (drop_of_length-le file end) (records_none (most_arcs - count) before at)

  module _ (more : at < length file) where
    left : 0 < length (drop at file)
    left = rw (length-drop at file) (omega arith)

    pub run_full : count ≡ most_arcs → remaining file at count before ≡ refused 2 most_arcs
    run_full full =
        let none_left : most_arcs - count ≡ 0 = omega arith in
        rw none_left (records_full before at (drop at file) left)

    module _ (few : count < most_arcs) where
      one_less : most_arcs - count ≡ suc (most_arcs - (count + 1))
      one_less = omega arith

      pub run_refused : {n p : ℕ} → read_record before at (drop at file) ≡ refused n p → remaining file at count before ≡ refused n p
      unfolding and_then
      run_refused e = rw one_less (records_more (most_arcs - (count + 1)) before at (drop at file) left ∙ rw e)

      pub run_more : {r : Read links.Arc} → RecordGot before (drop at file) at r
          → remaining file at count before ≡ in_front (arc_of r.value) (remaining file r.next (count + 1) (some (arc_of r.value)))
      unfolding and_then
      run_more {r} g =
          let there : at + (r.next - at) ≡ r.next = omega (arith, g.on) in
          rw one_less (records_more (most_arcs - (count + 1)) before at (drop at file) left ∙ rw (g.is, drop-drop (r.next - at) at file, there))

-- what reading records gives, as their count after so many before them
abbrev pub count_of : ℕ → Outcome (List Arc) → Outcome ℕ
count_of k (got arcs next rest) = got (k + length arcs) next rest
count_of k (refused n p) = refused n p

counted : (o : Outcome (List Arc)) {k next : ℕ} {rest : List ℕ} → got k next rest ≡ count_of 0 o → (accepted o ≡ true) × (k ≡ length (list_got o))
unfolding accepted list_got
counted (got arcs next rest) {k} e = (refl, let all : k ≡ 0 + length arcs = got_value e in omega arith)
counted (refused n p) e = absurd (refused_got (sym e))

not_counted : (o : Outcome (List Arc)) {n p : ℕ} → refused n p ≡ count_of 0 o → o ≡ refused n p
not_counted (got arcs next rest) e = absurd (refused_got e)
not_counted (refused n p) e = cc

-- all records were counted; one is refused; there is one too many
module _ (file : List ℕ) (at count : ℕ) (before : Option Arc) (o : Outcome (List Arc)) (same : count_of count (remaining file at count before) ≡ count_of 0 o) where
  pub all_counted : length file ≤ at → (accepted o ≡ true) × (count ≡ length (list_got o))
  all_counted end = counted o (rw add-zero at (sym (ap (count_of count) (run_none file at count before end)) ∙ same))

  pub one_refused : at < length file → count < most_arcs → {n p : ℕ} → read_record before at (drop at file) ≡ refused n p → o ≡ refused n p
  one_refused more few e = not_counted o (sym (ap (count_of count) (run_refused file at count before more few e)) ∙ same)

  pub one_too_many : at < length file → count ≡ most_arcs → o ≡ refused 2 most_arcs
  one_too_many more full = not_counted o (sym (ap (count_of count) (run_full file at count before more full)) ∙ same)

pub count_more : (k : ℕ) (a : Arc) (o : Outcome (List Arc)) → count_of k (in_front a o) ≡ count_of (k + 1) o
unfolding and_then give
count_more k a (got more next rest) = let e : k + suc (length more) ≡ k + 1 + length more = omega arith in rw e
count_more k a (refused n p) = refl

-- Where both passes stand: inside the file, after so many records behind a header.
pub record Standing (file : List ℕ) (at count : ℕ) : Type 0 where
  pub inside : at ≤ length file
  -- no record is longer than the longest, so that the offset stays small
  pub short : at ≤ most_header + most_record * count

pub standing_next : {file : List ℕ} {at count : ℕ} → Standing file at count → (before : Option Arc) (r : Read links.Arc)
    → RecordGot before (drop at file) at r → Standing file r.next (count + 1)
standing_next {file} {at} {count} s before r g =
    record { inside = omega (arith, g.inside, length-drop at file, s.inside); short = omega (arith, g.near, s.short) }

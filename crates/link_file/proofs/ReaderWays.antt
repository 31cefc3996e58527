-- From the header and the records to the whole file, and from the filled buffers to what the reader's entry says. Assumes nothing.
use mathlib.Core.Bool.{true}
use mathlib.Core.List.{List}
use mathlib.Core.Option.{none}
use mathlib.Core.Path.{◌≡◌, refl, ap, ◌∙◌}
use Prim.Native.Nat.{ℕ, ◌≤◌}
use native.Mathlib.Omega.{arith}
use lib.ListN.{length, drop, length-map}
use lib.Seq.{sets}
use Rattle.table.specs.Refusals.{refusal, no_refusal}
use Rattle.table.specs.Table.{Arc, most_arcs, tails_of, heads_of, lengths_of}
use Rattle.table.specs.Slices.{over}
use Rattle.table.proofs.Storing.{sets_over}
use Rattle.link_format.specs.Buffers.{no_content, reading, refusal_of, content_of}
use Rattle.link_format.specs.Format.{Content, content}
use Rattle.link_format.specs.Reading.{◌>>=◌, Outcome, got, refused, accepted, list_got, and_then, give, read_header, read_content, read_file}
use Rattle.link_format.proofs.Counts.{Roomy}
use Rattle.link_format.proofs.Records.{few_records}
use Rattle.link_file.specs.Entries.{read_answer, ReadSays}
use Rattle.link_file.specs.Says.{table_answer}
use Rattle.link_reader.specs.Says.{arcs_from, wanted_of, HeaderGot, Counted, records_from}
use Rattle.link_reader.specs.declared.header.Header.{Header}
use Rattle.std.specs.Prelude.{Ok}
use Rattle.table.specs.Told.{number, tells}
use Rattle.table.specs.declared.faults.Refusal.{Refusal}

-- a refusal of the header, or of a record, is the file's
pub header_refuses : (file : List ℕ) {n p : ℕ} → read_header 0 file ≡ refused n p → read_file file ≡ refused n p
unfolding read_file read_content ◌>>=◌ and_then
header_refuses file e = rw e

module _ (file : List ℕ) (h : Header) (g : HeaderGot file h) where
  -- the content, given its arcs
  abbrev whole : List Arc → Content
  whole arcs = content h.n h.origin (wanted_of file h) arcs

  with_records : read_file file ≡ and_then (records_from file h.next) (λ (arcs : List Arc). give (whole arcs))
  unfolding read_file read_content ◌>>=◌ and_then content
  with_records = rw g.is

  pub records_refuse : {n p : ℕ} → records_from file h.next ≡ refused n p → read_file file ≡ refused n p
  unfolding and_then
  records_refuse e = with_records ∙ rw e

  -- both were read: the file's content
  content_read : (o : Outcome (List Arc)) → accepted o ≡ true → content_of (and_then o (λ (arcs : List Arc). give (whole arcs))) ≡ whole (list_got o)
  unfolding accepted and_then give content_of list_got
  content_read (got arcs at rest) e = refl
  content_read (refused n p) e = let z : ◌≡◌ {A = ℕ} 0 1 = cc in absurd (omega arith)

  nothing_refused : (o : Outcome (List Arc)) → accepted o ≡ true → refusal_of (and_then o (λ (arcs : List Arc). give (whole arcs))) ≡ no_refusal
  unfolding accepted and_then give refusal_of
  nothing_refused (got arcs at rest) e = refl
  nothing_refused (refused n p) e = let z : ◌≡◌ {A = ℕ} 0 1 = cc in absurd (omega arith)

  module _ {k : ℕ} (counted : Counted file h.next k) where
    few_arcs : length (arcs_from file h.next) ≤ most_arcs
    few_arcs = few_records most_arcs none h.next (drop h.next file)

    pub count_few : k ≤ most_arcs
    count_few = omega (arith, counted.is, few_arcs)

    pub read_whole : {tails heads lengths wanted tails' heads' lengths' wanted' : List ℕ}
        → reading file tails heads lengths wanted ≡ read_file file
        → Roomy (length tails) (length heads) (length lengths) (length wanted)
        → tails' ≡ sets tails 0 (tails_of (arcs_from file h.next))
        → heads' ≡ sets heads 0 (heads_of (arcs_from file h.next))
        → lengths' ≡ sets lengths 0 (lengths_of (arcs_from file h.next))
        → wanted' ≡ sets wanted 0 (wanted_of file h)
        → ReadSays file tails heads lengths wanted tails' heads' lengths' wanted' (table_answer (Ok (h, k)))
    unfolding read_answer content no_refusal refusal tails_of heads_of lengths_of
    read_whole {tails} {heads} {lengths} {wanted} all room tails_are heads_are lengths_are wanted_is =
        let is : content_of (reading file tails heads lengths wanted) ≡ whole (arcs_from file h.next) =
        ap content_of (all ∙ with_records) ∙ content_read (records_from file h.next) counted.good in
        let clean : refusal_of (reading file tails heads lengths wanted) ≡ no_refusal =
        ap refusal_of (all ∙ with_records) ∙ nothing_refused (records_from file h.next) counted.good in
        record {
          answer = rw (is, clean, counted.is, g.size);
          tails_are = tails_are ∙ rw is (sets_over _ tails (rw length-map (omega (arith, few_arcs, room.tails_room))));
          heads_are = heads_are ∙ rw is (sets_over _ heads (rw length-map (omega (arith, few_arcs, room.heads_room))));
          lengths_are = lengths_are ∙ rw is (sets_over _ lengths (rw length-map (omega (arith, few_arcs, room.lengths_room))));
          wanted_are = wanted_is ∙ rw is (sets_over (wanted_of file h) wanted (omega (arith, room.wanted_room, g.size, g.few)));
        }

-- the answer to a refusal, with the buffers as they were
pub none_read : (r : Refusal) (file : List ℕ) {tails heads lengths wanted : List ℕ} → reading file tails heads lengths wanted ≡ refused (number r.fault) r.place
    → ReadSays file tails heads lengths wanted tails heads lengths wanted (read_answer (tells r) no_content)
unfolding refusal_of content_of no_content content tails_of heads_of lengths_of over
none_read r file e = record { answer = rw e; tails_are = rw e; heads_are = rw e; lengths_are = rw e; wanted_are = rw e }

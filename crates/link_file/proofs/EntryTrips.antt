-- Both round trips of the two entries, from those of the format. Assumes nothing.
use mathlib.Core.List.{List}
use mathlib.Core.Path.{◌≡◌, refl, ap, sym, ◌∙◌, subst}
use Prim.Native.Nat.{ℕ, ◌≤◌}
use native.Mathlib.Omega.{arith}
use borrow.Author.Tests.{le-ltb}
use lib.ListN.{length, take}
use Rattle.table.specs.Refusals.{refusal, no_refusal}
use Rattle.table.specs.Table.{Arc, arcs_of, Below, most_wanted, tails_of, heads_of, lengths_of}
use Rattle.table.specs.Slices.{over}
use Rattle.link_format.specs.Buffers.{no_content, reading, refusal_of, content_of, file_of, put_bytes}
use Rattle.link_format.specs.Format.{Content, content}
use Rattle.link_format.specs.Reading.{Outcome, got, refused, read_file}
use Rattle.table.proofs.Columns.{columns_back, length_tails, length_heads, length_lengths, columns_equal, arcs_count}
use Rattle.table.proofs.Counts.{few_nodes}
use Rattle.link_format.proofs.Counts.{equal_columns}
use Rattle.link_format.proofs.Outcomes.{read_without_refusal, file_of_reading, reading_roomy}
use Rattle.link_format.proofs.ReadThenWrite.{FileBack, file_back}
use Rattle.table.proofs.Storing.{start_of}
use Rattle.link_format.proofs.Unrefused.{read_of, is_accepted, file_of_content, unrefused, Unrefused}
use Rattle.link_file.specs.Entries.{read_answer, ReadSays, write_answer, WriteSays}
use Rattle.link_file.specs.Promises.{TableThere, CountsFit, WriteThenRead, ReadThenWrite, AnswersFit}
use Rattle.link_file.specs.declared.TableRead.{TableRead}
use Rattle.link_file.specs.declared.Written.{Written}

-- what the writer leaves where it does not refuse: the file
record FileThere (n o : ℕ) (ts hs ls ws out out' : List ℕ) (w : Written) : Type 0 where
  answer : w ≡ record { number = 0; place = 0; length = length (file_of n o ts hs ls ws) }
  output_is : out' ≡ over (file_of n o ts hs ls ws) out

file_there : (n o : ℕ) (ts hs ls ws out out' : List ℕ) (w : Written) → WriteSays n o ts hs ls ws out out' w → Unrefused n o ts hs ls ws (length out)
    → FileThere n o ts hs ls ws out out' w
unfolding put_bytes write_answer no_refusal refusal
file_there n o ts hs ls ws out out' w says u =
    let e = is_accepted n o ts hs ls ws (length out) u in
    record { answer = says.answer ∙ rw e; output_is = says.output_is ∙ rw e }

-- ---- write, then read

table_there : (n o : ℕ) (tails heads lengths wanted file ts hs ls ws ts' hs' ls' ws' : List ℕ) (r : TableRead) {at : ℕ} {rest : List ℕ}
    → length tails ≡ length heads → length heads ≡ length lengths
    → reading file ts hs ls ws ≡ got (content n o wanted (arcs_of tails heads lengths)) at rest
    → ReadSays file ts hs ls ws ts' hs' ls' ws' r → TableThere n o tails heads lengths wanted ts hs ls ws ts' hs' ls' ws' r
unfolding read_answer refusal_of content_of content no_refusal refusal
table_there n o tails heads lengths wanted file ts hs ls ws ts' hs' ls' ws' r eh el e says =
    let back = columns_back tails heads lengths eh el in
    record {
      answer = says.answer ∙ rw (e, arcs_count tails heads lengths eh el);
      tails_are = says.tails_are ∙ rw (e, back.tails_back);
      heads_are = says.heads_are ∙ rw (e, back.heads_back);
      lengths_are = says.lengths_are ∙ rw (e, back.lengths_back);
      wanted_are = says.wanted_are ∙ rw e;
    }

pub write_then_read : WriteThenRead
unfolding write_answer
write_then_read n o tails heads lengths wanted out out' w so st sh sl sw says zero_number ts hs ls ws ts' hs' ls' ws' r room reads =
    let u = unrefused n o tails heads lengths wanted (length out) (sym (ap (λ (x : Written). x.number) says.answer) ∙ zero_number) in
    let there = file_there n o tails heads lengths wanted out out' w says u in
    let file : List ℕ = file_of n o tails heads lengths wanted in
    let bytes_are : take w.length out' ≡ file =
    ap (take w.length) there.output_is ∙ start_of file out w.length (sym (ap (λ (x : Written). x.length) there.answer)) in
    let equal = equal_columns tails heads lengths u.equal in
    table_there n o tails heads lengths wanted (take w.length out') ts hs ls ws ts' hs' ls' ws' r equal.heads_are equal.lengths_are
    (reading_roomy (take w.length out') ts hs ls ws room ∙ ap read_file bytes_are ∙ read_of n o tails heads lengths wanted (length out) so st sh sl sw u) reads

-- ---- read, then write

written_back : (file : List ℕ) (t : Content) → FileBack file t → (out out' : List ℕ) (w : Written) → length file ≤ length out
    → WriteSays t.n t.origin (tails_of t.arcs) (heads_of t.arcs) (lengths_of t.arcs) t.wanted out out' w
    → (w ≡ record { number = 0; place = 0; length = length file }) × (out' ≡ over file out)
written_back file t back out out' w room says =
    let is : file_of t.n t.origin (tails_of t.arcs) (heads_of t.arcs) (lengths_of t.arcs) t.wanted ≡ file =
    file_of_content t ∙ back.bytes_are in
    let there =
    file_there t.n t.origin (tails_of t.arcs) (heads_of t.arcs) (lengths_of t.arcs) t.wanted out out' w says
    (record {
      fine = back.fine;
      equal = columns_equal t.arcs back.arcs_few;
      few = le-ltb most_wanted (length t.wanted) back.wanted_few;
      fits = rw is (le-ltb (length out) (length file) room);
    }) in
    (there.answer ∙ rw is, there.output_is ∙ rw is)

column_of : (arcs : List Arc) (column buffer buffer' : List ℕ) (k : ℕ) → length column ≡ length arcs → length arcs ≡ k → buffer' ≡ over column buffer
    → take k buffer' ≡ column
column_of arcs column buffer buffer' k size count is = ap (take k) is ∙ start_of column buffer k (size ∙ count)

-- what the reader leaves where it accepted, as arguments of the writer
written_of_read : (file ts hs ls ws ts' hs' ls' ws' out out' : List ℕ) (r : TableRead) (w : Written) (t : Content) (at : ℕ) (rest : List ℕ)
    → reading file ts hs ls ws ≡ got t at rest → ReadSays file ts hs ls ws ts' hs' ls' ws' r
    → WriteSays r.n r.origin (take r.arcs ts') (take r.arcs hs') (take r.arcs ls') (take r.wanted ws') out out' w
    → WriteSays t.n t.origin (tails_of t.arcs) (heads_of t.arcs) (lengths_of t.arcs) t.wanted out out' w
unfolding read_answer content_of
written_of_read file ts hs ls ws ts' hs' ls' ws' out out' r w t at rest e says writes =
    let arcs_are : length t.arcs ≡ r.arcs = sym (ap (λ (x : TableRead). x.arcs) says.answer ∙ rw e) in
    let wanted_are : length t.wanted ≡ r.wanted = sym (ap (λ (x : TableRead). x.wanted) says.answer ∙ rw e) in
    let n_is : r.n ≡ t.n = ap (λ (x : TableRead). x.n) says.answer ∙ rw e in
    let origin_is : r.origin ≡ t.origin = ap (λ (x : TableRead). x.origin) says.answer ∙ rw e in
    let tails_are : take r.arcs ts' ≡ tails_of t.arcs = column_of t.arcs (tails_of t.arcs) ts ts' r.arcs (length_tails t.arcs) arcs_are (says.tails_are ∙ rw e) in
    let heads_are : take r.arcs hs' ≡ heads_of t.arcs = column_of t.arcs (heads_of t.arcs) hs hs' r.arcs (length_heads t.arcs) arcs_are (says.heads_are ∙ rw e) in
    let lengths_are : take r.arcs ls' ≡ lengths_of t.arcs = column_of t.arcs (lengths_of t.arcs) ls ls' r.arcs (length_lengths t.arcs) arcs_are (says.lengths_are ∙ rw e) in
    let list_is : take r.wanted ws' ≡ t.wanted = ap (take r.wanted) (says.wanted_are ∙ rw e) ∙ start_of t.wanted ws r.wanted wanted_are in
    rw (tails_are, heads_are, lengths_are, list_is, n_is, origin_is) at writes

pub read_then_write : ReadThenWrite
unfolding read_answer
read_then_write file ts hs ls ws ts' hs' ls' ws' r small says zero_number out out' w room writes =
    let g = read_without_refusal file ts hs ls ws (sym (ap (λ (x : TableRead). x.number) says.answer) ∙ zero_number) in
    written_back file g.0 (file_back file small (file_of_reading file ts hs ls ws g.3)) out out' w room
    (written_of_read file ts hs ls ws ts' hs' ls' ws' out out' r w g.0 g.1 g.2 g.3 says writes)

-- ---- what the reader answers is in range

counts_fit : (file : List ℕ) (o : Outcome Content) → Below 256 file → ((t : Content) (at : ℕ) (rest : List ℕ) → o ≡ got t at rest → read_file file ≡ got t at rest)
    → CountsFit (read_answer (refusal_of o) (content_of o))
unfolding read_answer content_of no_content content
counts_fit file (got t at rest) small read =
    let back = file_back file small (read t at rest refl) in
    record {
      nodes = few_nodes back.fine;
      arcs_few = back.arcs_few;
      wanted_few = back.wanted_few;
    }
counts_fit file (refused k p) small read = record { nodes = omega arith; arcs_few = omega arith; wanted_few = omega arith }

pub answers_fit : AnswersFit
answers_fit file ts hs ls ws ts' hs' ls' ws' r small says =
    subst CountsFit (sym says.answer)
    (counts_fit file (reading file ts hs ls ws) small (λ (t : Content) (at : ℕ) (rest : List ℕ) (e : reading file ts hs ls ws ≡ got t at rest). file_of_reading file ts hs ls ws e))

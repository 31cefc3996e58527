-- What the two entries answer and leave in the lent buffers, for every input: what crate `link_format` says of reading and writing, in the entries'
-- own answers. Assumes nothing: these are definitions.
use Rattle.std.specs.Prelude.{List, ◌≡◌, ℕ, length}
use Rattle.table.specs.Refusals.{Refusal}
use Rattle.table.specs.Slices.{Slice, was, Buffer, had, left, over}
use Rattle.table.specs.Table.{tails_of, heads_of, lengths_of}
use Rattle.link_format.specs.Buffers.{reading, refusal_of, content_of, file_of, writing, put_bytes}
use Rattle.link_format.specs.Format.{Content}
use Rattle.link_format.specs.Reading.{Outcome}
use Rattle.link_file.specs.declared.TableRead.{TableRead}
use Rattle.link_file.specs.declared.Written.{Written}

-- the reader's answer
unfoldable pub read_answer : Refusal → Content → TableRead
read_answer f t =
    record { number = f.number; place = f.place; n = t.n; origin = t.origin; arcs = length t.arcs; wanted = length t.wanted }

-- what the reader answers and leaves in its buffers, given what reading gave
pub record LeftByReading (o : Outcome Content) (tails heads lengths wanted tails' heads' lengths' wanted' : List ℕ) (r : TableRead) : Type 0 where
  pub answer : r ≡ read_answer (refusal_of o) (content_of o)
  pub tails_are : tails' ≡ over (tails_of (content_of o).arcs) tails
  pub heads_are : heads' ≡ over (heads_of (content_of o).arcs) heads
  pub lengths_are : lengths' ≡ over (lengths_of (content_of o).arcs) lengths
  pub wanted_are : wanted' ≡ over (content_of o).wanted wanted

-- what the reader does
abbrev pub ReadSays : (file tails heads lengths wanted tails' heads' lengths' wanted' : List ℕ) → TableRead → Type 0
ReadSays file ts hs ls ws ts' hs' ls' ws' r = LeftByReading (reading file ts hs ls ws) ts hs ls ws ts' hs' ls' ws' r

-- THE CONTRACT of read_link_file, of the slices that are lent
abbrev pub ReadsFile : (file : Slice) → (tails heads lengths wanted : Buffer) → TableRead → Type 0
ReadsFile file ts hs ls ws r = ReadSays (was file) (had ts) (had hs) (had ls) (had ws) (left ts) (left hs) (left ls) (left ws) r

-- the writer's answer
unfoldable pub write_answer : Refusal → (size : ℕ) → Written
write_answer f size = record { number = f.number; place = f.place; length = size }

-- what the writer answers and leaves in the output, given its refusal and the file
pub record LeftByWriting (f : Refusal) (file output output' : List ℕ) (r : Written) : Type 0 where
  pub answer : r ≡ write_answer f (length (put_bytes f file))
  pub output_is : output' ≡ over (put_bytes f file) output

-- what the writer does
abbrev pub WriteSays : (n origin : ℕ) → (tails heads lengths wanted output output' : List ℕ) → Written → Type 0
WriteSays n o ts hs ls ws output output' r =
    LeftByWriting (writing n o ts hs ls ws (length output)) (file_of n o ts hs ls ws) output output' r

-- THE CONTRACT of write_link_file, of the slices that are lent
abbrev pub WritesFile : (n origin : ℕ) → (tails heads lengths wanted : Slice) → (output : Buffer) → Written → Type 0
WritesFile n o ts hs ls ws output r = WriteSays n o (was ts) (was hs) (was ls) (was ws) (had output) (left output) r

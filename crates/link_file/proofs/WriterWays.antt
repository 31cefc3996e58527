-- The ways out of writing a file, one law for each `return` of the writer's entry, in the code's order. Assumes nothing.
use mathlib.Core.Bool.{true, false}
use mathlib.Core.List.{List, ◌++◌}
use mathlib.Core.Option.{none}
use mathlib.Core.Path.{◌≡◌, ◌∙◌}
use Prim.Native.Nat.{ℕ, ◌+◌, ◌≤◌, ◌<◌}
use borrow.Author.Tests.{ne_eqb, lt-ltb, le-ltb}
use lib.Dec.{ltb, eqb}
use lib.ListN.{length, length-append}
use lib.Seq.{sets}
use Rattle.table.specs.Refusals.{refusal, no_refusal, count_bad, columns_bad}
use Rattle.table.specs.Table.{arcs_of, most_wanted}
use Rattle.table.specs.Slices.{over}
use Rattle.link_format.specs.Buffers.{file_of, writing, put_bytes}
use Rattle.link_format.specs.Format.{content, header_bytes, records_bytes, file_bytes}
use Rattle.link_file.specs.Entries.{write_answer, WriteSays}
use Rattle.table.proofs.Storing.{sets_over}
use Rattle.link_file.specs.Says.{file_answer}
use Rattle.std.specs.Prelude.{Ok}
use Rattle.table.specs.Told.{number, tells}
use Rattle.table.specs.declared.faults.Refusal.{Refusal}
use Rattle.table.proofs.Telling.{numbered}

module _ (n o : ℕ) (ts hs ls ws out : List ℕ) where
  pub file_size : length (file_of n o ts hs ls ws) ≡ length (header_bytes n o ws) + length (records_bytes none (arcs_of ts hs ls))
  unfolding file_of file_bytes content
  file_size = length-append (header_bytes n o ws) (records_bytes none (arcs_of ts hs ls))

  pub none_written : (r : Refusal) → writing n o ts hs ls ws (length out) ≡ tells r → WriteSays n o ts hs ls ws out out (write_answer (tells r) 0)
  unfolding put_bytes over refusal
  none_written r e = let real : eqb (number r.fault) 0 ≡ false = ne_eqb (number r.fault) 0 (numbered r.fault) in record { answer = rw (e, real); output_is = rw (e, real) }

  pub refuses_count : count_bad n ≡ true → writing n o ts hs ls ws (length out) ≡ refusal 1 0
  unfolding writing
  refuses_count bad = rw bad

  module _ (fine : count_bad n ≡ false) where
    pub refuses_columns : columns_bad (length ts) (length hs) (length ls) ≡ true → writing n o ts hs ls ws (length out) ≡ refusal 2 0
    unfolding writing
    refuses_columns bad = rw (fine, bad)

    module _ (equal : columns_bad (length ts) (length hs) (length ls) ≡ false) where
      pub refuses_wanted : ltb most_wanted (length ws) ≡ true → writing n o ts hs ls ws (length out) ≡ refusal 5 most_wanted
      unfolding writing
      refuses_wanted many = rw (fine, equal, many)

      module _ (few : ltb most_wanted (length ws) ≡ false) where
        pub refuses_room : length out < length (file_of n o ts hs ls ws) → writing n o ts hs ls ws (length out) ≡ refusal 13 0
        unfolding writing
        refuses_room short = rw (fine, equal, few, lt-ltb (length out) (length (file_of n o ts hs ls ws)) short)

        accepts : length (file_of n o ts hs ls ws) ≤ length out → writing n o ts hs ls ws (length out) ≡ no_refusal
        unfolding writing
        accepts room = rw (fine, equal, few, le-ltb (length out) (length (file_of n o ts hs ls ws)) room)

        pub all_written : {size : ℕ} {last out' : List ℕ} → size ≡ length (file_of n o ts hs ls ws) → length (file_of n o ts hs ls ws) ≤ length out
            → last ≡ sets out 0 (header_bytes n o ws ++ records_bytes none (arcs_of ts hs ls)) → out' ≡ last
            → WriteSays n o ts hs ls ws out out' (file_answer (Ok size))
        unfolding put_bytes write_answer no_refusal refusal file_of file_bytes content
        all_written is room put given_back =
            record {
              answer = rw (accepts room, is);
              output_is = rw (accepts room) (given_back ∙ put ∙ sets_over (header_bytes n o ws ++ records_bytes none (arcs_of ts hs ls)) out room);
            }

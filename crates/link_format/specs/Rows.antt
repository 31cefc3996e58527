-- The files of document 01 and of its table of refusals, as rows of one result. Assumes nothing: this is a statement.
use Rattle.std.specs.Prelude.{List, [], ◌∷◌, ◌≡◌, ℕ, replicate}
use Rattle.std.proofs.Math.Option.{Option}
use Rattle.table.specs.Refusals.{refusal, no_refusal}
use Rattle.table.specs.Table.{Arc, arc, down}
use Rattle.link_format.specs.Buffers.{writing}
use Rattle.link_format.specs.Format.{Content, content, file_bytes}
use Rattle.link_format.specs.Reading.{got, refused, read_records, read_file}

-- 01's input of `routes`: 05 0400 0100 0300; 07 0000 0100 02000000; 04 05000000; 07 0100 0200 03000000; 05 0200 01000000; 07 0100 0300 09000000
abbrev pub example_file : List ℕ
example_file =
    5 ∷ 4 ∷ 0 ∷ 1 ∷ 0 ∷ 3 ∷ 0
    ∷ 7 ∷ 0 ∷ 0 ∷ 1 ∷ 0 ∷ 2 ∷ 0 ∷ 0 ∷ 0
    ∷ 4 ∷ 5 ∷ 0 ∷ 0 ∷ 0
    ∷ 7 ∷ 1 ∷ 0 ∷ 2 ∷ 0 ∷ 3 ∷ 0 ∷ 0 ∷ 0
    ∷ 5 ∷ 2 ∷ 0 ∷ 1 ∷ 0 ∷ 0 ∷ 0
    ∷ 7 ∷ 1 ∷ 0 ∷ 3 ∷ 0 ∷ 9 ∷ 0 ∷ 0 ∷ 0 ∷ []

-- its table: four nodes, origin 0, node 3 wanted, five arcs
abbrev pub example_table : Content
example_table = content 4 0 (3 ∷ []) (arc 0 1 2 ∷ arc 0 2 5 ∷ arc 1 2 3 ∷ arc 2 3 1 ∷ arc 1 3 9 ∷ [])

-- two arcs whose links are down, all three nodes wanted
abbrev pub down_file : List ℕ
down_file = 1 ∷ 3 ∷ 0 ∷ 7 ∷ 0 ∷ 0 ∷ 1 ∷ 0 ∷ 255 ∷ 255 ∷ 255 ∷ 255 ∷ 0 ∷ []

abbrev pub down_table : Content
down_table = content 3 0 (0 ∷ 1 ∷ 2 ∷ []) (arc 0 1 down ∷ arc 0 2 down ∷ [])

pub record Rows : Type 0 where
  pub example_read : read_file example_file ≡ got example_table 46 []
  pub example_written : file_bytes example_table ≡ example_file
  -- a link that is down has a length like any other: two such arcs, 0 to 1 and 0 to 2
  pub down_read : read_file down_file ≡ got down_table 13 []
  pub down_written : file_bytes down_table ≡ down_file
  -- 9: an empty file; byte 01 alone; a record cut inside its length
  pub empty : read_file [] ≡ refused 9 0
  pub cut : read_file (1 ∷ []) ≡ refused 9 1
  pub cut_record : read_file (1 ∷ 1 ∷ 0 ∷ 7 ∷ 0 ∷ 0 ∷ 0 ∷ 0 ∷ 5 ∷ 0 ∷ []) ≡ refused 9 10
  -- 10: no node count; a forbidden bit, before the fields are looked at, also beside the node count; a first record without its length
  pub no_count : read_file (2 ∷ []) ≡ refused 10 0
  pub forbidden_bit : read_file (8 ∷ []) ≡ refused 10 0
  pub forbidden_beside : read_file (9 ∷ []) ≡ refused 10 0
  pub first_incomplete : read_file (1 ∷ 1 ∷ 0 ∷ 3 ∷ []) ≡ refused 10 3
  -- 1: no nodes, also where the file is cut right after the node count, in front of an origin. 5: 1,025 wanted nodes, also where the file ends there
  pub no_nodes : read_file (1 ∷ 0 ∷ 0 ∷ []) ≡ refused 1 0
  pub no_nodes_cut : read_file (3 ∷ 0 ∷ 0 ∷ []) ≡ refused 1 0
  pub many_wanted : read_file (5 ∷ 1 ∷ 0 ∷ 1 ∷ 4 ∷ []) ≡ refused 5 1024
  -- 11: an implied head after 65535, also where the tail is needless; a head that is written there is not
  pub head_too_high : read_file (1 ∷ 1 ∷ 0 ∷ 7 ∷ 1 ∷ 0 ∷ 255 ∷ 255 ∷ 1 ∷ 0 ∷ 0 ∷ 0 ∷ 1 ∷ 1 ∷ 0 ∷ []) ≡ refused 11 12
  pub head_written : read_file (1 ∷ 1 ∷ 0 ∷ 7 ∷ 1 ∷ 0 ∷ 255 ∷ 255 ∷ 1 ∷ 0 ∷ 0 ∷ 0 ∷ 2 ∷ 0 ∷ 0 ∷ [])
      ≡ got (content 1 0 (0 ∷ []) (arc 1 65535 1 ∷ arc 1 0 1 ∷ [])) 15 []
  -- 12: origin 0 written out; all nodes written out; a tail that the record before says. The empty wanted list is no such field
  pub origin_needless : read_file (3 ∷ 1 ∷ 0 ∷ 0 ∷ 0 ∷ []) ≡ refused 12 0
  pub wanted_needless : read_file (5 ∷ 2 ∷ 0 ∷ 2 ∷ 0 ∷ 0 ∷ 0 ∷ 1 ∷ 0 ∷ []) ≡ refused 12 0
  pub tail_needless : read_file (1 ∷ 1 ∷ 0 ∷ 7 ∷ 1 ∷ 0 ∷ 2 ∷ 0 ∷ 1 ∷ 0 ∷ 0 ∷ 0 ∷ 1 ∷ 1 ∷ 0 ∷ []) ≡ refused 12 12
  pub wanted_empty : read_file (5 ∷ 2 ∷ 0 ∷ 0 ∷ 0 ∷ []) ≡ got (content 2 0 [] []) 5 []
  -- 2: where record 6,001 begins, none is allowed any more, whatever it says
  pub record_6001 : (before : Option Arc) (at b : ℕ) (rest : List ℕ) → read_records 0 before at (b ∷ rest) ≡ refused 2 6000
  -- the writer tests 1, 2, 5 and 13 in this order: each of the first three has every fault of those below it
  pub write_no_nodes : writing 0 0 (0 ∷ []) [] [] (replicate 1025 0) 0 ≡ refusal 1 0
  pub write_columns : writing 1 0 (0 ∷ []) [] [] (replicate 1025 0) 0 ≡ refusal 2 0
  pub write_wanted : writing 1 0 [] [] [] (replicate 1025 0) 0 ≡ refusal 5 1024
  pub write_short : writing 1 0 [] [] [] [] 4 ≡ refusal 13 0
  pub write_just_room : writing 1 0 [] [] [] [] 5 ≡ no_refusal

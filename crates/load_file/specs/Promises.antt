-- What is promised of the file of a load, said of what LoadFile::write answers and leaves in the output. Each promise is a type; its proof, by the same name in
-- small letters, stands in proofs/Promised.antt. Assumes nothing.
use Rattle.std.specs.Prelude.{◌≡◌, true, List, [], ◌⊎◌, ℕ, ◌≤◌, ◌<◌, length, take, Some}
use Rattle.table.specs.Table.{table, is_table}
use Rattle.link_format.specs.Format.{node_width, length_width, limit, most_file, content, count_up}
use Rattle.link_format.specs.Reading.{got, read_file}
use Rattle.link_file.specs.declared.Written.{Written}
use Rattle.test_load.specs.Load.{load}
use Rattle.load_file.specs.LoadFile.{load_file_in, LoadFileSays}
use Rattle.load_file.specs.declared.LoadFile.{LoadFile}

-- What words are read as is in the range of its type.
pub record InRange (o : LoadFile) : Type 0 where
  pub seed_fits : o.seed < limit length_width
  pub nodes_fit : o.n < limit length_width
  pub chance_fits : o.chance < limit length_width
  pub largest_fits : o.largest < limit length_width
  pub origin_fits : o.origin < limit node_width

unfoldable pub LoadFilesInRange : Type 0
LoadFilesInRange = (words : List (List ℕ)) (o : LoadFile) → load_file_in words ≡ Some o → InRange o

-- NUMBER 0: what is written reads back as the node count and the origin that were asked for, with every node wanted, and the arcs of the load,
pub record ReadsBack (o : LoadFile) (file : List ℕ) : Type 0 where
  pub content_is : read_file file ≡ got (content o.n o.origin (count_up 0 o.n) (load o.n o.seed o.chance o.largest)) (length file) []
  -- which a planner does not turn down.
  pub table_is : is_table (table o.n o.origin (load o.n o.seed o.chance o.largest)) (count_up 0 o.n) ≡ true

unfoldable pub LoadFilesReadBack : Type 0
LoadFilesReadBack =
    (o : LoadFile) (output output' : List ℕ) (w : Written) → InRange o → LoadFileSays o output output' w → w.number ≡ 0 →
    ReadsBack o (take w.length output')

-- With room for the longest link file, which has 56,055 bytes, 13 is never said.
unfoldable pub EnoughRoom : Type 0
EnoughRoom = (o : LoadFile) (output output' : List ℕ) (w : Written) → most_file ≤ length output → LoadFileSays o output output' w → w.number ≡ 13 → ⊥

-- ANY OTHER NUMBER is 1, 4, 13, 16 or 17, at no place, and nothing is written.
pub record LoadFileRefused (output output' : List ℕ) (w : Written) : Type 0 where
  pub numbers : (w.number ≡ 1) ⊎ (w.number ≡ 4) ⊎ (w.number ≡ 13) ⊎ (w.number ≡ 16) ⊎ (w.number ≡ 17)
  pub nothing : (w.place ≡ 0) × (w.length ≡ 0)
  pub untouched : output' ≡ output

unfoldable pub LoadFileRefusals : Type 0
LoadFileRefusals =
    (o : LoadFile) (output output' : List ℕ) (w : Written) → LoadFileSays o output output' w → (w.number ≡ 0 → ⊥) → LoadFileRefused output output' w

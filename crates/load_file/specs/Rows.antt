-- Words and what they ask for, the bytes of two files, and an example of each refusal, as rows of one result. The proof, `rows`,
-- stands in proofs/Rows.antt. Assumes nothing: this is a statement.
use Rattle.std.specs.Prelude.{◌≡◌, List, [], ◌∷◌, ℕ, Option, Some, None, codes}
use Rattle.table.specs.Refusals.{refusal, no_refusal}
use Rattle.load_file.specs.LoadFile.{of_numbers, load_file_in, bytes_of_load, load_file_refusal}
use Rattle.load_file.specs.declared.LoadFile.{LoadFile}

-- what words ask for of which one, the seed or the origin, is given
unfoldable pub by_seed : (word : List ℕ) → Option LoadFile
by_seed w = load_file_in (w ∷ codes "4" ∷ codes "20000" ∷ codes "100" ∷ [])

unfoldable pub by_origin : (word : List ℕ) → Option LoadFile
by_origin w = load_file_in (codes "7" ∷ codes "4" ∷ codes "20000" ∷ codes "100" ∷ w ∷ [])

pub record Rows : Type 0 where
  -- four words: the seed, the node count, the chance and the largest length, and a fifth: the origin
  pub four_words : load_file_in (codes "1" ∷ codes "2" ∷ codes "3" ∷ codes "4" ∷ []) ≡ Some (of_numbers 1 2 3 4 0)
  pub five_words : load_file_in (codes "1" ∷ codes "2" ∷ codes "3" ∷ codes "4" ∷ codes "5" ∷ []) ≡ Some (of_numbers 1 2 3 4 5)
  -- fewer, and more
  pub no_words : load_file_in [] ≡ None
  pub three_words : load_file_in (codes "1" ∷ codes "2" ∷ codes "3" ∷ []) ≡ None
  pub six_words : load_file_in (codes "1" ∷ codes "2" ∷ codes "3" ∷ codes "4" ∷ codes "5" ∷ codes "6" ∷ []) ≡ None
  -- a plus and zeros may stand in front of a number, a minus may not
  pub plus : by_seed (codes "+5") ≡ Some (of_numbers 5 4 20000 100 0)
  pub zeros : by_seed (codes "005") ≡ Some (of_numbers 5 4 20000 100 0)
  pub minus : by_seed (codes "-1") ≡ None
  pub plus_alone : by_seed (codes "+") ≡ None
  pub two_pluses : by_seed (codes "++5") ≡ None
  -- no other letter, and at least one digit
  pub empty : by_seed [] ≡ None
  pub letter_behind : by_seed (codes "5x") ≡ None
  pub space_in_front : by_seed (codes " 5") ≡ None
  pub hexadecimal : by_seed (codes "0x5") ≡ None
  -- the greatest numbers of 32 bits and of 16
  pub greatest_seed : by_seed (codes "4294967295") ≡ Some (of_numbers 4294967295 4 20000 100 0)
  pub seed_too_great : by_seed (codes "4294967296") ≡ None
  pub greatest_origin : by_origin (codes "65535") ≡ Some (of_numbers 7 4 20000 100 65535)
  pub origin_too_great : by_origin (codes "65536") ≡ None
  -- every word is a number
  pub n_a_letter : load_file_in (codes "1" ∷ codes "x" ∷ codes "3" ∷ codes "4" ∷ []) ≡ None
  pub chance_a_letter : load_file_in (codes "1" ∷ codes "2" ∷ codes "x" ∷ codes "4" ∷ []) ≡ None
  pub largest_a_letter : load_file_in (codes "1" ∷ codes "2" ∷ codes "3" ∷ codes "x" ∷ []) ≡ None
  pub origin_a_letter : by_origin (codes "x") ≡ None
  -- a file with an origin, arc by arc: 0 to 1 of length 98, 1 to 0 of length 90, 1 to 3 of length 87; and one without
  pub origin_1 : bytes_of_load (of_numbers 7 4 20000 100 1) ≡
      3 ∷ 4 ∷ 0 ∷ 1 ∷ 0
      ∷ 7 ∷ 0 ∷ 0 ∷ 1 ∷ 0 ∷ 98 ∷ 0 ∷ 0 ∷ 0
      ∷ 7 ∷ 1 ∷ 0 ∷ 0 ∷ 0 ∷ 90 ∷ 0 ∷ 0 ∷ 0
      ∷ 6 ∷ 3 ∷ 0 ∷ 87 ∷ 0 ∷ 0 ∷ 0 ∷ []
  pub origin_0 : bytes_of_load (of_numbers 5 3 32768 2 0) ≡
      1 ∷ 3 ∷ 0
      ∷ 7 ∷ 0 ∷ 0 ∷ 1 ∷ 0 ∷ 2 ∷ 0 ∷ 0 ∷ 0
      ∷ 0
      ∷ 7 ∷ 1 ∷ 0 ∷ 2 ∷ 0 ∷ 1 ∷ 0 ∷ 0 ∷ 0
      ∷ 3 ∷ 2 ∷ 0 ∷ 0 ∷ 0 ∷ []
  -- what is refused, and what just not
  pub no_nodes : load_file_refusal (of_numbers 7 0 20000 100 0) 30 ≡ refusal 1 0
  pub chance_too_great : load_file_refusal (of_numbers 7 4 65537 100 0) 30 ≡ refusal 16 0
  pub too_many_arcs : load_file_refusal (of_numbers 7 78 65536 100 0) 30 ≡ refusal 17 0
  pub origin_too_high : load_file_refusal (of_numbers 7 4 20000 100 4) 30 ≡ refusal 4 0
  pub highest_origin : load_file_refusal (of_numbers 7 4 20000 100 3) 30 ≡ no_refusal
  pub just_room : load_file_refusal (of_numbers 7 4 20000 100 1) 30 ≡ no_refusal
  pub too_short : load_file_refusal (of_numbers 7 4 20000 100 1) 29 ≡ refusal 13 0
  -- which comes first
  pub one_before_sixteen : load_file_refusal (of_numbers 7 0 65537 100 0) 0 ≡ refusal 1 0
  pub sixteen_before_four : load_file_refusal (of_numbers 7 4 65537 100 4) 0 ≡ refusal 16 0
  pub seventeen_before_four : load_file_refusal (of_numbers 7 78 65536 100 78) 0 ≡ refusal 17 0
  pub four_before_thirteen : load_file_refusal (of_numbers 7 4 20000 100 4) 0 ≡ refusal 4 0

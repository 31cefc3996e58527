-- The link file of a test load: which one words ask for, and its bytes. Assumes nothing: these are definitions.
use Rattle.std.specs.Prelude.{◌&&◌, cond, List, [], ◌∷◌, ℕ, ltb, leb, length, Option, Some, None, option_and_then, codes}
use Rattle.std.specs.Str.{all_ascii_digits}
use Rattle.std.specs.Str.Parse.{without_leading_plus, digits_value}
use Rattle.table.specs.Refusals.{Refusal, refusal, no_refusal, or_else}
use Rattle.table.specs.Slices.{Buffer, had, left}
use Rattle.table.specs.Table.{Arc, most_arcs}
use Rattle.link_format.specs.Format.{Content, content, node_width, length_width, limit, count_up, file_bytes}
use Rattle.link_file.specs.Entries.{LeftByWriting}
use Rattle.link_file.specs.declared.Written.{Written}
use Rattle.test_load.specs.Load.{load}
use Rattle.test_load.specs.Making.{load_refusal}
use Rattle.load_file.specs.declared.LoadFile.{LoadFile}

-- the file of the load of four numbers, from an origin
unfoldable pub of_numbers : (seed n chance largest origin : ℕ) → LoadFile
of_numbers s n c l o = record { seed = s; n = n; chance = c; largest = l; origin = o }

-- what follows a number that may be none
abbrev pub ◌>>=◌ : {A B : Type 0} → Option A → (A → Option B) → Option B
◌>>=◌ m f = option_and_then f m

-- THE NUMBER that a word writes, if it is below a bound: one digit or more, which a plus may stand in front of
unfoldable pub number_in : (bound : ℕ) → (word : List ℕ) → Option ℕ
number_in b w =
    let digits = without_leading_plus w in
    cond ((ltb 0 (length digits) && all_ascii_digits digits) && ltb (digits_value 10 digits) b) (Some (digits_value 10 digits)) None

-- the one that five words ask for
unfoldable pub load_file_of : (seed n chance largest origin : List ℕ) → Option LoadFile
load_file_of s n c l o = do
  seed ← number_in (limit length_width) s
  nodes ← number_in (limit length_width) n
  chance ← number_in (limit length_width) c
  largest ← number_in (limit length_width) l
  origin ← number_in (limit node_width) o
  Some (of_numbers seed nodes chance largest origin)

-- WHAT WORDS ASK FOR: there are four, or five with an origin. The origin that is absent is 0.
unfoldable pub load_file_in : (words : List (List ℕ)) → Option LoadFile
load_file_in (s ∷ n ∷ c ∷ l ∷ []) = load_file_of s n c l (codes "0")
load_file_in (s ∷ n ∷ c ∷ l ∷ o ∷ []) = load_file_of s n c l o
load_file_in _ = None

-- THE FILE: of the load's arcs, with every node wanted
unfoldable pub arcs_of_load : LoadFile → List Arc
arcs_of_load o = load o.n o.seed o.chance o.largest

unfoldable pub content_of_load : LoadFile → Content
content_of_load o = content o.n o.origin (count_up 0 o.n) (arcs_of_load o)

unfoldable pub bytes_of_load : LoadFile → List ℕ
bytes_of_load o = file_bytes (content_of_load o)

-- THE REFUSAL, in order: 1, 16 and 17 of the load, 4, then 13, with the output's length
unfoldable pub load_file_refusal : LoadFile → (room : ℕ) → Refusal
load_file_refusal o room =
    or_else (load_refusal o.n o.seed o.chance o.largest most_arcs most_arcs most_arcs)
    (cond (leb o.n o.origin) (refusal 4 0)
    (cond (ltb room (length (bytes_of_load o))) (refusal 13 0) no_refusal))

-- what writing it does
abbrev pub LoadFileSays : LoadFile → (output output' : List ℕ) → Written → Type 0
LoadFileSays o output output' r = LeftByWriting (load_file_refusal o (length output)) (bytes_of_load o) output output' r

-- THE CONTRACT of LoadFile::write, of the output that is lent
abbrev pub WritesLoadFile : LoadFile → (output : Buffer) → Written → Type 0
WritesLoadFile o output r = LoadFileSays o (had output) (left output) r

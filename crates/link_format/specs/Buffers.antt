-- The link file, page 3: reading into lent buffers, and writing columns into one. Assumes nothing: these are definitions.
--
-- The reader reads the file as Reading.antt says, after refusal 3: a lent buffer is too short. What it leaves is the content that was read; where
-- the file is refused that content is empty, so that every value is 0 and every buffer is as it was. The writer likewise puts the bytes that
-- Format.antt says, or none.
use Rattle.std.specs.Prelude.{Bool, cond, ◌||◌, List, [], ◌≡◌, ℕ, ◌≤◌, eqb, ltb, length}
use Rattle.table.specs.Refusals.{Refusal, refusal, no_refusal, count_bad, columns_bad, columns_short}
use Rattle.table.specs.Table.{arcs_of, most_arcs, most_wanted}
use Rattle.link_format.specs.Format.{Content, content, file_bytes}
use Rattle.link_format.specs.Reading.{Outcome, got, refused, read_file}

-- 3: a reader's buffer too short
unfoldable pub too_short : (tails heads lengths wanted : ℕ) → Bool
too_short t h l w = columns_short t h l || ltb w most_wanted

unfoldable pub reading : (file tails heads lengths wanted : List ℕ) → Outcome Content
reading file ts hs ls ws = cond (too_short (length ts) (length hs) (length ls) (length ws)) (refused 3 0) (read_file file)

-- the refusal, and the content that was read: none in a refusal
unfoldable pub no_content : Content
no_content = content 0 0 [] []

unfoldable pub refusal_of : {A : Type 0} → Outcome A → Refusal
refusal_of (got a at rest) = no_refusal
refusal_of (refused n p) = refusal n p

unfoldable pub content_of : Outcome Content → Content
content_of (got t at rest) = t
content_of (refused n p) = no_content

-- the file that the writer makes of its arguments
unfoldable pub file_of : (n origin : ℕ) → (tails heads lengths wanted : List ℕ) → List ℕ
file_of n o ts hs ls ws = file_bytes (content n o ws (arcs_of ts hs ls))

-- the writer's refusals, in order: 1, 2, 5 (the count only), then 13
unfoldable pub writing : (n origin : ℕ) → (tails heads lengths wanted : List ℕ) → (room : ℕ) → Refusal
writing n o ts hs ls ws room =
    cond (count_bad n) (refusal 1 0)
    (cond (columns_bad (length ts) (length hs) (length ls)) (refusal 2 0)
    (cond (ltb most_wanted (length ws)) (refusal 5 most_wanted)
    (cond (ltb room (length (file_of n o ts hs ls ws))) (refusal 13 0) no_refusal)))

-- the bytes that are put: none in a refusal
unfoldable pub put_bytes : Refusal → (file : List ℕ) → List ℕ
put_bytes f file = cond (eqb f.number 0) file []

-- three columns that are not refused by 2: of equal length, with not too many arcs
pub record EqualColumns (tails heads lengths : List ℕ) : Type 0 where
  pub heads_are : length tails ≡ length heads
  pub lengths_are : length heads ≡ length lengths
  pub few : length tails ≤ most_arcs

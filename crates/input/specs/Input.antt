-- What planning what was read leaves behind, in columns and buffers with room for every table. Assumes nothing: these are definitions.
use Rattle.std.specs.Prelude.{◌≡◌, List, ℕ, ◌≤◌, ◌<◌, length, take}
use Rattle.table.specs.Table.{most_nodes, most_arcs, most_wanted}
use Rattle.table.specs.Slices.{Buffer, had, left}
use Rattle.link_format.specs.Format.{Content}
use Rattle.link_format.specs.Reading.{Outcome, refused}
use Rattle.link_file.specs.declared.TableRead.{TableRead}
use Rattle.link_file.specs.Entries.{LeftByReading}
use Rattle.hand_over.specs.declared.Planned.{Planned}
use Rattle.hand_over.specs.Answered.{answered}
use Rattle.sheet.specs.Sheet.{Finished, finished, sheet}
use Rattle.sheet.specs.Printed.{lines_of}

-- the columns that are lent have room for every table
pub record ColumnsRoomy (tails heads lengths wanted : List ℕ) : Type 0 where
  -- an entry for each arc
  pub tails_long : most_arcs ≤ length tails
  pub heads_long : most_arcs ≤ length heads
  pub lengths_long : most_arcs ≤ length lengths
  -- an entry for each wanted node
  pub wanted_long : most_wanted ≤ length wanted

-- so have the buffers
pub record BuffersRoomy (distances prices tree marks : List ℕ) : Type 0 where
  -- an entry for each node
  pub distances_long : most_nodes ≤ length distances
  pub prices_long : most_nodes ≤ length prices
  pub tree_long : most_nodes ≤ length tree
  -- a mark for each arc
  pub marks_long : most_arcs ≤ length marks

-- what is printed of what was read and planned: the answer, and as much of each column as was filled
unfoldable pub printing_read : TableRead → Planned → (tails heads wanted distances prices tree marks : List ℕ) → Finished
printing_read r a ts hs ws ds ps tr ms =
    finished r.origin (take r.arcs ts) (take r.arcs hs) (take r.wanted ws)
    (answered a (take r.n ds) (take r.n ps) (take r.n tr) (take r.arcs ms))

-- a reader's refusal has a number, and it is not 8, on which a plan is made all the same
unfoldable pub RefusesWell : Outcome Content → Type 0
RefusesWell o = (n p : ℕ) → o ≡ refused n p → (0 < n) × (n ≡ 8 → ⊥)

-- Planning what was read: whatever reading gave it, what is printed of what it leaves are the lines of that.
abbrev pub PlansRead : TableRead → (tails heads lengths wanted distances prices tree marks : Buffer) → Planned → Type 0
PlansRead r ts hs ls ws ds ps tr ms a =
    (o : Outcome Content) (ts₀ hs₀ ls₀ ws₀ : List ℕ) → RefusesWell o → LeftByReading o ts₀ hs₀ ls₀ ws₀ (had ts) (had hs) (had ls) (had ws) r →
    sheet (printing_read r a (left ts) (left hs) (left ws) (left ds) (left ps) (left tr) (left ms)) ≡ lines_of o

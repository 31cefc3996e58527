-- The exchanged table (the reverse graph, in the field's terms): each arc's tail and head exchanged, its position and length kept; and the one result about it, by which all that is promised of
-- a plan is promised of a plan to a collector. Each promise is a type; its proof, by the same name in small letters, stands in proofs/Exchange.antt.
-- Assumes nothing.
use Rattle.std.specs.Prelude.{◌≡◌, true, List, map, reverse, ℕ, ◌<◌}
use Rattle.auction.specs.Absent.{without_absent, place_of}
use Rattle.table.specs.Table.{Arc, Table, arc, table, table_of, is_table, leads, walk_length}

unfoldable pub exchanged_arc : Arc → Arc
exchanged_arc a = arc a.head a.tail a.arc_length

unfoldable pub exchanged : Table → Table
exchanged t = table t.n t.origin (map exchanged_arc t.arcs)

-- THE ONE RESULT. Arcs lead from one node to another in the exchanged table exactly where the same arcs backwards lead from the other to the one in the
-- table itself, and they are as long.
pub record Backwards (t : Table) (v w : ℕ) (is : List ℕ) : Type 0 where
  pub walk : leads (exchanged t) v is w ≡ leads t w (reverse is) v
  pub as_long : walk_length (exchanged t) is ≡ walk_length t (reverse is)

unfoldable pub ExchangedWalks : Type 0
ExchangedWalks =
    (t : Table) (ws : List ℕ) (v w : ℕ) (is : List ℕ) → is_table t ws ≡ true → v < t.n → w < t.n → Backwards t v w is

-- Exchanging twice is nothing.
unfoldable pub ExchangedTwice : Type 0
ExchangedTwice = (t : Table) → exchanged (exchanged t) ≡ t

-- The exchanged table is one that the promises speak of just where the table itself is,
unfoldable pub ExchangedIsTable : Type 0
ExchangedIsTable = (t : Table) (ws : List ℕ) → is_table (exchanged t) ws ≡ is_table t ws

-- and it is the one that the columns hold when the tails stand for the heads and the heads for the tails.
unfoldable pub ExchangedColumns : Type 0
ExchangedColumns = (n c : ℕ) (tails heads lengths : List ℕ) → table_of n c heads tails lengths ≡ exchanged (table_of n c tails heads lengths)

-- Absent arcs may be left out before or after the exchange, and the others have the same places.
unfoldable pub ExchangedWithoutAbsent : Type 0
ExchangedWithoutAbsent = (t : Table) → (without_absent (exchanged t) ≡ exchanged (without_absent t)) × ((k : ℕ) → place_of (exchanged t) k ≡ place_of t k)

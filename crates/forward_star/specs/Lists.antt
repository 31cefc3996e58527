-- The columns of a table and the lists of each node's outgoing arcs, in table order. Assumes nothing: these are definitions.
use Rattle.std.specs.Prelude.{◌≡◌, cond, List, ℕ, zero, suc, ◌-◌, ◌≤◌, ◌<◌, eqb, length, get_or}
use Rattle.table.specs.Table.{Table, arc_count, tail_at, head_at, length_at, down, no_arc, most_arcs}

-- the first of the `left` positions from `position` on whose arc leaves node v, or no arc
unfoldable pub next_out : (left position : ℕ) → Table → (v : ℕ) → ℕ
next_out zero i t v = no_arc
next_out (suc k) i t v = cond (eqb (tail_at t i) v) i (next_out k (suc i) t v)

-- the columns of tails and lengths say which node each arc of the table leaves
pub record Tails (t : Table) (tails lengths : List ℕ) : Type 0 where
  -- there are as many tails as arcs
  pub count : length tails ≡ arc_count t
  -- each entry is the tail of the arc at that position, where its link is not down
  pub tail : (i : ℕ) → i < arc_count t → (get_or lengths i 0 ≡ down → ⊥) → get_or tails i 0 ≡ tail_at t i
  -- and an arc whose link is down leaves no node
  pub none : (i : ℕ) → i < arc_count t → get_or lengths i 0 ≡ down → tail_at t i < t.n → ⊥

-- `first` gives for each node, and `next` for each arc that leaves one, the position of the next arc that leaves the same node
pub record Linked (t : Table) (first next : List ℕ) : Type 0 where
  -- an entry for each node
  pub first_count : length first ≡ t.n
  -- an entry for each arc
  pub next_count : length next ≡ arc_count t
  -- a node's first outgoing arc
  pub first_arc : (v : ℕ) → v < t.n → get_or first v 0 ≡ next_out (arc_count t) 0 t v
  -- the next arc that leaves the same node
  pub next_arc : (i : ℕ) → i < arc_count t → tail_at t i < t.n → get_or next i 0 ≡ next_out (arc_count t - suc i) (suc i) t (tail_at t i)

-- THE FORWARD STAR, which is all that an iteration sees of a table: the heads and the lengths of the arcs, and the lists of outgoing arcs
pub record Star : Type 0 where
  pub heads : List ℕ
  pub lengths : List ℕ
  pub first : List ℕ
  pub next : List ℕ

abbrev pub star : (heads lengths first next : List ℕ) → Star
star hs ls first next = record { heads = hs; lengths = ls; first = first; next = next }

-- it is that of a table
pub record Outgoing (t : Table) (o : Star) : Type 0 where
  -- of few arcs, so that no position stands for no arc
  pub few : arc_count t ≤ most_arcs
  -- each arc has a head and a length in the columns
  pub head_count : length o.heads ≡ arc_count t
  pub length_count : length o.lengths ≡ arc_count t
  -- which are the table's
  pub head : (i : ℕ) → i < arc_count t → get_or o.heads i 0 ≡ head_at t i
  pub arc_length : (i : ℕ) → i < arc_count t → get_or o.lengths i 0 ≡ length_at t i
  -- each arc leads to a node
  pub head_in : (i : ℕ) → i < arc_count t → head_at t i < t.n
  -- the arcs out of each node are linked
  pub linked : Linked t o.first o.next

-- it is that of some table
unfoldable pub SomeTable : Star → Type 0
SomeTable o = (t : Table) × Outgoing t o

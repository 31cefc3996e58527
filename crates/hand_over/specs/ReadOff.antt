-- What the hand-over reads off the nodes where a run has ended, and what it relies on. Assumes nothing: these are definitions.
use Rattle.std.specs.Prelude.{◌≡◌, cond, List, ℕ, ◌-◌, ◌≤◌, ◌<◌, ltb, eqb, length, get_or}
use Rattle.std.specs.Borrow.{MutBor}
use Rattle.table.specs.declared.links.Columns.{Columns}
use Rattle.table.specs.Table.{Table, arc_count, arc_at, head_at, length_at, down, no_distance, most_nodes, most_arcs}
use Rattle.auction.specs.Auction.{State, auction, unreached}
use Rattle.auction.specs.HandOver.{Answer, mark_number}
use Rattle.auction.specs.Plan.{routes_of}
use Rattle.hand_over.specs.declared.Buffers.{Buffers}
use Rattle.steps.specs.declared.state.Node.{Node}
use Rattle.steps.specs.declared.state.Progress.{Progress}
use Rattle.steps.specs.declared.state.RunEnd.{RunEnd}
use Rattle.steps.specs.Seen.{status_number, seen, bounds_in, kepts_in, statuses_in}
use Rattle.steps.specs.Memory.{node_at}
use Rattle.steps.specs.Steps.{Ran}

-- THE STATE that these nodes hold, whatever the path, the prices and the progress: their own prices are not read
abbrev pub state_in : List Node → (path price : List ℕ) → Progress → State
state_in nodes path price g = seen path price (bounds_in nodes) (kepts_in nodes) (statuses_in nodes) g

-- every node that was reached has a distance, as where a run has ended
abbrev pub Known : List Node → Type 0
Known nodes = (v : ℕ) → 0 < get_or (statuses_in nodes) v 0 → get_or (bounds_in nodes) v 0 ≡ no_distance → ⊥

-- the ends of every arc are nodes
pub record ArcEnds (c : Columns) (nodes : List Node) : Type 0 where
  -- the head of each
  pub head_in : (i : ℕ) → i < length c.heads.now → get_or c.heads.now i 0 < length nodes
  -- and the tail of each
  pub tail_in : (i : ℕ) → i < length c.heads.now → get_or c.tails.now i 0 < length nodes

-- the buffers fit n nodes and m arcs
pub record Fitting (n m : ℕ) (b : Buffers) : Type 0 where
  -- within the limits
  pub few_nodes : n ≤ most_nodes
  pub few_arcs : m ≤ most_arcs
  -- an entry for each node, a mark for each arc
  pub distances_long : length b.distances.now ≡ n
  pub prices_long : length b.prices.now ≡ n
  pub tree_long : length b.tree.now ≡ n
  pub marks_long : length b.marks.now ≡ m

-- a slice that was lent in a struct: what it holds may be another, the slice is not
pub record SameSlice (old new : MutBor (List ℕ)) : Type 0 where
  -- it is the same place
  pub same : new.ghost_name ≡ old.ghost_name
  -- it is as long
  pub long : length new.now ≡ length old.now

-- the buffers are the same as before: none of the four is exchanged for another
pub record SameBuffers (old new : Buffers) : Type 0 where
  -- an entry for each node
  pub distances_same : SameSlice old.distances new.distances
  pub prices_same : SameSlice old.prices new.prices
  pub tree_same : SameSlice old.tree new.tree
  -- a mark for each arc
  pub marks_same : SameSlice old.marks new.marks

-- the columns hold a table's arcs
pub record ArcsHeld (t : Table) (c : Columns) : Type 0 where
  -- they are as long as the table
  pub count : arc_count t ≡ length c.heads.now
  -- they hold each arc's head
  pub head : (i : ℕ) → i < arc_count t → head_at t i ≡ get_or c.heads.now i 0
  -- its tail, also where it is absent
  pub tail : (i : ℕ) → i < arc_count t → (arc_at t i).tail ≡ get_or c.tails.now i 0
  -- and its length
  pub arc_length : (i : ℕ) → i < arc_count t → length_at t i ≡ get_or c.lengths.now i 0

-- no node that was reached is farther than the horizon
abbrev pub NoneFarther : (horizon : ℕ) → List Node → Type 0
NoneFarther h nodes = (v : ℕ) → v < length nodes → 0 < get_or (statuses_in nodes) v 0 → get_or (bounds_in nodes) v 0 ≤ h

-- READ OFF: for each table with as many nodes, whatever the path, the prices and the progress, this is what `f` gives
abbrev pub ReadOff : {A : Type 0} → (f : Table → State → A) → List Node → A → Type 0
ReadOff f nodes a = (t : Table) (path price : List ℕ) (g : Progress) → t.n ≡ length nodes → a ≡ f t (state_in nodes path price g)

-- a node's price; that of a node that was not reached is 0
abbrev pub price_entry : (horizon : ℕ) → List Node → (v : ℕ) → ℕ
price_entry h nodes v = h - cond (ltb unreached (status_number (node_at v nodes).status)) (node_at v nodes).bound h

-- the mark of the arc at a position; an arc whose link is down has mark 1
abbrev pub mark_entry : Columns → List Node → (i : ℕ) → ℕ
mark_entry c nodes i =
    cond (eqb (get_or c.lengths.now i 0) down) 1
    (mark_number (ltb 0 (get_or (statuses_in nodes) (get_or c.heads.now i 0) 0)) (ltb 0 (get_or (statuses_in nodes) (get_or c.tails.now i 0) 0))
    (eqb (get_or (kepts_in nodes) (get_or c.heads.now i 0) 0) i))

-- THE HAND-OVER: for each table and wanted list whose run has ended with these nodes, whatever the path and the prices, the answer is
-- the definition's
abbrev pub HandsOver : (end : RunEnd) → (wanted : ℕ) → Columns → List Node → Answer → Type 0
HandsOver end wanted c nodes answer =
    (t : Table) (ws path price : List ℕ) → t.n ≡ length nodes → ArcsHeld t c → length ws ≡ wanted →
    Ran t ws (auction t ws) end.missing end.scans (state_in nodes path price end.progress) →
    (auction t ws).routed ≡ eqb end.missing wanted → answer ≡ routes_of t ws

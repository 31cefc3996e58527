-- WHAT THE NODES REMEMBER: for each node the child of its best bid at its last scan, or no node where it has to scan again. Assumes nothing: these are
-- definitions.
use Rattle.std.specs.Prelude.{◌≡◌, true, false, cond, List, ◌⊎◌, ℕ, ◌-◌, ◌<◌, ◌≤◌, eqb, length, get_or, set, Option, Some, None}
use Rattle.std.proofs.Math.Option.{some}
use Rattle.table.specs.Table.{Table, arc_count, tail_at, head_at, no_arc, no_node}
use Rattle.auction.specs.Auction.{State, kept_at, status_at, to_child, unreached}
use Rattle.forward_star.specs.declared.star.ForwardStar.{ForwardStar}
use Rattle.forward_star.specs.Lists.{Tails}
use Rattle.forward_star.specs.Lent.{IsStarOf}
use Rattle.steps.specs.declared.state.Node.{Node}
use Rattle.steps.specs.declared.state.Status.TheVariants.{Unreached}
use Rattle.steps.specs.declared.state.RunState.{RunState}
use Rattle.steps.specs.declared.bids.LeastBid.{LeastBid}
use Rattle.steps.specs.Seen.{held, prices_in, kepts_in, memory_in}

-- the node at an index
abbrev pub nobody : Node
nobody = record { price = 0; bound = 0; kept = 0; remembered = 0; status = Unreached }

abbrev pub node_at : (v : ℕ) → List Node → Node
node_at v ns = get_or ns v nobody

-- A NODE FORGETS its child
abbrev pub forgetting : (v : ℕ) → List Node → List Node
forgetting v ns = set ns v (record (node_at v ns) { remembered = no_node })

-- no node remembers a child, as it is before the first scan
abbrev pub AllForgotten : List Node → Type 0
AllForgotten ns = (v : ℕ) → v < length ns → (node_at v ns).remembered ≡ no_node

-- the node that an arc leaves, where the arc is given up
abbrev pub without_tail : (arc : ℕ) → (tails : List ℕ) → List Node → List Node
without_tail i ts ns = cond (eqb i no_arc) ns (forgetting (get_or ts i 0) ns)

-- the node before the terminal one on the path
abbrev pub before : (depth : ℕ) → (path : List ℕ) → ℕ
before d p = get_or p (d - 2) 0

-- there is such a node, which can be looked up
pub record HasBefore (depth : ℕ) (path : List ℕ) (nodes : List Node) : Type 0 where
  -- the path has two nodes or more,
  pub some_node : 2 ≤ depth
  -- which stand in its array,
  pub on_path : depth ≤ length path
  -- and the node has an entry
  pub inside : before depth path < length nodes

-- each arc that is kept stands in the column of tails, whose entries are nodes
pub record KeptIn (tails : List ℕ) (nodes : List Node) : Type 0 where
  pub listed : (u : ℕ) → u < length nodes → (get_or (kepts_in nodes) u 0 ≡ no_arc → ⊥) → get_or (kepts_in nodes) u 0 < length tails
  pub tail_in : (i : ℕ) → i < length tails → get_or tails i 0 < length nodes

-- there are as many nodes as the forward star has, and each kept arc is one of its arcs
pub record Ready (star : ForwardStar) (nodes : List Node) : Type 0 where
  pub count : length nodes ≡ length star.first.now
  pub kept_in : KeptIn star.columns.tails.now nodes

-- an arc of the table that leads into node u and leaves a node
pub record ArcInto (t : Table) (u k : ℕ) : Type 0 where
  pub listed : k < arc_count t
  pub into : head_at t k ≡ u
  pub leaves : tail_at t k < t.n

-- each arc that is kept leads into the node that keeps it
abbrev pub KeptArcs : Table → State → Type 0
KeptArcs t x = (u k : ℕ) → kept_at x u ≡ some k → ArcInto t u k

-- FROM STATE X TO STATE Y a node keeps its children and what it remembers,
pub record Keeps (t : Table) (u : ℕ) (remembered remembered' : List ℕ) (x y : State) : Type 0 where
  pub children : (i : ℕ) → to_child t u i y ≡ to_child t u i x
  pub memory : get_or remembered' u 0 ≡ get_or remembered u 0

-- or it loses a child, gains none, and forgets
pub record Loses (t : Table) (u : ℕ) (remembered' : List ℕ) (x y : State) : Type 0 where
  -- the arc to the child that it loses
  pub arc : ℕ
  pub listed : arc < arc_count t
  pub child : to_child t u arc x ≡ true
  pub lost : to_child t u arc y ≡ false
  -- every child that it has now it had before
  pub gains_none : (i : ℕ) → to_child t u i y ≡ true → to_child t u i x ≡ true
  -- and its entry is none
  pub memory : get_or remembered' u 0 ≡ no_node

pub record Remembering (t : Table) (which : ℕ → Type 0) (remembered remembered' : List ℕ) (x y : State) : Type 0 where
  -- each of these nodes does the one or the other
  pub each : (u : ℕ) → which u → Keeps t u remembered remembered' x y ⊎ Loses t u remembered' x y
  -- and no node begins to remember
  pub nothing : (u : ℕ) → get_or remembered u 0 ≡ no_node → get_or remembered' u 0 ≡ no_node

-- so it is, of these nodes, in each table whose forward star and tails these are, where the kept arcs are arcs of the table
abbrev pub Remembers : ForwardStar → (which : State → ℕ → Type 0) → (a b : RunState) → Type 0
Remembers s which a b =
    (t : Table) → IsStarOf t s → Tails t s.columns.tails.now s.columns.lengths.now → KeptArcs t (held a) →
    Remembering t (which (held a)) (memory_in a.nodes) (memory_in b.nodes) (held a) (held b)

-- all nodes but one
abbrev pub but : (v : ℕ) → State → ℕ → Type 0
but v x u = u ≡ v → ⊥

-- those that were reached
abbrev pub those_reached : State → ℕ → Type 0
those_reached x u = unreached < status_at x u

-- the child that a bid is for
abbrev pub child_of : ForwardStar → LeastBid → ℕ
child_of star c = get_or star.columns.heads.now c.arc 0

-- a node remembers a child
abbrev pub remembering : (v child : ℕ) → RunState → RunState
remembering v j r = record r { nodes = set r.nodes v (record (node_at v r.nodes) { remembered = j }) }

-- AN ITERATION at node v, whose least bid is given
pub record Remembered (v origin : ℕ) (least : Option LeastBid) (star : ForwardStar) (a b : RunState) : Type 0 where
  -- a deletion: the node before it forgets
  pub deletes : least ≡ None → memory_in b.nodes ≡ memory_in (forgetting (before a.progress.depth a.path) a.nodes)
  -- a contraction: the node remembers the child of the bid, and the node before it, where it is not the origin, forgets
  pub contracts : (c : LeastBid) → least ≡ Some c → get_or (prices_in a.nodes) v 0 < c.value → (v ≡ origin → ⊥) →
      memory_in b.nodes ≡ memory_in (forgetting (before a.progress.depth a.path) (remembering v (child_of star c) a).nodes)
  pub at_origin : (c : LeastBid) → least ≡ Some c → get_or (prices_in a.nodes) v 0 < c.value → v ≡ origin →
      memory_in b.nodes ≡ memory_in (remembering v (child_of star c) a).nodes
  -- an extension: the node remembers the child of the bid; then nodes may lose children to a node that is reached
  pub extends : (c : LeastBid) → least ≡ Some c → c.value ≤ get_or (prices_in a.nodes) v 0 →
      Remembers star those_reached (remembering v (child_of star c) a) b

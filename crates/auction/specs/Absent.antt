-- ABSENT ARCS: what is promised of links that are down. A plan is that of the table without them, and only positions are told as they stand in the
-- table. Assumes nothing.
use Rattle.std.specs.Prelude.{◌≡◌, true, false, cond, List, [], ◌∷◌, map, ℕ, suc, ◌+◌, ◌^◌, ◌<◌, get_or}
use Rattle.std.proofs.Math.Option.{Option, none, some}
use Rattle.table.specs.Table.{Arc, Table, table, is_table, is_walk, walk_length, arc_count, arc_at, present, present_at, down, no_arc}
use Rattle.auction.specs.Auction.{State, state, Ended, ended, auction, after, kept_at}
use Rattle.auction.specs.Scans.{scans}
use Rattle.auction.specs.HandOver.{Answer, mark, how_many}
use Rattle.auction.specs.Plan.{routes_of}
use Rattle.auction.specs.Demands.{walk_of}
use Rattle.auction.specs.Limit.{limited}

-- DOWN is the number of 32 ones.
unfoldable pub DownIsAllOnes : Type 0
DownIsAllOnes = down + 1 ≡ 2 ^ 32

-- AN ABSENT ARC IS NOWHERE: it is in no walk; no node keeps it, at any state of a run; and its mark is 1, whatever the state, so from the start.
pub record Nowhere (t : Table) (i : ℕ) : Type 0 where
  pub in_no_walk : (walk : List ℕ) (v : ℕ) → is_walk t walk v ≡ true → how_many i walk ≡ 0
  pub never_kept : (k : ℕ) (x : State) (v : ℕ) → after k t ≡ some x → kept_at x v ≡ some i → ⊥
  pub marked : (x : State) → mark t x i ≡ 1

unfoldable pub AbsentNowhere : Type 0
AbsentNowhere =
    (t : Table) (ws : List ℕ) (i : ℕ) → is_table t ws ≡ true → i < arc_count t → present_at t i ≡ false → Nowhere t i

-- THE TABLE WITHOUT ITS ABSENT ARCS: the present ones, in their order, closed up
unfoldable pub present_arcs : List Arc → List Arc
present_arcs [] = []
present_arcs (a ∷ more) = cond (present a) (a ∷ present_arcs more) (present_arcs more)

unfoldable pub without_absent : Table → Table
without_absent t = table t.n t.origin (present_arcs t.arcs)

-- the positions of the present arcs among these, the first of which stands at `position`
unfoldable pub present_from : (position : ℕ) → List Arc → List ℕ
present_from i [] = []
present_from i (a ∷ more) = cond (present a) (i ∷ present_from (suc i) more) (present_from (suc i) more)

-- where an arc of the table without its absent arcs stands in the table
unfoldable pub place_of : Table → (k : ℕ) → ℕ
place_of t k = get_or (present_from 0 t.arcs) k no_arc

-- It is a table of which everything is promised, all its arcs are present, and they are just the present arcs of the table, in the same order.
pub record ClosedUp (t : Table) (ws : List ℕ) : Type 0 where
  pub good : is_table (without_absent t) ws ≡ true
  pub all_present : (k : ℕ) → k < arc_count (without_absent t) → present_at (without_absent t) k ≡ true
  -- each of its arcs is the table's at its place,
  pub listed : (k : ℕ) → k < arc_count (without_absent t) → place_of t k < arc_count t
  pub same_arc : (k : ℕ) → k < arc_count (without_absent t) → arc_at t (place_of t k) ≡ arc_at (without_absent t) k
  -- places ascend, each present arc of the table has one, and no arc stays no arc
  pub ascending : (k l : ℕ) → k < l → l < arc_count (without_absent t) → place_of t k < place_of t l
  pub every : (i : ℕ) → i < arc_count t → present_at t i ≡ true → (k : ℕ) × (k < arc_count (without_absent t)) × (place_of t k ≡ i)
  pub no_place : place_of t no_arc ≡ no_arc

unfoldable pub AbsentClosedUp : Type 0
AbsentClosedUp = (t : Table) (ws : List ℕ) → is_table t ws ≡ true → ClosedUp t ws

-- ITS WALKS are the table's: each is one, told by the places of its arcs, and as long; and the table has no other.
pub record SameWalks (t : Table) : Type 0 where
  pub there : (walk : List ℕ) (v : ℕ) → is_walk (without_absent t) walk v ≡ true → is_walk t (map (place_of t) walk) v ≡ true
  pub as_long : (walk : List ℕ) (v : ℕ) → is_walk (without_absent t) walk v ≡ true →
      walk_length t (map (place_of t) walk) ≡ walk_length (without_absent t) walk
  pub no_other : (walk : List ℕ) (v : ℕ) → is_walk t walk v ≡ true →
      (other : List ℕ) × (is_walk (without_absent t) other v ≡ true) × (map (place_of t) other ≡ walk)

unfoldable pub WalksWithoutAbsent : Type 0
WalksWithoutAbsent = (t : Table) (ws : List ℕ) → is_table t ws ≡ true → SameWalks t

-- THE AUCTION IS THAT OF THE TABLE WITHOUT ITS ABSENT ARCS: after every iteration, and where it ends, the path, the prices, the bounds, the statuses
-- and the counts are the same, and each node's kept arc is the same, told by its place in the table.
unfoldable pub told : (place : ℕ → ℕ) → Option ℕ → Option ℕ
told f none = none
told f (some k) = some (f k)

unfoldable pub told_state : (place : ℕ → ℕ) → State → State
told_state f x =
    state x.path x.price x.bound (map (told f) x.kept) x.status x.contractions x.extensions x.deletions

unfoldable pub told_step : (place : ℕ → ℕ) → Option State → Option State
told_step f none = none
told_step f (some x) = some (told_state f x)

unfoldable pub told_end : (place : ℕ → ℕ) → Ended → Ended
told_end f e = ended e.routed (told_state f e.last)

unfoldable pub StepsWithoutAbsent : Type 0
StepsWithoutAbsent =
    (t : Table) (k : ℕ) → is_table t [] ≡ true → after k t ≡ told_step (place_of t) (after k (without_absent t))

unfoldable pub AuctionWithoutAbsent : Type 0
AuctionWithoutAbsent =
    (t : Table) (ws : List ℕ) → is_table t ws ≡ true → auction t ws ≡ told_end (place_of t) (auction (without_absent t) ws)

-- So is the run within a limit.
unfoldable pub LimitedWithoutAbsent : Type 0
LimitedWithoutAbsent =
    (t : Table) (ws : List ℕ) (limit : ℕ) → is_table t ws ≡ true → limited t ws limit ≡ told_end (place_of t) (limited (without_absent t) ws limit)

-- The scans of the first k iterations are as many.
unfoldable pub ScansWithoutAbsent : Type 0
ScansWithoutAbsent = (t : Table) (k : ℕ) → is_table t [] ≡ true → scans k t ≡ scans k (without_absent t)

-- AND SO IS ALL THAT IS HANDED OVER: the number, also "no route", and its place, the counts, the distances and the prices are the same, the links and
-- the walks go over the same arcs, and each present arc has the same mark.
pub record AsWithout (t : Table) (a b : Answer) : Type 0 where
  pub number : a.number ≡ b.number
  pub place : a.place ≡ b.place
  pub reached : a.reached ≡ b.reached
  pub horizon : a.horizon ≡ b.horizon
  pub iterations : a.iterations ≡ b.iterations
  pub contractions : a.contractions ≡ b.contractions
  pub extensions : a.extensions ≡ b.extensions
  pub deletions : a.deletions ≡ b.deletions
  pub scans : a.scans ≡ b.scans
  pub distances : a.distances ≡ b.distances
  pub prices : a.prices ≡ b.prices
  pub links : a.tree ≡ map (place_of t) b.tree
  pub walks : (v : ℕ) → walk_of t a v ≡ map (place_of t) (walk_of (without_absent t) b v)
  pub marks : (k : ℕ) → k < arc_count (without_absent t) → get_or a.marks (place_of t k) 0 ≡ get_or b.marks k 0

unfoldable pub PlanWithoutAbsent : Type 0
PlanWithoutAbsent =
    (t : Table) (ws : List ℕ) → is_table t ws ≡ true → AsWithout t (routes_of t ws) (routes_of (without_absent t) ws)

-- ALL OF THEM together: the one theorem `absent` of proofs/Absent.antt
pub record Absent : Type 0 where
  pub down_is_all_ones : DownIsAllOnes
  pub absent_nowhere : AbsentNowhere
  pub absent_closed_up : AbsentClosedUp
  pub walks_without_absent : WalksWithoutAbsent
  pub steps_without_absent : StepsWithoutAbsent
  pub auction_without_absent : AuctionWithoutAbsent
  pub limited_without_absent : LimitedWithoutAbsent
  pub scans_without_absent : ScansWithoutAbsent
  pub plan_without_absent : PlanWithoutAbsent

-- What the small functions of the run leave behind. Assumes nothing: these are definitions.
use Rattle.std.specs.Prelude.{◌≡◌, ◌&&◌, not, true, cond, List, ℕ, ◌+◌, ◌≤◌, ◌<◌, ltb, set, length, get_or, Option, Some, None}
use Rattle.std.proofs.Math.Option as maybe
use Rattle.std.proofs.Math.Option.{none, some}
use Rattle.table.specs.Table.{Table, tail_at, head_at, length_at}
use Rattle.auction.specs.Auction.{State, Bid, bid, with_bid, lower_bid, to_child, price_at, iteration, improves, unreached, Ended, iterations, was_reached, bound_at}
use Rattle.auction.specs.Scans.{scans}
use Rattle.auction.specs.HandOver.{first_missing}
use Rattle.forward_star.specs.declared.star.ForwardStar.{ForwardStar}
use Rattle.forward_star.specs.Lent.{IsStarOf}
use Rattle.steps.specs.declared.bids.LeastBid.{LeastBid}
use Rattle.steps.specs.declared.state.Node.{Node}
use Rattle.steps.specs.declared.state.RunState.{RunState}
use Rattle.steps.specs.Seen.{held, bound_of, arc_of, status_number, prices_in, bounds_in, greatest_sum, too_many}
use Rattle.steps.specs.Memory.{node_at, without_tail, child_of}

-- WHAT BECOMES OF A RUN'S STATE: what `f` makes of the state that was held
abbrev pub Becomes : (f : State → State) → (a b : RunState) → Type 0
Becomes f a b = held b ≡ f (held a)

-- A node keeps an arc, with the bound that it offers
abbrev pub keeping : (node position bound : ℕ) → List Node → List Node
keeping j i b ns = set ns j (record (node_at j ns) { bound = b; kept = i })

-- ONE ARC OFFERED to its head: kept, and the arc that was kept before given up, where the head is unreached and the bound is better
abbrev pub offered_arc : (head position bound : ℕ) → (tails : List ℕ) → List Node → List Node
offered_arc j i b ts ns =
    let n = node_at j ns in
    cond (not (ltb unreached (status_number n.status)) && improves b i (bound_of n.bound) (arc_of n.kept)) (keeping j i b (without_tail n.kept ts ns)) ns

-- the lower of two bids, the first where they are equal
unfoldable pub lower_of : maybe.Option Bid → maybe.Option Bid → maybe.Option Bid
lower_of none b = b
lower_of (some a) b = some (lower_bid a b)

-- the bid that the code holds
abbrev pub bid_in : Option LeastBid → maybe.Option Bid
bid_in None = none
bid_in (Some c) = some (bid c.value c.arc)

-- the bid over the arc at a position, where that leads to a child
abbrev pub bid_over : (t : Table) → (position : ℕ) → State → maybe.Option Bid
bid_over t i x = with_bid (to_child t (tail_at t i) i x) (bid (length_at t i + price_at x (head_at t i)) i) none

-- What an iteration at node v may rely on, whose least bid is given
pub record CanStep (v origin : ℕ) (least : Option LeastBid) (star : ForwardStar) (a : RunState) : Type 0 where
  -- it is no stop: the origin has a child
  pub no_stop : least ≡ None → v ≡ origin → ⊥
  -- the arc of the least bid is an arc of the table
  pub listed : (c : LeastBid) → least ≡ Some c → c.arc < length star.columns.heads.now
  -- where the path is to be extended there is room for one node more
  pub room : (c : LeastBid) → least ≡ Some c → c.value ≤ get_or (prices_in a.nodes) v 0 → a.progress.depth < length a.path
  -- the child has a bound
  pub bounded : (c : LeastBid) → least ≡ Some c → get_or (bounds_in a.nodes) (child_of star c) 0 ≤ greatest_sum

-- AN ITERATION at node v, whose least bid is given: the next state is held, in each table whose forward star this is.
abbrev pub Steps : (v origin : ℕ) → Option LeastBid → ForwardStar → (a b : RunState) → Type 0
Steps v origin least s a b = (t : Table) → IsStarOf t s → t.origin ≡ origin → iteration (bid_in least) t v (held a) ≡ some (held b)

-- A RUN HAS ENDED as `e` says; `missing` is the index of the first wanted node that was not reached, or their number where all were; so many scans
-- were made
pub record Ran (t : Table) (ws : List ℕ) (e : Ended) (missing scanned : ℕ) (x : State) : Type 0 where
  -- in this state
  pub last_so : e.last ≡ x
  -- the index is the first missing node's
  pub first_so : missing ≡ first_missing 0 ws x
  pub inside : missing ≤ length ws
  -- every reached node has a distance
  pub bounded : (v : ℕ) → was_reached x v ≡ true → bound_at x v ≡ none → ⊥
  -- the iterations are few
  pub few : iterations x < too_many
  -- the scans are those of just these iterations
  pub scans_so : scanned ≡ scans (iterations x) t

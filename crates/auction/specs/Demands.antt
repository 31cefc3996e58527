-- THE PAGE FOR USERS: demands 2 and 3, said of what a plan hands over, for every table that is not refused as faulty. Everything here speaks of
-- the table, of walks, and of the answer and the four buffers; the auction's inside is named only where its counts are. Assumes nothing.
use Rattle.std.specs.Prelude.{◌≡◌, true, false, List, ◌⊎◌, ℕ, suc, ◌+◌, ◌*◌, ◌-◌, ◌/◌, ◌≤◌, ◌<◌, length, get_or}
use Rattle.std.proofs.Math.Option.{none, some}
use Rattle.table.specs.Table.{Table, is_table, is_walk, walk_length, arc_count, present_at, tail_at, head_at, length_at, no_arc, no_distance}
use Rattle.auction.specs.Auction.{State, next, after, all_reached, most_iterations}
use Rattle.auction.specs.HandOver.{Answer, answer, returned, how_many}
use Rattle.auction.specs.Scans.{scans}
use Rattle.auction.specs.Plan.{routes_of}
use Rattle.auction.specs.Promises.{Attains, HasWalk, FirstWithoutWalk, equal_along}

-- what the buffers say of a node: its distance, its price, its link, and the walk returned to it
unfoldable pub distance_of : Answer → (v : ℕ) → ℕ
distance_of a v = get_or a.distances v no_distance

unfoldable pub price_of : Answer → (v : ℕ) → ℕ
price_of a v = get_or a.prices v 0

unfoldable pub link_of : Answer → (v : ℕ) → ℕ
link_of a v = get_or a.tree v no_arc

unfoldable pub walk_of : Table → Answer → (v : ℕ) → List ℕ
walk_of t a v = returned t a.tree v

-- a node is given a walk where its distance is not 2⁶⁴ − 1
unfoldable pub Given : Answer → (v : ℕ) → Type 0
Given a v = distance_of a v ≡ no_distance → ⊥

pub record Demands (t : Table) (ws : List ℕ) (a : Answer) : Type 0 where
  -- Each wanted node that has a walk is given one.
  pub given : (k : ℕ) (walk : List ℕ) → k < length ws → is_walk t walk (get_or ws k 0) ≡ true → Given a (get_or ws k 0)
  -- The walk returned to a node is a walk from the origin to it, of fewer than n links, as long as the node's distance,
  pub walk : (v : ℕ) → Given a v → is_walk t (walk_of t a v) v ≡ true
  pub short : (v : ℕ) → Given a v → length (walk_of t a v) < t.n
  pub as_long : (v : ℕ) → Given a v → walk_length t (walk_of t a v) ≡ distance_of a v
  -- and no other walk there is shorter.
  pub least : (v : ℕ) → Given a v → (other : List ℕ) → is_walk t other v ≡ true → distance_of a v ≤ walk_length t other
  -- Its link attains the distance, and is the earliest listed of all that do; the link's near end is given a walk too. The origin has no link.
  pub attains : (v : ℕ) → Given a v → (v ≡ t.origin → ⊥) → Attains t v (distance_of a v) (link_of a v)
  pub earliest : (v : ℕ) → Given a v → (v ≡ t.origin → ⊥) → (i : ℕ) → Attains t v (distance_of a v) i → link_of a v ≤ i
  pub near_end : (v : ℕ) → Given a v → (v ≡ t.origin → ⊥) → Given a (tail_at t (link_of a v))
  pub no_link : link_of a t.origin ≡ no_arc
  -- The prices show it: on every link that is present the near end's price is at most the link's length plus the far end's price,
  pub prices_fit : (i : ℕ) → i < arc_count t → present_at t i ≡ true → price_of a (tail_at t i) ≤ length_at t i + price_of a (head_at t i)
  -- equal along the walks returned, and the origin's price less the node's is the walk's length.
  pub prices_equal : (v : ℕ) → Given a v → equal_along t a.prices (walk_of t a v) ≡ true
  pub prices_show : (v : ℕ) → Given a v → price_of a t.origin ≡ walk_length t (walk_of t a v) + price_of a v
  -- "No route", number 8, exactly when some wanted node has no walk; its place is the first such node's.
  pub numbers : (a.number ≡ 0) ⊎ (a.number ≡ 8)
  pub route : a.number ≡ 0 → (k : ℕ) → k < length ws → HasWalk t (get_or ws k 0)
  pub no_route : a.number ≡ 8 → FirstWithoutWalk t ws a.place
  -- Each link has one of the marks 0 to 3, and one has mark 3 for each node reached but the origin.
  pub marks_all : how_many 0 a.marks + how_many 1 a.marks + how_many 2 a.marks + how_many 3 a.marks ≡ arc_count t
  pub marks_tree : suc (how_many 3 a.marks) ≡ a.reached
  -- A link that is absent has mark 1; it is on no walk returned and is no node's link.
  pub absent_mark : (i : ℕ) → i < arc_count t → present_at t i ≡ false → get_or a.marks i 0 ≡ 1
  pub absent_walk : (i : ℕ) → i < arc_count t → present_at t i ≡ false → (v : ℕ) → Given a v → how_many i (walk_of t a v) ≡ 0
  pub absent_link : (i : ℕ) → i < arc_count t → present_at t i ≡ false → (v : ℕ) → link_of a v ≡ i → ⊥
  -- The nodes reached and those without a distance are all nodes.
  pub reached_all : a.reached + how_many no_distance a.distances ≡ t.n
  -- Iterations, contractions, extensions and deletions are those of the auction: after just so many of its steps it is in a state with just these
  -- counts,
  pub counts : a.iterations ≡ a.contractions + a.extensions + a.deletions
  pub last : State
  pub steps : after a.iterations t ≡ some last
  pub counted : (last.contractions ≡ a.contractions) × (last.extensions ≡ a.extensions) × (last.deletions ≡ a.deletions)
  -- and there it stops, and not before: with number 0 because every wanted node has been reached, with number 8 because no iteration follows.
  pub found : a.number ≡ 0 → all_reached ws last ≡ true
  pub stuck : a.number ≡ 8 → next t last ≡ none
  pub not_before : (k : ℕ) (x : State) → k < a.iterations → after k t ≡ some x → all_reached ws x ≡ false
  -- The iterations are at most 2(n³ − n)/3 + 3(n − 1), and even at most (n³ − n)/3 + 3(n − 1).
  pub few : a.iterations ≤ most_iterations t.n
  pub fewer : a.iterations ≤ (t.n * t.n * t.n - t.n) / 3 + 3 * (t.n - 1)
  -- The scans are those of just these iterations, by the definition; each contraction and each deletion is one, and no iteration is more than one.
  pub scanned : a.scans ≡ scans a.iterations t
  pub scans_least : a.contractions + a.deletions ≤ a.scans
  pub scans_most : a.scans ≤ a.iterations

-- The promise: all of that, of every table that is not refused as faulty and every wanted list.
unfoldable pub DemandsMet : Type 0
DemandsMet = (t : Table) (ws : List ℕ) → is_table t ws ≡ true → Demands t ws (routes_of t ws)

-- The demands leave no choice of number and counts: two answers that meet them have the same ones.
pub record SameCounts (a b : Answer) : Type 0 where
  pub number : a.number ≡ b.number
  pub iterations : a.iterations ≡ b.iterations
  pub contractions : a.contractions ≡ b.contractions
  pub extensions : a.extensions ≡ b.extensions
  pub deletions : a.deletions ≡ b.deletions
  pub scans : a.scans ≡ b.scans

unfoldable pub CountsPinned : Type 0
CountsPinned = (t : Table) (ws : List ℕ) (a b : Answer) → Demands t ws a → Demands t ws b → SameCounts a b

-- So a hollow answer, the true one with all five counts 0, does not meet them, unless the auction makes no iteration.
unfoldable pub hollow : Answer → Answer
hollow a =
    answer a.number a.place a.reached a.horizon 0 0 0 0 0 a.distances a.prices a.tree a.marks

unfoldable pub HollowFails : Type 0
HollowFails =
    (t : Table) (ws : List ℕ) → is_table t ws ≡ true → 0 < (routes_of t ws).iterations → Demands t ws (hollow (routes_of t ws)) → ⊥

-- What is promised of every run: for every table that is not refused as faulty, and every wanted list. Each promise is a type, its proof has the
-- same name in small letters, and `Promises` at the end holds all of them (proofs/Promised.antt). Assumes nothing.
--
-- A table that is not refused is one with `is_table t ws ≡ true` (`UnrefusedIsTable` and `TableIsUnrefused`, below). A node counts as reached
-- where `was_reached` says so of the run's last state: those are the nodes to which a distance is handed over.
use Rattle.std.specs.Prelude.{◌≡◌, Bool, true, false, ◌&&◌, List, [], ◌∷◌, ℕ, suc, ◌+◌, ◌*◌, ◌-◌, ◌/◌, ◌^◌, ◌≤◌, ◌<◌, eqb, length, get_or}
use Rattle.std.proofs.Math.Option.{none, some}
use Rattle.table.specs.Table.{Table, table_of, is_table, is_walk, walk_length, arc_count, present_at, tail_at, head_at, length_at, longest, no_arc, no_distance, Below}
use Rattle.table.specs.Refusals.{Room, no_refusal, rooms_fit, table_refusal}
use Rattle.auction.specs.Auction.{State, Bid, auction, run, start, next, after, best, terminal, all_reached, was_reached, distance, bound_at, price_at, extension, iterations, most_iterations}
use Rattle.auction.specs.HandOver.{how_many, reached_count, prices, tree, marks, returned, first_missing}
use Rattle.auction.specs.Scans.{scans_now, history, last_scan, scans}

-- the state in which a run ends, and what is handed over from it: the walk returned to a node, a node's price, its tree entry
unfoldable pub last_state : Table → (wanted : List ℕ) → State
last_state t ws = (auction t ws).last

unfoldable pub route : Table → (wanted : List ℕ) → (v : ℕ) → List ℕ
route t ws v = returned t (tree t (last_state t ws)) v

unfoldable pub price : Table → (wanted : List ℕ) → (v : ℕ) → ℕ
price t ws v = get_or (prices t (last_state t ws)) v 0

unfoldable pub link : Table → (wanted : List ℕ) → (v : ℕ) → ℕ
link t ws v = get_or (tree t (last_state t ws)) v no_arc

-- THE THIRD DEMAND

-- The walk returned to a reached node is a walk from the origin to it with fewer than n arcs, its length is the node's distance, and no other walk
-- there is shorter.
pub record Shortest (t : Table) (ws : List ℕ) (v : ℕ) : Type 0 where
  pub walk : is_walk t (route t ws v) v ≡ true
  pub short : length (route t ws v) < t.n
  pub as_long : walk_length t (route t ws v) ≡ distance (last_state t ws) v
  pub least : (other : List ℕ) → is_walk t other v ≡ true → distance (last_state t ws) v ≤ walk_length t other

unfoldable pub WalkShortest : Type 0
WalkShortest =
    (t : Table) (ws : List ℕ) (v : ℕ) → is_table t ws ≡ true → was_reached (last_state t ws) v ≡ true → Shortest t ws v

-- Each wanted node that has a walk is given one: it is reached, also where another wanted node has none.
unfoldable pub WalkGiven : Type 0
WalkGiven =
    (t : Table) (ws : List ℕ) (k : ℕ) (walk : List ℕ) → is_table t ws ≡ true → k < length ws → is_walk t walk (get_or ws k 0) ≡ true →
    was_reached (last_state t ws) (get_or ws k 0) ≡ true

-- The prices show it. On every link that is present the near end's price is at most the link's length plus the far end's price,
unfoldable pub PricesFit : Type 0
PricesFit =
    (t : Table) (ws : List ℕ) (i : ℕ) → is_table t ws ≡ true → i < arc_count t → present_at t i ≡ true →
    price t ws (tail_at t i) ≤ length_at t i + price t ws (head_at t i)

-- equal along the walks returned, and the origin's price less a node's price is the walk's length.
unfoldable pub equal_along : Table → (prices walk : List ℕ) → Bool
equal_along t ps [] = true
equal_along t ps (i ∷ is) = eqb (get_or ps (tail_at t i) 0) (length_at t i + get_or ps (head_at t i) 0) && equal_along t ps is

pub record Shown (t : Table) (ws : List ℕ) (v : ℕ) : Type 0 where
  pub equal : equal_along t (prices t (last_state t ws)) (route t ws v) ≡ true
  pub difference : price t ws t.origin ≡ walk_length t (route t ws v) + price t ws v

unfoldable pub PricesShow : Type 0
PricesShow =
    (t : Table) (ws : List ℕ) (v : ℕ) → is_table t ws ≡ true → was_reached (last_state t ws) v ≡ true → Shown t ws v

-- "No route" exactly when some wanted node has no walk; its place is the least index of such a node.
unfoldable pub HasWalk : Table → (v : ℕ) → Type 0
HasWalk t v = (walk : List ℕ) × (is_walk t walk v ≡ true)

unfoldable pub NoWalk : Table → (v : ℕ) → Type 0
NoWalk t v = (walk : List ℕ) → is_walk t walk v ≡ false

pub record FirstWithoutWalk (t : Table) (ws : List ℕ) (place : ℕ) : Type 0 where
  pub wanted : place < length ws
  pub without : NoWalk t (get_or ws place 0)
  pub earlier : (k : ℕ) → k < place → HasWalk t (get_or ws k 0)

unfoldable pub RouteToAll : Type 0
RouteToAll =
    (t : Table) (ws : List ℕ) → is_table t ws ≡ true → (auction t ws).routed ≡ true → (k : ℕ) → k < length ws → HasWalk t (get_or ws k 0)

unfoldable pub NoRoute : Type 0
NoRoute =
    (t : Table) (ws : List ℕ) → is_table t ws ≡ true → (auction t ws).routed ≡ false →
    FirstWithoutWalk t ws (first_missing 0 ws (last_state t ws))

-- The iterations are at most 2(n³ − n)/3 + 3(n − 1), whatever the lengths; and at most (n³ − n)/3 + 3(n − 1), which is sharper.
unfoldable pub FewIterations : Type 0
FewIterations = (t : Table) (ws : List ℕ) → is_table t ws ≡ true → iterations (last_state t ws) ≤ most_iterations t.n

unfoldable pub FewerIterations : Type 0
FewerIterations =
    (t : Table) (ws : List ℕ) → is_table t ws ≡ true →
    iterations (last_state t ws) ≤ (t.n * t.n * t.n - t.n) / 3 + 3 * (t.n - 1)

-- The run ends by itself: at a real stop, and at the same one however much further it could have counted down.
pub record Stopped (t : Table) (ws : List ℕ) : Type 0 where
  pub found : (auction t ws).routed ≡ true → all_reached ws (last_state t ws) ≡ true
  pub stuck : (auction t ws).routed ≡ false → next t (last_state t ws) ≡ none
  pub missing : (auction t ws).routed ≡ false → all_reached ws (last_state t ws) ≡ false
  pub no_cap : (more : ℕ) → run (suc (most_iterations t.n) + more) (all_reached ws) t (start t) ≡ auction t ws

unfoldable pub EndsByItself : Type 0
EndsByItself = (t : Table) (ws : List ℕ) → is_table t ws ≡ true → Stopped t ws

-- The counts are those of the auction: contractions, extensions and deletions add up to the iterations made, each the auction's own step, and none
-- is made after every wanted node has been reached.
pub record Counted (t : Table) (ws : List ℕ) : Type 0 where
  pub steps : after (iterations (last_state t ws)) t ≡ some (last_state t ws)
  pub not_before : (k : ℕ) (x : State) → k < iterations (last_state t ws) → after k t ≡ some x → all_reached ws x ≡ false

unfoldable pub IterationsCounted : Type 0
IterationsCounted = (t : Table) (ws : List ℕ) → is_table t ws ≡ true → Counted t ws

-- THE SECOND DEMAND

-- An arc into v ATTAINS a distance where some walk to its tail and the arc together are that long. So an absent arc attains none: it leaves no node.
pub record Attains (t : Table) (v d i : ℕ) : Type 0 where
  pub listed : i < arc_count t
  pub into : head_at t i ≡ v
  pub walk : List ℕ
  pub to_tail : is_walk t walk (tail_at t i) ≡ true
  pub total : walk_length t walk + length_at t i ≡ d

-- The link of each reached node but the origin attains its distance, and it is the earliest listed of all arcs that do.
pub record Earliest (t : Table) (ws : List ℕ) (v : ℕ) : Type 0 where
  pub attains : Attains t v (distance (last_state t ws) v) (link t ws v)
  pub first : (i : ℕ) → Attains t v (distance (last_state t ws) v) i → link t ws v ≤ i

unfoldable pub EarliestLink : Type 0
EarliestLink =
    (t : Table) (ws : List ℕ) (v : ℕ) → is_table t ws ≡ true → was_reached (last_state t ws) v ≡ true → (v ≡ t.origin → ⊥) → Earliest t ws v

-- MARKS, and how many arcs have each: they add up to the number of arcs, and those of mark 3 are one for each node reached but the origin.
pub record Tallied (arcs nodes : ℕ) (ms : List ℕ) : Type 0 where
  pub all : how_many 0 ms + how_many 1 ms + how_many 2 ms + how_many 3 ms ≡ arcs
  pub tree : suc (how_many 3 ms) ≡ nodes

unfoldable pub MarksTallied : Type 0
MarksTallied =
    (t : Table) (ws : List ℕ) → is_table t ws ≡ true →
    Tallied (arc_count t) (reached_count t (last_state t ws)) (marks t (last_state t ws))

-- OF EVERY STATE OF A RUN

-- A price is never above the least bid.
unfoldable pub NeverAbove : Type 0
NeverAbove =
    (t : Table) (k : ℕ) (x : State) (b : Bid) → is_table t [] ≡ true → after k t ≡ some x → best t (terminal x) x ≡ some b →
    price_at x (terminal x) ≤ b.value

-- A reached node stays reached, at the same distance.
unfoldable pub DistancesStay : Type 0
DistancesStay =
    (t : Table) (k : ℕ) (x y : State) (v : ℕ) → is_table t [] ≡ true → after k t ≡ some x → next t x ≡ some y →
    was_reached x v ≡ true → (was_reached y v ≡ true) × (distance y v ≡ distance x v)

-- Nodes are reached in ascending distance, equals allowed: one that an iteration reaches is at least as far as every node reached before.
unfoldable pub Ascending : Type 0
Ascending =
    (t : Table) (k : ℕ) (x y : State) (u v : ℕ) → is_table t [] ≡ true → after k t ≡ some x → next t x ≡ some y →
    was_reached x u ≡ true → was_reached x v ≡ false → was_reached y v ≡ true → distance y u ≤ distance y v

-- A reached distance is at most (n − 1)(2³² − 1), so it is never 2⁶⁴ − 1; price and bound of a node together are at most n(2³² − 1). So no sum of
-- the run passes 64 bits.
unfoldable pub SmallDistances : Type 0
SmallDistances =
    (t : Table) (k : ℕ) (x : State) (v : ℕ) → is_table t [] ≡ true → after k t ≡ some x → was_reached x v ≡ true →
    (distance x v ≤ (t.n - 1) * longest) × (distance x v < no_distance)

unfoldable pub SmallSums : Type 0
SmallSums =
    (t : Table) (k : ℕ) (x : State) (v d : ℕ) → is_table t [] ≡ true → after k t ≡ some x → bound_at x v ≡ some d →
    price_at x v + d ≤ t.n * longest

-- SCANS

-- Each contraction and each deletion scans, and nothing but an iteration does.
unfoldable pub ScansBetween : Type 0
ScansBetween =
    (t : Table) (k : ℕ) (x : State) → is_table t [] ≡ true → after k t ≡ some x →
    (x.contractions + x.deletions ≤ scans k t) × (scans k t ≤ k)

-- An iteration that does not scan extends the path by the child that its node remembers from its last scan, in state s: that child's bid is still
-- the best.
pub record GoesByMemory (t : Table) (s x : State) : Type 0 where
  pub child : Bid
  pub remembered : best t (terminal x) s ≡ some child
  pub still_best : best t (terminal x) x ≡ some child
  pub extends : next t x ≡ some (extension t (head_at t child.by_arc) x)

unfoldable pub RememberedChild : Type 0
RememberedChild =
    (t : Table) (k : ℕ) (x s : State) → is_table t [] ≡ true → after k t ≡ some x → last_scan t (terminal x) (history k t) ≡ some s →
    scans_now t (terminal x) (some s) x ≡ false → GoesByMemory t s x

-- FOR EVERY TABLE NOT REFUSED

-- Where none of the refusals 1 to 7 applies to columns whose lengths are 32 bits each, the table is one that the promises speak of.
unfoldable pub UnrefusedIsTable : Type 0
UnrefusedIsTable =
    (n o : ℕ) (tails heads lengths wanted : List ℕ) (rooms : List Room) → Below (2 ^ 32) lengths →
    (table_refusal n o tails heads lengths wanted rooms).number ≡ 0 → is_table (table_of n o tails heads lengths) wanted ≡ true

-- And no table that they speak of is refused, where the columns are equally long and every buffer fits.
unfoldable pub TableIsUnrefused : Type 0
TableIsUnrefused =
    (n o : ℕ) (tails heads lengths wanted : List ℕ) (rooms : List Room) → length tails ≡ length heads → length heads ≡ length lengths →
    rooms_fit rooms ≡ true → is_table (table_of n o tails heads lengths) wanted ≡ true →
    table_refusal n o tails heads lengths wanted rooms ≡ no_refusal

-- The greatest number that stands as a length is the greatest of 32 bits: a table's lengths are numbers of 32 bits other than 0, and 2³² is none.
unfoldable pub LongestOf32Bits : Type 0
LongestOf32Bits = longest + 1 ≡ 2 ^ 32

unfoldable pub LengthsOf32Bits : Type 0
LengthsOf32Bits =
    (t : Table) (ws : List ℕ) (i : ℕ) → is_table t ws ≡ true → i < arc_count t → (0 < length_at t i) × (length_at t i < 2 ^ 32)

-- ALL OF THEM together: the one theorem `promised` of proofs/Promised.antt
pub record Promises : Type 0 where
  pub walk_shortest : WalkShortest
  pub walk_given : WalkGiven
  pub prices_fit : PricesFit
  pub prices_show : PricesShow
  pub route_to_all : RouteToAll
  pub no_route : NoRoute
  pub few_iterations : FewIterations
  pub fewer_iterations : FewerIterations
  pub ends_by_itself : EndsByItself
  pub iterations_counted : IterationsCounted
  pub earliest_link : EarliestLink
  pub marks_tallied : MarksTallied
  pub never_above : NeverAbove
  pub distances_stay : DistancesStay
  pub ascending : Ascending
  pub small_distances : SmallDistances
  pub small_sums : SmallSums
  pub scans_between : ScansBetween
  pub remembered_child : RememberedChild
  pub unrefused_is_table : UnrefusedIsTable
  pub table_is_unrefused : TableIsUnrefused
  pub longest_of_32_bits : LongestOf32Bits
  pub lengths_of_32_bits : LengthsOf32Bits

-- The auction with graph reduction, as document 01 states its steps. Assumes nothing: these are definitions.
--
-- In the field's terms: a BOUND is a tentative distance, a KEPT ARC the predecessor arc, REACHING a node is scanning it when its distance is
-- final. Prices are the auction's own here; HandOver.antt has those that are handed over.
use Rattle.std.specs.Prelude.{Bool, true, false, ◌&&◌, ◌||◌, not, cond, List, [], ◌∷◌, ℕ, zero, suc, ◌+◌, ◌*◌, ◌-◌, ◌/◌, ltb, leb, eqb, get_or, set, replicate}
use Rattle.std.proofs.Math.Option.{Option, none, some}
use Rattle.table.specs.Table.{Table, arc_count, tail_at, head_at, length_at}

-- THE STATE: the path, terminal node first; for each node its price, bound, kept arc and status; the three counts
pub record State : Type 0 where
  pub path : List ℕ
  pub price : List ℕ
  pub bound : List (Option ℕ)
  pub kept : List (Option ℕ)
  pub status : List ℕ
  pub contractions : ℕ
  pub extensions : ℕ
  pub deletions : ℕ

unfoldable pub state : (path price : List ℕ) → (bound kept : List (Option ℕ)) → (status : List ℕ) → (c e d : ℕ) → State
state p u b k s c e d =
    record { path = p; price = u; bound = b; kept = k; status = s; contractions = c; extensions = e; deletions = d }

-- a node's status
abbrev pub unreached : ℕ
unreached = 0

abbrev pub reached : ℕ
reached = 1

abbrev pub deleted : ℕ
deleted = 2

unfoldable pub terminal : State → ℕ
terminal x = get_or x.path 0 0

unfoldable pub price_at : State → (v : ℕ) → ℕ
price_at x v = get_or x.price v 0

unfoldable pub bound_at : State → (v : ℕ) → Option ℕ
bound_at x v = get_or x.bound v none

unfoldable pub kept_at : State → (v : ℕ) → Option ℕ
kept_at x v = get_or x.kept v none

unfoldable pub status_at : State → (v : ℕ) → ℕ
status_at x v = get_or x.status v unreached

unfoldable pub or_zero : Option ℕ → ℕ
or_zero none = 0
or_zero (some a) = a

-- the bound's value, which is the distance of a node that has been reached; a deleted node has been reached before
unfoldable pub distance : State → (v : ℕ) → ℕ
distance x v = or_zero (bound_at x v)

unfoldable pub was_reached : State → (v : ℕ) → Bool
was_reached x v = ltb unreached (status_at x v)

unfoldable pub is_deleted : State → (v : ℕ) → Bool
is_deleted x v = eqb (status_at x v) deleted

unfoldable pub iterations : State → ℕ
iterations x = x.contractions + x.extensions + x.deletions

-- REACHING a node: its outgoing arcs in table order. An arc to a reached node is dropped. The arc is kept where the head has no bound, or the
-- arc gives it a smaller one, or an equal one from a lower position.
unfoldable pub improves : (offer position : ℕ) → (bound kept : Option ℕ) → Bool
improves b i none k = true
improves b i (some c) k = ltb b c || (eqb b c && ltb i (or_zero k))

unfoldable pub with_kept : (node position bound : ℕ) → State → State
with_kept j i b x =
    state x.path x.price (set x.bound j (some b)) (set x.kept j (some i)) x.status x.contractions x.extensions x.deletions

unfoldable pub with_status : (node status : ℕ) → State → State
with_status v s x =
    state x.path x.price x.bound x.kept (set x.status v s) x.contractions x.extensions x.deletions

-- whether the arc at a position leaves node v and is to be kept
unfoldable pub takes : Table → (v position : ℕ) → State → Bool
takes t v i x =
    eqb (tail_at t i) v
    && (not (was_reached x (head_at t i)) && improves (distance x v + length_at t i) i (bound_at x (head_at t i)) (kept_at x (head_at t i)))

unfoldable pub offer : Table → (v position : ℕ) → State → State
offer t v i x = cond (takes t v i x) (with_kept (head_at t i) i (distance x v + length_at t i) x) x

-- the arcs at `left` positions from `position` on
unfoldable pub offers : (left position : ℕ) → Table → (v : ℕ) → State → State
offers zero i t v x = x
offers (suc k) i t v x = offers k (suc i) t v (offer t v i x)

unfoldable pub reach : Table → (v : ℕ) → State → State
reach t v x = offers (arc_count t) 0 t v (with_status v reached x)

-- the state before anything is reached, and before the first iteration
unfoldable pub fresh : Table → State
fresh t =
    state (t.origin ∷ []) (replicate t.n 0) (set (replicate t.n none) t.origin (some 0)) (replicate t.n none)
    (replicate t.n unreached) 0 0 0

unfoldable pub start : Table → State
start t = reach t t.origin (fresh t)

-- CHILDREN of a node: the undeleted nodes whose kept arc leaves it. A child's BID is its arc's length plus its price.
pub record Bid : Type 0 where
  pub value : ℕ
  pub by_arc : ℕ

unfoldable pub bid : (value by_arc : ℕ) → Bid
bid b i = record { value = b; by_arc = i }

unfoldable pub is_kept : State → (position : ℕ) → Option ℕ → Bool
is_kept x i none = false
is_kept x i (some k) = eqb k i

-- whether the arc at a position leads from node v to a child of it
unfoldable pub to_child : Table → (v position : ℕ) → State → Bool
to_child t v i x = eqb (tail_at t i) v && (is_kept x i (kept_at x (head_at t i)) && not (is_deleted x (head_at t i)))

-- the least of the bids, the lowest position among equals
unfoldable pub lower_bid : Bid → Option Bid → Bid
lower_bid a none = a
lower_bid a (some b) = cond (leb a.value b.value) a b

unfoldable pub with_bid : (child : Bool) → Bid → Option Bid → Option Bid
with_bid true a later = some (lower_bid a later)
with_bid false a later = later

unfoldable pub best_from : (left position : ℕ) → Table → (v : ℕ) → State → Option Bid
best_from zero i t v x = none
best_from (suc k) i t v x =
    with_bid (to_child t v i x) (bid (length_at t i + price_at x (head_at t i)) i) (best_from k (suc i) t v x)

unfoldable pub best : Table → (v : ℕ) → State → Option Bid
best t v x = best_from (arc_count t) 0 t v x

-- AN ITERATION at the terminal node: a deletion, a contraction or an extension
unfoldable pub without_terminal : List ℕ → List ℕ
without_terminal [] = []
without_terminal (v ∷ vs) = vs

unfoldable pub deletion : (v : ℕ) → State → State
deletion v x =
    state (without_terminal x.path) x.price x.bound x.kept (set x.status v deleted) x.contractions x.extensions
    (suc x.deletions)

-- the origin stays on the path
unfoldable pub contraction : Table → (v value : ℕ) → State → State
contraction t v b x =
    state (cond (eqb v t.origin) x.path (without_terminal x.path)) (set x.price v b) x.bound x.kept x.status
    (suc x.contractions) x.extensions x.deletions

unfoldable pub longer : (child : ℕ) → State → State
longer j x =
    state (j ∷ x.path) x.price x.bound x.kept x.status x.contractions (suc x.extensions) x.deletions

unfoldable pub extension : Table → (child : ℕ) → State → State
extension t j x = cond (was_reached x j) (longer j x) (reach t j (longer j x))

unfoldable pub iteration : Option Bid → Table → (v : ℕ) → State → Option State
iteration none t v x = cond (eqb v t.origin) none (some (deletion v x))
iteration (some b) t v x =
    some (cond (ltb (price_at x v) b.value) (contraction t v b.value x) (extension t (head_at t b.by_arc) x))

-- the state after the next iteration; none where the origin has no children
unfoldable pub next : Table → State → Option State
next t x = iteration (best t (terminal x) x) t (terminal x) x

-- THE RUN ends when `stop` holds, or at the origin without children. It counts down a number that is large enough (Promises.antt: no run of the
-- auction uses it up).
pub record Ended : Type 0 where
  pub routed : Bool
  pub last : State

unfoldable pub ended : (routed : Bool) → State → Ended
ended b x = record { routed = b; last = x }

unfoldable pub go_on : Option State → State → (State → Ended) → Ended
go_on none x f = ended false x
go_on (some y) x f = f y

unfoldable pub run : (left : ℕ) → (stop : State → Bool) → Table → State → Ended
run zero stop t x = ended (stop x) x
run (suc k) stop t x = cond (stop x) (ended true x) (go_on (next t x) x (λ y. run k stop t y))

unfoldable pub all_reached : (wanted : List ℕ) → State → Bool
all_reached [] x = true
all_reached (w ∷ ws) x = was_reached x w && all_reached ws x

-- the cubic bound on iterations
unfoldable pub most_iterations : (n : ℕ) → ℕ
most_iterations n = 2 * (n * n * n - n) / 3 + 3 * (n - 1)

unfoldable pub auction : Table → (wanted : List ℕ) → Ended
auction t ws = run (suc (most_iterations t.n)) (all_reached ws) t (start t)

-- the state after k iterations that nothing stops but an origin without children: the states that every run of the table passes, whatever its
-- wanted list
unfoldable pub then_next : Table → Option State → Option State
then_next t none = none
then_next t (some x) = next t x

unfoldable pub after : (k : ℕ) → Table → Option State
after zero t = some (start t)
after (suc k) t = then_next t (after k t)

-- THE SCANS of a run: the iterations that look at a node's children afresh. The others go by the child that the node remembers from its last scan.
-- Assumes nothing: these are definitions.
use Rattle.std.specs.Prelude.{Bool, true, ◌&&◌, not, cond, List, [], ◌∷◌, ℕ, zero, suc, ◌+◌, eqb}
use Rattle.std.proofs.Math.Option.{Option, none, some}
use Rattle.table.specs.Table.{Table, arc_count, head_at}
use Rattle.auction.specs.Auction.{State, Bid, terminal, price_at, to_child, best, after}

-- whether the same arcs lead to children of node v in two states
unfoldable pub same_at : Table → (v position : ℕ) → (s x : State) → Bool
same_at t v i s x = cond (to_child t v i s) (to_child t v i x) (not (to_child t v i x))

unfoldable pub same_children_from : (left position : ℕ) → Table → (v : ℕ) → (s x : State) → Bool
same_children_from zero i t v s x = true
same_children_from (suc k) i t v s x = same_at t v i s x && same_children_from k (suc i) t v s x

unfoldable pub same_children : Table → (v : ℕ) → (s x : State) → Bool
same_children t v s x = same_children_from (arc_count t) 0 t v s x

-- whether the child whose bid this is has the same price in two states
unfoldable pub same_price : Table → Option Bid → (s x : State) → Bool
same_price t none s x = true
same_price t (some b) s x = eqb (price_at s (head_at t b.by_arc)) (price_at x (head_at t b.by_arc))

-- WHETHER NODE V SCANS in state x: it never has, or since its last scan, in state s, its children have changed, or the price of the child that it
-- remembers, which is the one whose bid was the best
unfoldable pub scans_now : Table → (v : ℕ) → (last_scan : Option State) → State → Bool
scans_now t v none x = true
scans_now t v (some s) x = not (same_children t v s x && same_price t (best t v s) s x)

-- THE HISTORY of the first k iterations: the states that they begin in, the latest first
unfoldable pub and_earlier : Option State → List State → List State
and_earlier none xs = xs
and_earlier (some x) xs = x ∷ xs

unfoldable pub history : (k : ℕ) → Table → List State
history zero t = []
history (suc k) t = and_earlier (after k t) (history k t)

-- the state of a node's last scan, none before its first
unfoldable pub or_now : Table → (v : ℕ) → State → (last_scan : Option State) → Option State
or_now t v x s = cond (eqb (terminal x) v && scans_now t v s x) (some x) s

unfoldable pub last_scan : Table → (v : ℕ) → (history : List State) → Option State
last_scan t v [] = none
last_scan t v (x ∷ xs) = or_now t v x (last_scan t v xs)

-- THE SCANS among these iterations, each at its terminal node
unfoldable pub scan_count : Table → (history : List State) → ℕ
scan_count t [] = 0
scan_count t (x ∷ xs) = cond (scans_now t (terminal x) (last_scan t (terminal x) xs) x) 1 0 + scan_count t xs

unfoldable pub scans : (k : ℕ) → Table → ℕ
scans k t = scan_count t (history k t)

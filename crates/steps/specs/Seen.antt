-- Which state of the auction a run's path and nodes hold. Assumes nothing: these are definitions.
use Rattle.std.specs.Prelude.{cond, List, [], ◌∷◌, map, ℕ, zero, suc, ◌+◌, ◌*◌, eqb, get_or, take}
use Rattle.std.proofs.Math.Option.{Option, none, some}
use Rattle.table.specs.Table.{no_arc, no_distance, most_nodes, longest}
use Rattle.auction.specs.Auction.{State, state, unreached, reached, deleted}
use Rattle.steps.specs.declared.state.Status.{Status}
use Rattle.steps.specs.declared.state.Status.TheVariants.{Unreached, Reached, Deleted}
use Rattle.steps.specs.declared.state.Node.{Node}
use Rattle.steps.specs.declared.state.Progress.{Progress}
use Rattle.steps.specs.declared.state.RunState.{RunState}

-- a status as the auction has it
abbrev pub status_number : Status → ℕ
status_number Unreached = unreached
status_number Reached = reached
status_number Deleted = deleted

-- a number that stands for a bound, and for a kept arc; one that stands for none
unfoldable pub bound_of : ℕ → Option ℕ
bound_of b = cond (eqb b no_distance) none (some b)

unfoldable pub arc_of : ℕ → Option ℕ
arc_of k = cond (eqb k no_arc) none (some k)

-- THE COLUMNS of the nodes: the prices, bounds, kept arcs, remembered children and statuses, as numbers
abbrev pub prices_in : List Node → List ℕ
prices_in ns = map (λ n. n.price) ns

abbrev pub bounds_in : List Node → List ℕ
bounds_in ns = map (λ n. n.bound) ns

abbrev pub kepts_in : List Node → List ℕ
kepts_in ns = map (λ n. n.kept) ns

abbrev pub memory_in : List Node → List ℕ
memory_in ns = map (λ n. n.remembered) ns

abbrev pub statuses_in : List Node → List ℕ
statuses_in ns = map (λ n. status_number n.status) ns

-- the first `depth` entries of the path's array, the last of them first
unfoldable pub nodes_of : (depth : ℕ) → (path : List ℕ) → List ℕ
nodes_of zero p = []
nodes_of (suc k) p = get_or p k 0 ∷ nodes_of k p

-- the state that a path and such columns hold, with the progress
unfoldable pub seen : (path price bound kept status : List ℕ) → Progress → State
seen p u b k s g =
    state (nodes_of g.depth p) u (map bound_of b) (map arc_of k) s g.contractions g.extensions g.deletions

-- A PATH AND NODES with the progress are the code's own struct, RunState, here of lists of any length
abbrev pub run_of : (path : List ℕ) → (nodes : List Node) → Progress → RunState
run_of p ns g = record { path = p; nodes = ns; progress = g }

-- their first n entries
abbrev pub first_of : (n : ℕ) → RunState → RunState
first_of n r = run_of (take n r.path) (take n r.nodes) r.progress

-- THE STATE that they hold
abbrev pub held : RunState → State
held r = seen r.path (prices_in r.nodes) (bounds_in r.nodes) (kepts_in r.nodes) (statuses_in r.nodes) r.progress

-- HOW MANY ITERATIONS have been made: each is a contraction, an extension or a deletion
abbrev pub iterations_in : Progress → ℕ
iterations_in g = g.contractions + g.extensions + g.deletions

-- no price and no distance of a run is greater
abbrev pub greatest_sum : ℕ
greatest_sum = most_nodes * longest

-- no run makes so many iterations
abbrev pub too_many : ℕ
too_many = 4294967296

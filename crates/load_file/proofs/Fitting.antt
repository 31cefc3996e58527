-- Good arcs and all nodes fit a link file. Assumes nothing.
use mathlib.Core.Path.{◌≡◌, refl}
use mathlib.Core.Bool.{true, ◌&&◌}
use mathlib.Core.List.{List, [], ◌∷◌}
use Prim.Native.Nat.{ℕ, zero, suc, ◌+◌, ◌≤◌, ◌<◌}
use native.Mathlib.Omega.{arith}
use lib.Dec.{ltb, leb}
use borrow.Author.Tests.{lt-ltb, ltb-true, leb-true}
use Rattle.std.proofs.lemmas.Bool.{and_parts}
use Rattle.table.specs.Table.{Arc, arc_good, arcs_good, nodes_below, Below, longest}
use Rattle.link_format.specs.Format.{count_up}
use Rattle.link_format.specs.Promises.{SmallArcs}

-- good arcs fit the columns
pub small : (n : ℕ) (arcs : List Arc) → n ≤ 65536 → arcs_good n arcs ≡ true → SmallArcs arcs
unfolding arcs_good arc_good SmallArcs
small n [] few e = tt
small n (a ∷ more) few e =
    let here = and_parts (arc_good n a) (arcs_good n more) e in
    let parts = and_parts (ltb a.tail n && ltb a.head n) (leb 1 a.arc_length && leb a.arc_length longest) here.0 in
    let nodes = and_parts (ltb a.tail n) (ltb a.head n) parts.0 in
    let long = and_parts (leb 1 a.arc_length) (leb a.arc_length longest) parts.1 in
    let tail = ltb-true a.tail n nodes.0 in
    let head = ltb-true a.head n nodes.1 in
    let most = leb-true a.arc_length longest long.1 in
    (record { tail_fits = omega arith; head_fits = omega arith; length_fits = omega arith }, small n more few here.1)

-- ALL NODES
pub all_below : (n i k : ℕ) → i + k ≤ n → nodes_below n (count_up i k) ≡ true
unfolding nodes_below count_up
all_below n i zero fits = refl
all_below n i (suc k) fits = rw (lt-ltb i n (omega arith)) (all_below n (suc i) k (omega arith))

pub all_fit : (b i k : ℕ) → 0 < b → i + k ≤ b → Below b (count_up i k)
unfolding Below count_up
all_fit b i zero some fits j = some
all_fit b i (suc k) some fits zero = omega arith
all_fit b i (suc k) some fits (suc j) = all_fit b (suc i) k some (omega arith) j

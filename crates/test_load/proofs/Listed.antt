-- The arcs of a load: each lies between two nodes and has a length in range, and they rise by tail and then by head. Assumes nothing.
use Prim.Native.Nat.{ℕ, ◌+◌, ◌%◌, ◌<◌, ◌≤◌}
use native.Mathlib.Omega.{arith}
use lib.ListN.{length}
use Rattle.std.specs.List.{All}
use Rattle.std.proofs.lemmas.Nat.{mod_below}
use Rattle.table.specs.Table.{Arc, arc}
use Rattle.test_load.specs.Load.{Pair, pair, pairs, load}
use Rattle.test_load.specs.Promises.{ends, nth, Listed}
use Rattle.test_load.proofs.Rising.{rising_at}
use Rattle.test_load.proofs.Pairs.{Between, Before, pairs_between, pairs_rise}
use Rattle.test_load.proofs.Drawing.{drawn_all, drawn_rise}

pub record InLoad (n largest : ℕ) (a : Arc) : Type 0 where
  pub between : Between n (ends a)
  pub some_length : 1 ≤ a.arc_length
  pub no_longer : a.arc_length ≤ largest

-- an arc is a pair's, and what is left of a division by the largest length is below it
in_load : (n l : ℕ) → 0 < l → (p : Pair) (e : ℕ) → Between n p → InLoad n l (arc p.tail p.head (1 + e % l))
unfolding ends arc pair
in_load n l positive p e b = record { between = b; some_length = omega arith; no_longer = omega (arith, mod_below e l positive) }

module _ (n seed c l : ℕ) (positive : 0 < l) where
  pub all_in_load : All (InLoad n l) (load n seed c l)
  unfolding load
  all_in_load = drawn_all c l (Between n) (InLoad n l) (in_load n l positive) (pairs n) seed (pairs_between n)

  at : (i : ℕ) → i < length (load n seed c l) → InLoad n l (nth (load n seed c l) i)
  unfolding nth
  at i h = all_in_load i (arc 0 0 0) h

  before : (i j : ℕ) → i < j → j < length (load n seed c l) → Before (ends (nth (load n seed c l) i)) (ends (nth (load n seed c l) j))
  unfolding load nth
  before i j h low = rising_at (λ a b. Before (ends a) (ends b)) (load n seed c l) (arc 0 0 0) i j (drawn_rise c l Before (pairs n) seed (pairs_rise n)) h low

  pub listed : Listed n l (load n seed c l)
  unfolding ends pair
  listed =
      record {
        tail_below = λ i h. (at i h).between.tail_below;
        head_below = λ i h. (at i h).between.head_below;
        no_loop = λ i h. (at i h).between.no_loop;
        no_pair_twice = λ i j h low t e. omega (arith, (before i j h low).by_head t, e);
        by_tail = λ i j h low. (before i j h low).by_tail;
        by_head = λ i j h low. (before i j h low).by_head;
        some_length = λ i h. (at i h).some_length;
        no_longer = λ i h. (at i h).no_longer;
      }

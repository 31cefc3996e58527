-- The list of all nodes, ascending. Assumes nothing.
use mathlib.Core.Bool.{true}
use mathlib.Core.List.{List, [], ◌∷◌}
use mathlib.Core.Path.{◌≡◌, refl, ap, ◌∙◌}
use Prim.Native.Nat.{ℕ, zero, suc}
use lib.Dec.{eqb}
use lib.ListN.{length}
use borrow.Author.Tests.{eq-eqb, eqb-true}
use Rattle.std.proofs.lemmas.Bool.{and_parts}
use Rattle.link_format.specs.Format.{count_up, counts_from, all_nodes}

-- the list of all nodes is all nodes
pub length_count_up : (i k : ℕ) → length (count_up i k) ≡ k
unfolding count_up
length_count_up i zero = refl
length_count_up i (suc k) = ap suc (length_count_up (suc i) k)

counts_count_up : (i k : ℕ) → counts_from i (count_up i k) ≡ true
unfolding count_up counts_from
counts_count_up i zero = refl
counts_count_up i (suc k) = rw (eq-eqb i i refl) (counts_count_up (suc i) k)

pub all_count_up : (n : ℕ) → all_nodes n (count_up 0 n) ≡ true
unfolding all_nodes
all_count_up n = rw (eq-eqb (length (count_up 0 n)) n (length_count_up 0 n)) (counts_count_up 0 n)

-- a list that is all nodes is the list of all nodes
counts_up : (i : ℕ) (ws : List ℕ) → counts_from i ws ≡ true → ws ≡ count_up i (length ws)
unfolding counts_from count_up
counts_up i [] e = refl
counts_up i (w ∷ ws) e =
    let here_is : w ≡ i = eqb-true w i (and_parts (eqb w i) (counts_from (suc i) ws) e).0 in
    let more : ws ≡ count_up (suc i) (length ws) = counts_up (suc i) ws (and_parts (eqb w i) (counts_from (suc i) ws) e).1 in
    rw here_is (ap (λ (l : List ℕ). i ∷ l) more)

pub all_nodes_are : (n : ℕ) (ws : List ℕ) → all_nodes n ws ≡ true → ws ≡ count_up 0 n
unfolding all_nodes
all_nodes_are n ws e =
    let size : length ws ≡ n = eqb-true (length ws) n (and_parts (eqb (length ws) n) (counts_from 0 ws) e).0 in
    counts_up 0 ws (and_parts (eqb (length ws) n) (counts_from 0 ws) e).1 ∙ rw size

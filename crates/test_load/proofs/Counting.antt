-- How many pairs n nodes have, n (n - 1), and how many arcs a load has: no more than there are pairs. Assumes nothing.
use mathlib.Core.Path.{◌≡◌, refl, ap}
use mathlib.Core.List.{List, [], ◌∷◌}
use mathlib.Core.Logic.{⊎_elim}
use Prim.Native.Nat.{ℕ, zero, suc, ◌+◌, ◌-◌, ◌*◌, ◌/◌, ◌≤◌, ◌<◌}
use native.Mathlib.Omega.{arith}
use native.Mathlib.Nat.{mul-le-mul_left}
use lib.Dec.{ltb}
use lib.ListN.{length, length-append}
use borrow.Author.Tests.{eq-eqb, ne_eqb}
use Rattle.std.proofs.lemmas.Bool.{cases_eq, cond_both}
use Rattle.table.specs.Table.{Arc}
use Rattle.test_load.specs.Load.{Pair, pairs_of, pairs_from, pairs, draw, drawn, load}

-- THE PAIRS OF A TAIL: one for each head above it,
count_above : (t h k : ℕ) → t < h → length (pairs_of t h k) ≡ k
unfolding pairs_of
count_above t h zero low = refl
count_above t h (suc k) low = rw (ne_eqb h t (λ e. omega (arith, e))) (ap suc (count_above t (suc h) k (omega arith)))

-- and one less than there are heads where the tail is one of them
count_of : (t h k : ℕ) → h ≤ t → t < h + k → suc (length (pairs_of t h k)) ≡ k
unfolding pairs_of
count_of t h zero low in_it = absurd (omega arith)
count_of t h (suc k) low in_it =
    ⊎_elim
    (λ (e : h ≡ t). rw (eq-eqb h t e) (ap suc (count_above t (suc h) k (omega arith))))
    (λ (d : h ≡ t → ⊥). rw (ne_eqb h t d) (ap suc (count_of t (suc h) k (omega arith) (omega arith))))
    (cases_eq h t)

-- THE PAIRS of so many tails, where each is one of suc m nodes
count_from : (m t k : ℕ) → t + k ≤ suc m → length (pairs_from (suc m) t k) ≡ k * m
unfolding pairs_from
count_from m t zero low = omega arith
count_from m t (suc k) low =
    rw (length-append) (omega (arith, count_of t 0 (suc m) (omega arith) (omega arith), count_from m (suc t) k (omega arith)))

pub pairs_count : (n : ℕ) → length (pairs n) ≡ n * (n - 1)
unfolding pairs pairs_from
pairs_count zero = refl
pairs_count (suc m) = let one_less : suc m - 1 ≡ m = omega arith in rw one_less (count_from m 0 (suc m) (omega arith))

-- THE ARCS
pub few_drawn : (c l : ℕ) (ps : List Pair) (s : ℕ) → length (drawn c l ps s) ≤ length ps
unfolding drawn
few_drawn c l [] s = omega arith
few_drawn c l (p ∷ more) s =
    cond_both (ltb (draw s / 65536) c) _ _ (λ (arcs : List Arc). length arcs ≤ length (p ∷ more))
    (λ taken. omega (arith, few_drawn c l more (draw (draw s))))
    (λ passed. omega (arith, few_drawn c l more (draw s)))

pub few_arcs : (n seed c l : ℕ) → length (load n seed c l) ≤ n * n
unfolding load
few_arcs n seed c l =
    let no_more : n * (n - 1) ≤ n * n = mul-le-mul_left n (omega arith) in
    omega (arith, few_drawn c l (pairs n) seed, pairs_count n)

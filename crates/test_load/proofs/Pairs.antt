-- The pairs of n nodes: their ends are nodes that differ, and they come by tail and then by head. Assumes nothing.
use mathlib.Core.Path.{◌≡◌, refl, sym}
use mathlib.Core.Logic.{⊎_elim}
use Prim.Native.Nat.{ℕ, zero, suc, ◌+◌, ◌≤◌, ◌<◌}
use native.Mathlib.Omega.{arith}
use borrow.Author.Tests.{eq-eqb, ne_eqb}
use Rattle.std.specs.List.{All}
use Rattle.std.proofs.lemmas.Bool.{cases_eq}
use Rattle.std.proofs.lemmas.List.Elements.{All-nil, All-cons, All-append, All-weaker}
use Rattle.test_load.specs.Load.{Pair, pair, pairs_of, pairs_from, pairs}
use Rattle.test_load.proofs.Rising.{Rising, rising_append}

-- A pair of two nodes
pub record Between (n : ℕ) (p : Pair) : Type 0 where
  pub tail_below : p.tail < n
  pub head_below : p.head < n
  pub no_loop : p.tail ≡ p.head → ⊥

-- One pair before another, so that they are not the same
pub record Before (p q : Pair) : Type 0 where
  pub by_tail : p.tail ≤ q.tail
  pub by_head : p.tail ≡ q.tail → p.head < q.head

-- THE PAIRS OF A TAIL
record FromTail (t h k : ℕ) (p : Pair) : Type 0 where
  tail_is : p.tail ≡ t
  no_sooner : h ≤ p.head
  head_below : p.head < h + k
  no_loop : p.tail ≡ p.head → ⊥

of_tail : (t h k : ℕ) → All (FromTail t h k) (pairs_of t h k)
unfolding pairs_of pair
of_tail t h zero = All-nil (FromTail t h zero)
of_tail t h (suc k) =
    let rest : All (FromTail t h (suc k)) (pairs_of t (suc h) k) =
    All-weaker (FromTail t (suc h) k) (FromTail t h (suc k))
    (λ p f. record { tail_is = f.tail_is; no_sooner = omega (arith, f.no_sooner); head_below = omega (arith, f.head_below); no_loop = f.no_loop })
    (pairs_of t (suc h) k) (of_tail t (suc h) k) in
    ⊎_elim
    (λ (e : h ≡ t). rw (eq-eqb h t e) rest)
    (λ (d : h ≡ t → ⊥).
    rw (ne_eqb h t d)
    (All-cons (FromTail t h (suc k)) (pair t h) (pairs_of t (suc h) k)
    (record { tail_is = refl; no_sooner = omega arith; head_below = omega arith; no_loop = λ e. d (sym e) }) rest))
    (cases_eq h t)

of_tail_rise : (t h k : ℕ) → Rising Before (pairs_of t h k)
unfolding pairs_of pair
of_tail_rise t h zero = tt
of_tail_rise t h (suc k) =
    ⊎_elim
    (λ (e : h ≡ t). rw (eq-eqb h t e) (of_tail_rise t (suc h) k))
    (λ (d : h ≡ t → ⊥).
    rw (ne_eqb h t d) (
      All-weaker (FromTail t (suc h) k) (Before (pair t h))
          (λ p f. record { by_tail = omega (arith, f.tail_is); by_head = λ e. omega (arith, f.no_sooner) })
          (pairs_of t (suc h) k) (of_tail t (suc h) k),
      of_tail_rise t (suc h) k,
    ))
    (cases_eq h t)

-- THE PAIRS of so many tails
record FromTails (n t k : ℕ) (p : Pair) : Type 0 where
  no_sooner : t ≤ p.tail
  tail_below : p.tail < t + k
  head_below : p.head < n
  no_loop : p.tail ≡ p.head → ⊥

of_tails : (n t k : ℕ) → All (FromTails n t k) (pairs_from n t k)
unfolding pairs_from
of_tails n t zero = All-nil (FromTails n t zero)
of_tails n t (suc k) =
    All-append (FromTails n t (suc k)) (pairs_of t 0 n) (pairs_from n (suc t) k)
    (All-weaker (FromTail t 0 n) (FromTails n t (suc k))
    (λ p f.
    record {
      no_sooner = omega (arith, f.tail_is);
      tail_below = omega (arith, f.tail_is);
      head_below = omega (arith, f.head_below);
      no_loop = f.no_loop;
    })
    (pairs_of t 0 n) (of_tail t 0 n))
    (All-weaker (FromTails n (suc t) k) (FromTails n t (suc k))
    (λ p f.
    record {
      no_sooner = omega (arith, f.no_sooner);
      tail_below = omega (arith, f.tail_below);
      head_below = f.head_below;
      no_loop = f.no_loop;
    })
    (pairs_from n (suc t) k) (of_tails n (suc t) k))

of_tails_rise : (n t k : ℕ) → Rising Before (pairs_from n t k)
unfolding pairs_from
of_tails_rise n t zero = tt
of_tails_rise n t (suc k) =
    rising_append Before (pairs_of t 0 n) (pairs_from n (suc t) k) (of_tail_rise t 0 n) (of_tails_rise n (suc t) k)
    (All-weaker (FromTail t 0 n) (λ p. All (Before p) (pairs_from n (suc t) k))
    (λ p f.
    All-weaker (FromTails n (suc t) k) (Before p)
    (λ q g.
    record {
      by_tail = omega (arith, f.tail_is, g.no_sooner);
      by_head = λ e. absurd (omega (arith, e, f.tail_is, g.no_sooner));
    })
    (pairs_from n (suc t) k) (of_tails n (suc t) k))
    (pairs_of t 0 n) (of_tail t 0 n))

-- ALL PAIRS
pub pairs_between : (n : ℕ) → All (Between n) (pairs n)
unfolding pairs
pairs_between n =
    All-weaker (FromTails n 0 n) (Between n)
    (λ p f. record { tail_below = omega (arith, f.tail_below); head_below = f.head_below; no_loop = f.no_loop })
    (pairs_from n 0 n) (of_tails n 0 n)

pub pairs_rise : (n : ℕ) → Rising Before (pairs n)
unfolding pairs
pairs_rise n = of_tails_rise n 0 n

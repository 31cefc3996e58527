-- What is left of a load, turn by turn: of its pairs, as the two ranges go on, and of its arcs. Assumes nothing.
use mathlib.Core.Path.{◌≡◌, refl, sym, ap, ◌∙◌}
use mathlib.Core.List.{List, [], ◌∷◌}
use Prim.Native.Nat.{ℕ, suc, ◌+◌, ◌-◌, ◌/◌, ◌%◌, ◌<◌, ◌≤◌}
use native.Mathlib.Numerals.{add-one, unary_clauses}
use native.Mathlib.Omega.{arith}
use lib.ListN.{length}
use borrow.Author.Tests.{eq-eqb, ne_eqb, lt-ltb, le-ltb}
use Rattle.std.specs.Prelude.{Some, None}
use Rattle.std.specs.declared.ops.Range.{Range}
use Rattle.std.specs.Iterator.{MakesProgress, item_count}
use Rattle.std.proofs.iter.Yields.{nat_range_steps}
use Rattle.table.specs.Table.{arc}
use Rattle.test_load.specs.Load.{Pair, pair, pairs_of, pairs_from, draw, drawn}
use Rattle.load_maker.specs.Left.{pairs_left}
use Rattle.load_maker.specs.declared.pairs.Pairs.{Pairs}

-- so many are left, one of them first
one_more : (start end : ℕ) → 0 < end - start → end - start ≡ suc (end - (start + 1))
one_more start end h = omega (arith, h)

-- THE PAIRS
module _ (p : Pairs) where
  -- with other ranges, and another tail
  abbrev pub with_heads : Range ℕ → Pairs
  with_heads heads = record { n = p.n; tail = p.tail; heads = heads; tails = p.tails }

  abbrev pub with_tail : (t : ℕ) (heads tails : Range ℕ) → Pairs
  with_tail t heads tails = record { n = p.n; tail = t; heads = heads; tails = tails }

  module _ (x : ℕ) (heads : Range ℕ) (steps : nat_range_steps p.heads (Some x) heads) where
    -- a head that is the tail makes no pair
    pub own : x ≡ p.tail → pairs_left (with_heads heads) ≡ pairs_left p
    unfolding pairs_of
    own e =
        let start = steps.1.1 in
        rw (one_more p.heads.start p.heads.end steps.1.0, steps.0, steps.1.2, add-one p.heads.start, eq-eqb p.heads.start p.tail (sym start ∙ e)) refl

    -- and another one does
    pub other : (x ≡ p.tail → ⊥) → pairs_left p ≡ pair p.tail x ∷ pairs_left (with_heads heads)
    unfolding pairs_of
    other d =
        let start = steps.1.1 in
        rw (one_more p.heads.start p.heads.end steps.1.0, steps.0, steps.1.2, add-one p.heads.start, ne_eqb p.heads.start p.tail (λ e. d (start ∙ e)), start) refl

  module _ (heads : Range ℕ) (no_head : nat_range_steps p.heads None heads) where
    -- no head is left, and the next tail has them all
    pub next_tail : (t : ℕ) (tails : Range ℕ) → nat_range_steps p.tails (Some t) tails →
        pairs_left (with_tail t (record { start = 0; end = p.n }) tails) ≡ pairs_left p
    unfolding pairs_of pairs_from
    next_tail t tails steps =
        let start = steps.1.1 in
        rw (no_head.1.0, one_more p.tails.start p.tails.end steps.1.0, steps.0, steps.1.2, add-one p.tails.start, start) (simp unary_clauses refl)

    -- no tail is left either
    pub none_left : (tails : Range ℕ) → nat_range_steps p.tails None tails → (pairs_left p ≡ []) × (pairs_left (with_tail p.tail heads tails) ≡ [])
    unfolding pairs_of pairs_from
    none_left tails no_tail = rw (no_head.1.0, no_head.0, no_head.1.1, no_tail.1.0, no_tail.0, no_tail.1.1) (refl, rw (no_head.1.0, no_tail.1.0) refl)

-- where an item is the first of what is left, fewer are left after it
pub goes : {S A B : Type 0} {can : S → Type 0} (rest : S → List B) {s t : S} {x : A} {y : B} → can t → rest s ≡ y ∷ rest t →
    MakesProgress can (item_count rest) s (Some x) t
goes rest may first = record { on = λ f. (may, f, omega (arith, ap length first)); keeps = may; rests = λ f. tt }

-- THE ARCS of the pairs that are left: there is no pair, or the first one has an arc, or it has none
module _ (c l : ℕ) (left : List Pair) (s : ℕ) where
  pub no_pair : left ≡ [] → drawn c l left s ≡ []
  unfolding drawn
  no_pair e = rw e refl

  module _ (p : Pair) (more : List Pair) (first : left ≡ p ∷ more) (d : ℕ) (next : d ≡ draw s) where
    pub taken : d / 65536 < c → (e : ℕ) → e ≡ draw d → drawn c l left s ≡ arc p.tail p.head (1 + e % l) ∷ drawn c l more e
    unfolding drawn
    taken below e then = rw (first, then, next, lt-ltb (draw s / 65536) c (rw next at below)) refl

    pub passed : c ≤ d / 65536 → drawn c l left s ≡ drawn c l more d
    unfolding drawn
    passed above = rw (first, next, le-ltb (draw s / 65536) c (rw next at above)) refl

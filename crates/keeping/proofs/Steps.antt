-- A step counts with the shortest arc between its two nodes: some arc between them is that long, and none is shorter. Assumes nothing.
use mathlib.Core.Path.{◌≡◌, refl, ap, ◌∙◌}
use mathlib.Core.Bool.{true, false, ◌&&◌}
use mathlib.Core.Logic.{◌⊎◌, inl, inr, ⊎_elim}
use mathlib.Core.Option.{Option, none, some}
use Prim.Native.Nat.{ℕ, zero, suc, ◌+◌, ◌≤◌, ◌<◌}
use native.Mathlib.Omega.{arith}
use lib.Dec.{leb, eqb}
use borrow.Author.Tests.{eqb-true, eq-eqb, leb-true, leb-false}
use Rattle.std.proofs.lemmas.Bool.{and_parts, cases_Bool, cases_eq}
use Rattle.table.specs.Table.{Table, arc_count, tail_at, head_at, length_at}
use Rattle.table.proofs.Basics.{some_none, some_same}
use Rattle.keeping.specs.Keeping.{lesser, between, shortest_from, step_length}

-- an optional number is there and no greater
abbrev pub AtMost : Option ℕ → (b : ℕ) → Type 0
AtMost o b = (d : ℕ) × (o ≡ some d) × (d ≤ b)

-- the lesser of two lengths is one of them, and no greater than either
one_of : (a b : Option ℕ) (d : ℕ) → lesser a b ≡ some d → (a ≡ some d) ⊎ (b ≡ some d)
unfolding lesser
one_of none b d e = inr e
one_of (some a) none d e = inl e
one_of (some a) (some b) d e =
    ⊎_elim (λ (h : leb a b ≡ true). inl (rw h at e)) (λ (h : leb a b ≡ false). inr (rw h at e)) (cases_Bool (leb a b))

lesser_first : (a : ℕ) (b : Option ℕ) → AtMost (lesser (some a) b) a
unfolding lesser
lesser_first a none = (a, refl, omega arith)
lesser_first a (some b) =
    ⊎_elim (λ (h : leb a b ≡ true). (a, rw h refl, omega arith)) (λ (h : leb a b ≡ false). (b, rw h refl, omega (arith, leb-false a b h)))
    (cases_Bool (leb a b))

lesser_second : (a : Option ℕ) (b : ℕ) → AtMost (lesser a (some b)) b
unfolding lesser
lesser_second none b = (b, refl, omega arith)
lesser_second (some a) b =
    ⊎_elim (λ (h : leb a b ≡ true). (a, rw h refl, leb-true a b h)) (λ (h : leb a b ≡ false). (b, rw h refl, omega arith)) (cases_Bool (leb a b))

module _ (t : Table) (u v : ℕ) where
  -- an arc from u to v that is so long
  pub record Joins (d i : ℕ) : Type 0 where
    pub leaves : tail_at t i ≡ u
    pub into : head_at t i ≡ v
    pub long : length_at t i ≡ d

  joined : (d i : ℕ) → Joins d i → between t u v i ≡ some d
  unfolding between
  joined d i j = rw (eq-eqb (tail_at t i) u j.leaves, eq-eqb (head_at t i) v j.into) (ap some j.long)

  joins : (d i : ℕ) → between t u v i ≡ some d → Joins d i
  unfolding between
  joins d i e =
      ⊎_elim
      (λ (h : (eqb (tail_at t i) u && eqb (head_at t i) v) ≡ true).
      let p = and_parts (eqb (tail_at t i) u) (eqb (head_at t i) v) h in
      record { leaves = eqb-true (tail_at t i) u p.0; into = eqb-true (head_at t i) v p.1; long = some_same refl (rw h at e) })
      (λ (h : (eqb (tail_at t i) u && eqb (head_at t i) v) ≡ false). absurd (some_none e (rw h refl)))
      (cases_Bool (eqb (tail_at t i) u && eqb (head_at t i) v))

  found : (k i d : ℕ) → shortest_from k i t u v ≡ some d → (j : ℕ) × (j < i + k) × Joins d j
  unfolding shortest_from
  found zero i d e = absurd (some_none e refl)
  found (suc k) i d e =
      ⊎_elim (λ (h : between t u v i ≡ some d). (i, omega arith, joins d i h))
      (λ (h : shortest_from k (suc i) t u v ≡ some d). let r = found k (suc i) d h in (r.0, omega (arith, r.1), r.2))
      (one_of (between t u v i) (shortest_from k (suc i) t u v) d e)

  no_shorter : (k i j d : ℕ) → i ≤ j → j < i + k → Joins d j → AtMost (shortest_from k i t u v) d
  unfolding shortest_from
  no_shorter zero i j d low high x = absurd (omega arith)
  no_shorter (suc k) i j d low high x =
      ⊎_elim
      (λ (s : i ≡ j). rw (ap (between t u v) s ∙ joined d j x) (lesser_first d (shortest_from k (suc i) t u v)))
      (λ (s : i ≡ j → ⊥).
      let r = no_shorter k (suc i) j d (omega arith) (omega arith) x in
      let m = lesser_second (between t u v i) r.0 in
      (m.0, rw r.1 m.1, omega (arith, m.2, r.2)))
      (cases_eq i j)

  -- THE STEP
  pub step_arc : (d : ℕ) → step_length t u v ≡ some d → (j : ℕ) × (j < arc_count t) × Joins d j
  unfolding step_length
  step_arc d e = let r = found (arc_count t) 0 d e in (r.0, omega (arith, r.1), r.2)

  pub step_least : (j d : ℕ) → j < arc_count t → Joins d j → AtMost (step_length t u v) d
  unfolding step_length
  step_least j d h x = no_shorter (arc_count t) 0 j d (omega arith) (omega (arith, h)) x

-- When an arc is kept and when it is dropped, as facts. Assumes nothing.
use mathlib.Core.Path.{◌≡◌, refl, sym, ap, subst}
use mathlib.Core.Bool.{Bool, true, false, ◌&&◌, not}
use mathlib.Core.Logic.{◌⊎◌, inl, inr, ⊎_elim}
use mathlib.Core.Option.{Option, none, some}
use Prim.Native.Nat.{ℕ, ◌+◌, ◌≤◌, ◌<◌}
use lib.Dec.{ltb, eqb}
use borrow.Author.Tests.{ltb-true, ltb-false, eqb-true, eq-eqb, not-true, both_ways}
use Rattle.std.proofs.lemmas.Bool.{and_parts, cases_Bool, or_cases, or_parts}
use Rattle.table.specs.Table.{Table, tail_at, head_at, length_at}
use Rattle.auction.specs.Auction.{State, bound_at, kept_at, status_at, distance, or_zero, was_reached, improves, takes, unreached}
use Rattle.table.proofs.Basics.{option_or}
use Rattle.auction.proofs.Steps.Effects.{reached_status, unreached_status}

both_false : (a b : Bool) → (a && b) ≡ false → a ≡ true → b ≡ false
both_false a b e h = subst (λ (c : Bool). (c && b) ≡ false) h e

-- an offer b at position i is smaller than the bound c, or equal from a lower position than the kept arc's
better : (b i c : ℕ) (k : Option ℕ) → improves b i (some c) k ≡ true → (b < c) ⊎ ((b ≡ c) × (i < or_zero k))
unfolding improves
better b i c k e =
    ⊎_elim (λ (h : ltb b c ≡ true). inl (ltb-true b c h))
    (λ (h : (eqb b c && ltb i (or_zero k)) ≡ true).
    let p = and_parts (eqb b c) (ltb i (or_zero k)) h in
    inr (eqb-true b c p.0, ltb-true i (or_zero k) p.1))
    (or_cases (ltb b c) (eqb b c && ltb i (or_zero k)) e)

no_better : (b i c : ℕ) (k : Option ℕ) → improves b i (some c) k ≡ false → (c ≤ b) × (c ≡ b → or_zero k ≤ i)
unfolding improves
no_better b i c k e =
    let p = or_parts (ltb b c) (eqb b c && ltb i (or_zero k)) e in (
      ltb-false b c p.0,
      λ (s : c ≡ b). ltb-false i (or_zero k) (both_false (eqb b c) (ltb i (or_zero k)) p.1 (eq-eqb b c (sym s))),
    )

module _ (t : Table) (v i : ℕ) (x : State) where
  -- the arc is kept: it leaves v, its head is unreached, and its offer is smaller than the head's bound, or equal and from a lower position
  pub record Taken : Type 0 where
    pub leaves : tail_at t i ≡ v
    pub new : status_at x (head_at t i) ≡ unreached
    pub better : (c : ℕ) → bound_at x (head_at t i) ≡ some c →
        (distance x v + length_at t i < c) ⊎ ((distance x v + length_at t i ≡ c) × (i < or_zero (kept_at x (head_at t i))))

  -- the arc's offer is no better: the head has a bound that is not greater, and where it is equal, a kept arc that is not later
  pub record NoBetter : Type 0 where
    pub c : ℕ
    pub bound : bound_at x (head_at t i) ≡ some c
    pub low : c ≤ distance x v + length_at t i
    pub earlier : c ≡ distance x v + length_at t i → or_zero (kept_at x (head_at t i)) ≤ i

  pub taken : takes t v i x ≡ true → Taken
  unfolding takes
  taken e =
      let b = distance x v + length_at t i in
      let p =
      and_parts (eqb (tail_at t i) v)
      (not (was_reached x (head_at t i)) && improves b i (bound_at x (head_at t i)) (kept_at x (head_at t i))) e in
      let q = and_parts (not (was_reached x (head_at t i))) (improves b i (bound_at x (head_at t i)) (kept_at x (head_at t i))) p.1 in
      record {
        leaves = eqb-true (tail_at t i) v p.0;
        new = unreached_status x (head_at t i) (not-true (was_reached x (head_at t i)) q.0);
        better =
            λ c s. better b i c (kept_at x (head_at t i)) (subst (λ (o : Option ℕ). improves b i o (kept_at x (head_at t i)) ≡ true) s q.1);
      }

  pub dropped : takes t v i x ≡ false → tail_at t i ≡ v → (unreached < status_at x (head_at t i)) ⊎ NoBetter
  unfolding takes improves
  dropped e leaves =
      let b = distance x v + length_at t i in
      let k = kept_at x (head_at t i) in
      let p : (not (was_reached x (head_at t i)) && improves b i (bound_at x (head_at t i)) k) ≡ false =
      both_false (eqb (tail_at t i) v) (not (was_reached x (head_at t i)) && improves b i (bound_at x (head_at t i)) k) e
      (eq-eqb (tail_at t i) v leaves) in
      ⊎_elim (λ (r : was_reached x (head_at t i) ≡ true). inl (reached_status x (head_at t i) r))
      (λ (r : was_reached x (head_at t i) ≡ false).
      let q : improves b i (bound_at x (head_at t i)) k ≡ false =
      both_false (not (was_reached x (head_at t i))) (improves b i (bound_at x (head_at t i)) k) p (ap not r) in
      ⊎_elim
      (λ (n : bound_at x (head_at t i) ≡ none).
      absurd (both_ways true (subst (λ (o : Option ℕ). improves b i o k ≡ false) n q) refl))
      (λ (s : (c : ℕ) × (bound_at x (head_at t i) ≡ some c)).
      let f = no_better b i s.0 k (subst (λ (o : Option ℕ). improves b i o k ≡ false) s.1 q) in
      inr (record { c = s.0; bound = s.1; low = f.0; earlier = f.1 }))
      (option_or (bound_at x (head_at t i))))
      (cases_Bool (was_reached x (head_at t i)))

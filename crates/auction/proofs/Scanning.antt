-- When a node scans, and what it remembers: laws of the definitions of specs/Scans.antt. Assumes nothing.
use mathlib.Core.Path.{◌≡◌, refl, sym, subst, ◌∙◌}
use mathlib.Core.Bool.{Bool, true, false, ◌&&◌, not, cond}
use mathlib.Core.List.{List, ◌∷◌}
use mathlib.Core.Logic.{◌⊎◌, inl, inr, ⊎_elim}
use mathlib.Core.Option.{Option, none, some}
use Prim.Native.Nat.{ℕ, zero, suc, ◌+◌, ◌≤◌, ◌<◌}
use native.Mathlib.Omega.{arith}
use borrow.Author.Tests.{eqb-true, eq-eqb, ne_eqb, not-true, not-false, both_ways}
use Rattle.std.proofs.lemmas.Bool.{and_from, and_parts, cases_Bool, cases_eq, false_from_ne_true}
use Rattle.table.specs.Table.{Table, arc_count, head_at}
use Rattle.auction.specs.Auction.{State, Bid, terminal, price_at, to_child, best, after}
use Rattle.auction.specs.Scans.{same_at, same_children_from, same_children, same_price, scans_now, and_earlier, history, or_now, last_scan, scan_count, scans}
use Rattle.table.proofs.Basics.{not_and, some_same}

-- two tests that come out alike
alike : (a b : Bool) → cond a b (not b) ≡ true → b ≡ a
alike true b e = e
alike false b e = not-true b e

alike_test : (a b : Bool) → b ≡ a → cond a b (not b) ≡ true
alike_test true b e = e
alike_test false b e = rw e

module _ (t : Table) (v : ℕ) (s x : State) where
  -- THE SAME CHILDREN: the same arcs lead to them
  same_from : (k a : ℕ) → same_children_from k a t v s x ≡ true → (i : ℕ) → a ≤ i → i < a + k → to_child t v i x ≡ to_child t v i s
  unfolding same_children_from same_at
  same_from zero a e i h l = absurd (omega arith)
  same_from (suc k) a e i h l =
      let p = and_parts (same_at t v a s x) (same_children_from k (suc a) t v s x) e in
      ⊎_elim
      (λ (q : i ≡ a).
      subst (λ (j : ℕ). to_child t v j x ≡ to_child t v j s) (sym q) (alike (to_child t v a s) (to_child t v a x) p.0))
      (λ (q : i ≡ a → ⊥). same_from k (suc a) p.1 i (omega (arith, q)) (omega arith))
      (cases_eq i a)

  from_same : (k a : ℕ) → ((i : ℕ) → a ≤ i → i < a + k → to_child t v i x ≡ to_child t v i s) → same_children_from k a t v s x ≡ true
  unfolding same_children_from same_at
  from_same zero a f = refl
  from_same (suc k) a f =
      and_from (same_at t v a s x) (same_children_from k (suc a) t v s x)
      (alike_test (to_child t v a s) (to_child t v a x) (f a (omega arith) (omega arith)))
      (from_same k (suc a) (λ i h l. f i (omega arith) (omega arith)))

  pub same_child : same_children t v s x ≡ true → (i : ℕ) → i < arc_count t → to_child t v i x ≡ to_child t v i s
  unfolding same_children
  same_child e i h = same_from (arc_count t) 0 e i (omega arith) (omega arith)

  pub child_same : ((i : ℕ) → i < arc_count t → to_child t v i x ≡ to_child t v i s) → same_children t v s x ≡ true
  unfolding same_children
  child_same f = from_same (arc_count t) 0 (λ i h l. f i (omega arith))

  child_lost : (i : ℕ) → i < arc_count t → to_child t v i s ≡ true → to_child t v i x ≡ false → same_children t v s x ≡ false
  child_lost i h was is = false_from_ne_true (same_children t v s x) (λ e. both_ways (to_child t v i x) is (same_child e i h ∙ was))

  -- WHETHER V SCANS in state x, when its last scan was in state s: it does where a child is lost or the remembered child's price has moved,
  pub scans_lost : (i : ℕ) → i < arc_count t → to_child t v i s ≡ true → to_child t v i x ≡ false → scans_now t v (some s) x ≡ true
  unfolding scans_now
  scans_lost i h was is = not_and (same_children t v s x) (same_price t (best t v s) s x) (inl (child_lost i h was is))

  price_moved : (o : Option Bid) (b : Bid) → o ≡ some b → (price_at s (head_at t b.by_arc) ≡ price_at x (head_at t b.by_arc) → ⊥) →
      same_price t o s x ≡ false
  unfolding same_price
  price_moved o b e d = rw e (ne_eqb (price_at s (head_at t b.by_arc)) (price_at x (head_at t b.by_arc)) d)

  pub scans_moved : (b : Bid) → best t v s ≡ some b → (price_at s (head_at t b.by_arc) ≡ price_at x (head_at t b.by_arc) → ⊥) →
      scans_now t v (some s) x ≡ true
  unfolding scans_now
  scans_moved b e d = not_and (same_children t v s x) (same_price t (best t v s) s x) (inr (price_moved (best t v s) b e d))

  -- and only there
  pub no_scan : scans_now t v (some s) x ≡ false → (same_children t v s x ≡ true) × (same_price t (best t v s) s x ≡ true)
  unfolding scans_now
  no_scan e =
      let both = same_children t v s x && same_price t (best t v s) s x in
      and_parts (same_children t v s x) (same_price t (best t v s) s x) (not-false both e)

  pub price_same : (b : Bid) → best t v s ≡ some b → same_price t (best t v s) s x ≡ true →
      price_at s (head_at t b.by_arc) ≡ price_at x (head_at t b.by_arc)
  unfolding same_price
  price_same b p e =
      eqb-true (price_at s (head_at t b.by_arc)) (price_at x (head_at t b.by_arc)) (subst (λ (o : Option Bid). same_price t o s x ≡ true) p e)

-- a node that does not scan has scanned before
pub has_scanned : (t : Table) (v : ℕ) (m : Option State) (x : State) → scans_now t v m x ≡ false →
    (s : State) × (m ≡ some s) × (scans_now t v (some s) x ≡ false)
unfolding scans_now
has_scanned t v none x e = absurd (both_ways true e refl)
has_scanned t v (some s) x e = (s, refl, e)

-- right after a scan nothing has changed
at_once_price : (t : Table) (o : Option Bid) (x : State) → same_price t o x x ≡ true
unfolding same_price
at_once_price t none x = refl
at_once_price t (some b) x = eq-eqb (price_at x (head_at t b.by_arc)) (price_at x (head_at t b.by_arc)) refl

pub scans_at_once : (t : Table) (v : ℕ) (x : State) → scans_now t v (some x) x ≡ false
unfolding scans_now
scans_at_once t v x = rw (child_same t v x x (λ i h. refl), at_once_price t (best t v x) x)

-- where children and the remembered child's price are as they were, a node scans as it did
module _ (t : Table) (v : ℕ) (x y : State) where
  children_alike : (k a : ℕ) (s : State) → ((i : ℕ) → a ≤ i → i < a + k → to_child t v i y ≡ to_child t v i x) →
      same_children_from k a t v s y ≡ same_children_from k a t v s x
  unfolding same_children_from same_at
  children_alike zero a s f = refl
  children_alike (suc k) a s f = rw (f a (omega arith) (omega arith), children_alike k (suc a) s (λ i h l. f i (omega arith) (omega arith)))

  price_alike : (o : Option Bid) (s : State) →
      ((b : Bid) → o ≡ some b → price_at y (head_at t b.by_arc) ≡ price_at x (head_at t b.by_arc)) → same_price t o s y ≡ same_price t o s x
  unfolding same_price
  price_alike none s f = refl
  price_alike (some b) s f = rw (f b refl)

  pub scans_alike : (m : Option State) → ((i : ℕ) → i < arc_count t → to_child t v i y ≡ to_child t v i x) →
      ((s : State) (b : Bid) → m ≡ some s → best t v s ≡ some b → price_at y (head_at t b.by_arc) ≡ price_at x (head_at t b.by_arc)) →
      scans_now t v m y ≡ scans_now t v m x
  unfolding scans_now same_children
  scans_alike none children prices = refl
  scans_alike (some s) children prices =
      rw (children_alike (arc_count t) 0 s (λ i h l. children i (omega arith)), price_alike (best t v s) s (λ b e. prices s b refl e))

-- THE HISTORY: one iteration more
pub history_next : (k : ℕ) (t : Table) (x : State) → after k t ≡ some x → history (suc k) t ≡ x ∷ history k t
unfolding history and_earlier
history_next k t x e = rw e

-- the last scan of a node after one iteration more: that iteration, where it scans there, and else the one of before
module _ (t : Table) (v : ℕ) (x : State) (h : List State) where
  pub scan_here : terminal x ≡ v → scans_now t v (last_scan t v h) x ≡ true → last_scan t v (x ∷ h) ≡ some x
  unfolding last_scan or_now
  scan_here p e = rw (eq-eqb (terminal x) v p, e)

  pub scan_not : (terminal x ≡ v → scans_now t v (last_scan t v h) x ≡ false) → last_scan t v (x ∷ h) ≡ last_scan t v h
  unfolding last_scan or_now
  scan_not f =
      ⊎_elim (λ (p : terminal x ≡ v). rw (eq-eqb (terminal x) v p, f p)) (λ (d : terminal x ≡ v → ⊥). rw (ne_eqb (terminal x) v d))
      (cases_eq (terminal x) v)

  pub scan_or : (s : State) → last_scan t v (x ∷ h) ≡ some s → ((terminal x ≡ v) × (x ≡ s)) ⊎ (last_scan t v h ≡ some s)
  scan_or s e =
      let now = scans_now t v (last_scan t v h) x in
      ⊎_elim
      (λ (p : terminal x ≡ v).
      ⊎_elim (λ (q : now ≡ true). inl (p, some_same (scan_here p q) e)) (λ (q : now ≡ false). inr (sym (scan_not (λ p. q)) ∙ e))
      (cases_Bool now))
      (λ (d : terminal x ≡ v → ⊥). inr (sym (scan_not (λ p. absurd (d p))) ∙ e))
      (cases_eq (terminal x) v)

-- and the number of scans: one more, where it scans
module _ (k : ℕ) (t : Table) (x : State) (e : after k t ≡ some x) where
  pub scans_more : scans_now t (terminal x) (last_scan t (terminal x) (history k t)) x ≡ true → scans (suc k) t ≡ suc (scans k t)
  unfolding scans scan_count
  scans_more q = rw (history_next k t x e, q) (omega arith)

  pub scans_as_many : scans_now t (terminal x) (last_scan t (terminal x) (history k t)) x ≡ false → scans (suc k) t ≡ scans k t
  unfolding scans scan_count
  scans_as_many q = rw (history_next k t x e, q) (omega arith)

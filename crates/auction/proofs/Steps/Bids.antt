-- The best bid is the least, from the lowest position among equals; there is none exactly where there is no child. Assumes nothing.
use mathlib.Core.Path.{◌≡◌, refl, sym, ap, subst, ◌∙◌}
use mathlib.Core.Bool.{Bool, true, false, ◌&&◌, not, cond}
use mathlib.Core.Logic.{⊎_elim}
use mathlib.Core.Option.{Option, none, some}
use Prim.Native.Nat.{ℕ, zero, suc, ◌+◌, ◌≤◌, ◌<◌}
use native.Mathlib.Omega.{arith}
use lib.Dec.{leb, eqb}
use borrow.Author.Tests.{leb-true, leb-false, eqb-true, eq-eqb, not-true, both_ways}
use Rattle.std.proofs.lemmas.Bool.{and_parts, cases_Bool, cases_eq}
use Rattle.table.specs.Table.{Table, arc_count, tail_at, head_at, length_at}
use Rattle.auction.specs.Auction.{State, Bid, bid, price_at, kept_at, status_at, is_kept, is_deleted, to_child, lower_bid, with_bid, best_from, best, deleted}
use Rattle.auction.proofs.Steps.Effects.{undeleted_status, deleted_status}

-- the arc at a position leads from v to a child of it
pub record Child (t : Table) (v i : ℕ) (x : State) : Type 0 where
  pub leaves : tail_at t i ≡ v
  pub kept : kept_at x (head_at t i) ≡ some i
  pub undeleted : status_at x (head_at t i) ≡ deleted → ⊥

unfoldable pub bid_at : Table → State → (i : ℕ) → ℕ
bid_at t x i = length_at t i + price_at x (head_at t i)

pub kept_test : (x : State) (i : ℕ) (o : Option ℕ) → is_kept x i o ≡ true → o ≡ some i
unfolding is_kept
kept_test x i none e = absurd (both_ways true (sym e) refl)
kept_test x i (some k) e = ap some (eqb-true k i e)

pub test_kept : (x : State) (i : ℕ) (o : Option ℕ) → o ≡ some i → is_kept x i o ≡ true
unfolding is_kept
test_kept x i o e = subst (λ (a : Option ℕ). is_kept x i a ≡ true) (sym e) (eq-eqb i i refl)

same_bid : (b c : Bid) → b.value ≡ c.value → b.by_arc ≡ c.by_arc → b ≡ c
unfolding bid
same_bid b c value arc = ap (λ (n : ℕ). bid n b.by_arc) value ∙ ap (bid c.value) arc

module _ (t : Table) (v : ℕ) (x : State) where
  pub child : (i : ℕ) → to_child t v i x ≡ true → Child t v i x
  unfolding to_child
  child i e =
      let p = and_parts (eqb (tail_at t i) v) (is_kept x i (kept_at x (head_at t i)) && not (is_deleted x (head_at t i))) e in
      let q = and_parts (is_kept x i (kept_at x (head_at t i))) (not (is_deleted x (head_at t i))) p.1 in
      record {
        leaves = eqb-true (tail_at t i) v p.0;
        kept = kept_test x i (kept_at x (head_at t i)) q.0;
        undeleted = undeleted_status x (head_at t i) (not-true (is_deleted x (head_at t i)) q.1);
      }

  pub child_test : (i : ℕ) → Child t v i x → to_child t v i x ≡ true
  unfolding to_child
  child_test i c =
      let d : is_deleted x (head_at t i) ≡ false =
      ⊎_elim (λ (e : is_deleted x (head_at t i) ≡ true). absurd (c.undeleted (deleted_status x (head_at t i) e))) (λ (e : is_deleted x (head_at t i) ≡ false). e)
      (cases_Bool (is_deleted x (head_at t i))) in
      rw (eq-eqb (tail_at t i) v c.leaves, test_kept x i (kept_at x (head_at t i)) c.kept, d)

  -- the best of the bids from the positions a to a + k
  record BestOf (k a : ℕ) (b : Bid) : Type 0 where
    pub from : a ≤ b.by_arc
    pub to : b.by_arc < a + k
    pub child : Child t v b.by_arc x
    pub value : b.value ≡ bid_at t x b.by_arc
    pub least : (i : ℕ) → a ≤ i → i < a + k → Child t v i x → b.value ≤ bid_at t x i
    pub first : (i : ℕ) → a ≤ i → i < b.by_arc → Child t v i x → b.value < bid_at t x i

  -- what the answer of best-from says: a best bid, or no child
  Says : (k a : ℕ) → Option Bid → Type 0
  Says k a none = (i : ℕ) → a ≤ i → i < a + k → Child t v i x → ⊥
  Says k a (some b) = BestOf k a b

  -- one position more: no child there
  skipped : (k a : ℕ) (o : Option Bid) → to_child t v a x ≡ false → Says k (suc a) o → Says (suc k) a o
  unfolding Says
  skipped k a none e s = λ i h l c.
      ⊎_elim (λ (p : i ≡ a). both_ways (to_child t v a x) e (ap (λ (j : ℕ). to_child t v j x) (sym p) ∙ child_test i c))
      (λ (d : i ≡ a → ⊥). s i (omega (arith, d)) (omega arith) c)
      (cases_eq i a)
  skipped k a (some b) e s =
      let other : (i : ℕ) → Child t v i x → i ≡ a → ⊥ =
      λ i c p. both_ways (to_child t v a x) e (ap (λ (j : ℕ). to_child t v j x) (sym p) ∙ child_test i c) in
      record {
        from = omega (arith, s.from);
        to = omega (arith, s.to);
        child = s.child;
        value = s.value;
        least = λ i h l c. let d : i ≡ a → ⊥ = other i c in s.least i (omega arith) (omega arith) c;
        first = λ i h l c. let d : i ≡ a → ⊥ = other i c in s.first i (omega arith) l c;
      }

  -- or a child, whose bid is compared with the best of the later ones
  joined : (k a : ℕ) (o : Option Bid) → Child t v a x → Says k (suc a) o → Says (suc k) a (some (lower_bid (bid (bid_at t x a) a) o))
  unfolding Says lower_bid bid
  joined k a none c s =
      let only : (i : ℕ) → a ≤ i → i < a + suc k → Child t v i x → i ≡ a =
      λ i h l d. ⊎_elim (λ (p : i ≡ a). p) (λ (q : i ≡ a → ⊥). absurd (s i (omega (arith, q)) (omega arith) d)) (cases_eq i a) in
      record {
        from = omega arith;
        to = omega arith;
        child = c;
        value = refl;
        least = λ i h l d. omega (arith, ap (bid_at t x) (only i h l d));
        first = λ i h l d. absurd (omega arith);
      }
  joined k a (some b) c s =
      ⊎_elim
      (λ (e : leb (bid_at t x a) b.value ≡ true).
      let low = leb-true (bid_at t x a) b.value e in
      subst (λ (r : Bool). BestOf (suc k) a (cond r (bid (bid_at t x a) a) b)) (sym e)
      (record {
        from = omega arith;
        to = omega arith;
        child = c;
        value = refl;
        least =
            λ i h l d.
            ⊎_elim (λ (p : i ≡ a). omega (arith, ap (bid_at t x) p)) (λ (q : i ≡ a → ⊥). omega (arith, s.least i (omega (arith, q)) (omega arith) d))
            (cases_eq i a);
        first = λ i h l d. absurd (omega arith);
      }))
      (λ (e : leb (bid_at t x a) b.value ≡ false).
      let high = leb-false (bid_at t x a) b.value e in
      subst (λ (r : Bool). BestOf (suc k) a (cond r (bid (bid_at t x a) a) b)) (sym e)
      (record {
        from = omega (arith, s.from);
        to = omega (arith, s.to);
        child = s.child;
        value = s.value;
        least =
            λ i h l d.
            ⊎_elim (λ (p : i ≡ a). omega (arith, ap (bid_at t x) p)) (λ (q : i ≡ a → ⊥). s.least i (omega (arith, q)) (omega arith) d)
            (cases_eq i a);
        first =
            λ i h l d.
            ⊎_elim (λ (p : i ≡ a). omega (arith, ap (bid_at t x) p)) (λ (q : i ≡ a → ⊥). s.first i (omega (arith, q)) l d)
            (cases_eq i a);
      }))
      (cases_Bool (leb (bid_at t x a) b.value))

  best_says : (k a : ℕ) → Says k a (best_from k a t v x)
  unfolding Says best_from with_bid bid_at
  best_says zero a = λ i h l c. omega arith
  best_says (suc k) a =
      ⊎_elim
      (λ (e : to_child t v a x ≡ true).
      subst (λ (r : Bool). Says (suc k) a (with_bid r (bid (bid_at t x a) a) (best_from k (suc a) t v x))) (sym e)
      (joined k a (best_from k (suc a) t v x) (child a e) (best_says k (suc a))))
      (λ (e : to_child t v a x ≡ false).
      subst (λ (r : Bool). Says (suc k) a (with_bid r (bid (bid_at t x a) a) (best_from k (suc a) t v x))) (sym e)
      (skipped k a (best_from k (suc a) t v x) e (best_says k (suc a))))
      (cases_Bool (to_child t v a x))

  pub no_child : best t v x ≡ none → (i : ℕ) → i < arc_count t → Child t v i x → ⊥
  unfolding best Says
  no_child e i h c = subst (Says (arc_count t) 0) e (best_says (arc_count t) 0) i (omega arith) (omega arith) c

  -- the best bid of all: `best`'s answer
  pub record Best (b : Bid) : Type 0 where
    pub listed : b.by_arc < arc_count t
    pub child : Child t v b.by_arc x
    pub value : b.value ≡ bid_at t x b.by_arc
    pub least : (i : ℕ) → i < arc_count t → Child t v i x → b.value ≤ bid_at t x i
    pub first : (i : ℕ) → i < b.by_arc → Child t v i x → b.value < bid_at t x i

  pub best_bid : (b : Bid) → best t v x ≡ some b → Best b
  unfolding best Says
  best_bid b e =
      let a : BestOf (arc_count t) 0 b = subst (Says (arc_count t) 0) e (best_says (arc_count t) 0) in
      record {
        listed = omega (arith, a.to);
        child = a.child;
        value = a.value;
        least = λ i h c. a.least i (omega arith) (omega arith) c;
        first = λ i h c. a.first i (omega arith) h c;
      }

  -- there is only one
  pub one_best : (b c : Bid) → Best b → Best c → b ≡ c
  one_best b c p q =
      let not_below : (b c : Bid) → Best b → Best c → b.by_arc < c.by_arc → ⊥ =
      λ b c p q h. omega (arith, q.first b.by_arc h p.child, p.value, p.least c.by_arc q.listed q.child, q.value) in
      let arc : b.by_arc ≡ c.by_arc = omega (arith, not_below b c p q, not_below c b q p) in
      same_bid b c (p.value ∙ ap (bid_at t x) arc ∙ sym q.value) arc

-- Walks taken apart and put together, and going back over a tree column, for any table and column. Assumes nothing.
use mathlib.Core.Path.{◌≡◌, refl, sym, ap, subst, ◌∙◌}
use mathlib.Core.Bool.{Bool, true, false, ◌&&◌, ◌||◌, cond}
use mathlib.Core.List.{List, [], ◌∷◌, ◌++◌, append_assoc}
use mathlib.Core.Logic.{⊎_elim}
use Prim.Native.Nat.{ℕ, zero, suc, ◌+◌, ◌≤◌, ◌<◌}
use native.Mathlib.Omega.{arith}
use lib.Dec.{ltb, eqb}
use lib.ListN.{length, get_or, length-append}
use borrow.Author.Tests.{ltb-true, eqb-true, lt-ltb, eq-eqb, ne_eqb}
use Rattle.std.proofs.lemmas.Bool.{and_from, and_parts, cases_Bool, cases_eq, or_right}
use Rattle.table.specs.Table.{Table, arc_count, tail_at, head_at, length_at, leads, is_walk, walk_length, no_arc}
use Rattle.auction.specs.HandOver.{back_from, returned}
use Rattle.auction.proofs.Good.{Good}

-- a walk's first arc
pub record First (t : Table) (u i : ℕ) (is : List ℕ) (v : ℕ) : Type 0 where
  pub listed : i < arc_count t
  pub leaves : tail_at t i ≡ u
  pub rest : leads t (head_at t i) is v ≡ true

pub first : (t : Table) (u i : ℕ) (is : List ℕ) (v : ℕ) → leads t u (i ∷ is) v ≡ true → First t u i is v
unfolding leads
first t u i is v e =
    let p = and_parts (ltb i (arc_count t) && eqb (tail_at t i) u) (leads t (head_at t i) is v) e in
    let q = and_parts (ltb i (arc_count t)) (eqb (tail_at t i) u) p.0 in
    record { listed = ltb-true i (arc_count t) q.0; leaves = eqb-true (tail_at t i) u q.1; rest = p.1 }

-- a walk ends at a node of the table
pub end_low : (t : Table) → Good t → (is : List ℕ) (u v : ℕ) → u < t.n → leads t u is v ≡ true → v < t.n
unfolding leads
end_low t g [] u v low e = subst (λ (a : ℕ). a < t.n) (eqb-true u v e) low
end_low t g (i ∷ is) u v low e = let f = first t u i is v e in end_low t g is (head_at t i) v (g.head_in i f.listed) f.rest

pub walk_end : (t : Table) → Good t → (is : List ℕ) (v : ℕ) → is_walk t is v ≡ true → v < t.n
unfolding is_walk
walk_end t g is v e = end_low t g is t.origin v g.origin_in e

module _ (t : Table) where
  -- a walk and one more arc
  leads_on : (p : List ℕ) (u v i : ℕ) → leads t u p v ≡ true → i < arc_count t → tail_at t i ≡ v → leads t u (p ++ (i ∷ [])) (head_at t i) ≡ true
  unfolding leads
  leads_on [] u v i e h l =
      and_from (ltb i (arc_count t) && eqb (tail_at t i) u) (eqb (head_at t i) (head_at t i))
      (and_from (ltb i (arc_count t)) (eqb (tail_at t i) u) (lt-ltb i (arc_count t) h) (eq-eqb (tail_at t i) u (l ∙ sym (eqb-true u v e))))
      (eq-eqb (head_at t i) (head_at t i) refl)
  leads_on (j ∷ p) u v i e h l =
      let q = and_parts (ltb j (arc_count t) && eqb (tail_at t j) u) (leads t (head_at t j) p v) e in
      and_from (ltb j (arc_count t) && eqb (tail_at t j) u) (leads t (head_at t j) (p ++ (i ∷ [])) (head_at t i)) q.0
      (leads_on p (head_at t j) v i q.1 h l)

  pub walk_on : (p : List ℕ) (v i : ℕ) → is_walk t p v ≡ true → i < arc_count t → tail_at t i ≡ v → is_walk t (p ++ (i ∷ [])) (head_at t i) ≡ true
  unfolding is_walk
  walk_on p v i e h l = leads_on p t.origin v i e h l

  pub length_on : (p : List ℕ) (i : ℕ) → walk_length t (p ++ (i ∷ [])) ≡ walk_length t p + length_at t i
  unfolding walk_length
  length_on [] i = omega arith
  length_on (j ∷ p) i = omega (arith, length_on p i)

module _ (t : Table) (ts : List ℕ) where
  -- going back ends at a node, or takes the arc of its entry and goes on from the tail
  abbrev pub ends : ℕ → Bool
  ends v = eqb v t.origin || eqb (get_or ts v no_arc) no_arc

  pub stays : (k v : ℕ) (is : List ℕ) → ends v ≡ true → back_from (suc k) t ts v is ≡ is
  unfolding back_from
  stays k v is e = rw e

  pub goes : (k v : ℕ) (is : List ℕ) → ends v ≡ false → back_from (suc k) t ts v is ≡ back_from k t ts (tail_at t (get_or ts v no_arc)) (get_or ts v no_arc ∷ is)
  unfolding back_from
  goes k v is e = rw e

  pub at_origin : (k v : ℕ) (is : List ℕ) → v ≡ t.origin → back_from k t ts v is ≡ is
  unfolding back_from
  at_origin zero v is e = refl
  at_origin (suc k) v is e = rw (eq-eqb v t.origin e)

  pub without_entry : (k v : ℕ) (is : List ℕ) → get_or ts v no_arc ≡ no_arc → back_from k t ts v is ≡ is
  unfolding back_from
  without_entry zero v is e = refl
  without_entry (suc k) v is e = stays k v is (or_right (eqb v t.origin) (eqb (get_or ts v no_arc) no_arc) (eq-eqb (get_or ts v no_arc) no_arc e))

  pub one_back : (k v : ℕ) (is : List ℕ) → (v ≡ t.origin → ⊥) → (get_or ts v no_arc ≡ no_arc → ⊥) →
      back_from (suc k) t ts v is ≡ back_from k t ts (tail_at t (get_or ts v no_arc)) (get_or ts v no_arc ∷ is)
  unfolding back_from
  one_back k v is d e = rw (ne_eqb v t.origin d, ne_eqb (get_or ts v no_arc) no_arc e)

  -- the arcs found are put in front of those found before
  back_before : (k v : ℕ) (is : List ℕ) → back_from k t ts v is ≡ back_from k t ts v [] ++ is
  unfolding back_from
  back_before zero v is = refl
  back_before (suc k) v is =
      ⊎_elim (λ (h : ends v ≡ true). stays k v is h ∙ ap (λ (p : List ℕ). p ++ is) (sym (stays k v [] h)))
      (λ (h : ends v ≡ false).
      let i = get_or ts v no_arc in
      let u = tail_at t i in
      goes k v is h
      ∙ back_before k u (i ∷ is)
      ∙ sym (append_assoc (back_from k t ts u []) (i ∷ []) is)
      ∙ ap (λ (p : List ℕ). p ++ is) (sym (goes k v [] h ∙ back_before k u (i ∷ []))))
      (cases_Bool (ends v))

  pub back_longer : (k v : ℕ) (is : List ℕ) → length is ≤ length (back_from k t ts v is)
  back_longer k v is = omega (arith, ap length (back_before k v is), length-append (back_from k t ts v []) is)

  -- a count that is enough for the arcs found is enough
  back_enough : (k m v : ℕ) (is : List ℕ) → length (back_from k t ts v is) ≤ m + length is → m ≤ k → back_from m t ts v is ≡ back_from k t ts v is
  unfolding back_from
  back_enough zero zero v is h l = refl
  back_enough zero (suc m) v is h l = absurd (omega (arith, l))
  back_enough (suc k) zero v is h l =
      ⊎_elim (λ (e : ends v ≡ true). sym (stays k v is e))
      (λ (e : ends v ≡ false).
      absurd
      (omega (arith, h, ap length (goes k v is e), back_longer k (tail_at t (get_or ts v no_arc)) (get_or ts v no_arc ∷ is))))
      (cases_Bool (ends v))
  back_enough (suc k) (suc m) v is h l =
      ⊎_elim (λ (e : ends v ≡ true). stays m v is e ∙ sym (stays k v is e))
      (λ (e : ends v ≡ false).
      goes m v is e
      ∙ back_enough k m (tail_at t (get_or ts v no_arc)) (get_or ts v no_arc ∷ is) (omega (arith, h, ap length (goes k v is e))) (omega (arith, l))
      ∙ sym (goes k v is e))
      (cases_Bool (ends v))

  returned_from : (k v : ℕ) → (v ≡ t.origin → ⊥) → (get_or ts v no_arc ≡ no_arc → ⊥) → length (back_from k t ts (tail_at t (get_or ts v no_arc)) []) < k →
      back_from k t ts v [] ≡ back_from k t ts (tail_at t (get_or ts v no_arc)) [] ++ (get_or ts v no_arc ∷ [])
  returned_from zero v d e h = absurd (omega (arith, h))
  returned_from (suc k) v d e h =
      let i = get_or ts v no_arc in
      let u = tail_at t i in
      one_back k v [] d e
      ∙ back_before k u (i ∷ [])
      ∙ ap (λ (p : List ℕ). p ++ (i ∷ [])) (back_enough (suc k) k u [] (omega (arith, h)) (omega arith))

  -- THE WALK RETURNED to a node is that to its link's near end, and the link
  pub returned_on : (v : ℕ) → (v ≡ t.origin → ⊥) → (get_or ts v no_arc ≡ no_arc → ⊥) →
      length (returned t ts (tail_at t (get_or ts v no_arc))) < t.n →
      returned t ts v ≡ returned t ts (tail_at t (get_or ts v no_arc)) ++ (get_or ts v no_arc ∷ [])
  unfolding returned
  returned_on v d e h = returned_from t.n v d e h

-- TWO TABLES AND TREE COLUMNS: going back is the same where at each node on the way the entry is the same and its arc leaves the same node
pub record SameEntry (t t' : Table) (ts ts' : List ℕ) (P : ℕ → Type 0) (v : ℕ) : Type 0 where
  pub same : get_or ts' v no_arc ≡ get_or ts v no_arc
  pub tail : tail_at t' (get_or ts v no_arc) ≡ tail_at t (get_or ts v no_arc)
  pub before : P (tail_at t (get_or ts v no_arc))

module _ (t t' : Table) (ts ts' : List ℕ) (o : t'.origin ≡ t.origin) (P : ℕ → Type 0)
    (on : (v : ℕ) → P v → (v ≡ t.origin → ⊥) → SameEntry t t' ts ts' P v) where
  same_back : (k v : ℕ) (is : List ℕ) → P v → back_from k t' ts' v is ≡ back_from k t ts v is
  unfolding back_from
  same_back zero v is p = refl
  same_back (suc k) v is p =
      ⊎_elim (λ (e : v ≡ t.origin). at_origin t' ts' (suc k) v is (e ∙ sym o) ∙ sym (at_origin t ts (suc k) v is e))
      (λ (d : v ≡ t.origin → ⊥).
      let s = on v p d in
      let j = get_or ts v no_arc in
      ap (λ (i : ℕ). cond (eqb v t'.origin || eqb i no_arc) is (back_from k t' ts' (tail_at t' i) (i ∷ is))) s.same
      ∙ ap (λ (u : ℕ). cond (eqb v u || eqb j no_arc) is (back_from k t' ts' (tail_at t' j) (j ∷ is))) o
      ∙ ap (λ (u : ℕ). cond (eqb v t.origin || eqb j no_arc) is (back_from k t' ts' u (j ∷ is))) s.tail
      ∙ ap (λ (q : List ℕ). cond (eqb v t.origin || eqb j no_arc) is q) (same_back k (tail_at t j) (j ∷ is) s.before))
      (cases_eq v t.origin)

  pub same_returned : t'.n ≡ t.n → (v : ℕ) → P v → returned t' ts' v ≡ returned t ts v
  unfolding returned
  same_returned m v p = ap (λ (k : ℕ). back_from k t' ts' v []) m ∙ same_back t.n v [] p

-- The total of a list of nodes and the walks through it: a list that has a total has a walk that long, and a list with a walk has a total, which is no
-- greater. Assumes nothing.
use mathlib.Core.Path.{◌≡◌, refl, sym, ap, ◌∙◌}
use mathlib.Core.Bool.{true, false, ◌&&◌}
use mathlib.Core.List.{List, [], ◌∷◌}
use mathlib.Core.Logic.{⊎_elim}
use mathlib.Core.Option.{Option, none, some}
use Prim.Native.Nat.{ℕ, suc, ◌+◌, ◌-◌, ◌≤◌, ◌<◌}
use native.Mathlib.Omega.{arith}
use lib.Dec.{ltb, eqb}
use lib.ListN.{length, get_or, drop}
use borrow.Author.Tests.{eqb-true, lt-ltb, eq-eqb}
use Rattle.std.proofs.lemmas.Bool.{and_from, and_parts, cases_Bool}
use Rattle.table.specs.Table.{Table, arc_count, tail_at, head_at, length_at, leads, walk_length, nodes_below}
use Rattle.table.proofs.Basics.{some_none, some_same}
use Rattle.auction.proofs.Good.{Good}
use Rattle.auction.proofs.Back.{first}
use Rattle.listing.specs.Promises.{heads_along, nodes_from}
use Rattle.keeping.specs.Keeping.{step_length, plus, total, first_node, last_node}
use Rattle.keeping.specs.Promises.{Through, LeastThrough, Shortest}
use Rattle.keeping.proofs.Steps.{AtMost, Joins, step_arc, step_least}

-- where two lengths together are there, each of them is
summed : (a b : Option ℕ) (d : ℕ) → plus a b ≡ some d → (x : ℕ) × (y : ℕ) × (a ≡ some x) × (b ≡ some y) × (x + y ≡ d)
unfolding plus
summed none b d e = absurd (some_none e refl)
summed (some x) none d e = absurd (some_none e refl)
summed (some x) (some y) d e = (x, y, refl, refl, some_same refl e)

last_on : (u v : ℕ) (vs : List ℕ) → last_node (u ∷ v ∷ vs) ≡ last_node (v ∷ vs)
unfolding last_node
last_on u v vs =
    let e : length (u ∷ v ∷ vs) - 1 ≡ suc (length (v ∷ vs) - 1) = omega arith in
    ap (λ (k : ℕ). get_or (u ∷ v ∷ vs) k 0) e

module _ (t : Table) where
  -- A WALK THROUGH u, v AND MORE is an arc from u to v and a walk through v and more
  put_together : (u v d i : ℕ) (vs is : List ℕ) → i < arc_count t → Joins t u v d i → Through t is (v ∷ vs) → Through t (i ∷ is) (u ∷ v ∷ vs)
  unfolding leads first_node nodes_from heads_along
  put_together u v d i vs is h j x =
      let on = leads t (head_at t i) is (last_node (u ∷ v ∷ vs)) in
      let rest : on ≡ true = rw (last_on u v vs, j.into) x.leads_on in
      record {
        leads_on =
            and_from (ltb i (arc_count t) && eqb (tail_at t i) u) on
            (and_from (ltb i (arc_count t)) (eqb (tail_at t i) u) (lt-ltb i (arc_count t) h) (eq-eqb (tail_at t i) u j.leaves)) rest;
        nodes = ap (λ (z : ℕ). u ∷ z ∷ heads_along t is) j.into ∙ ap (λ (l : List ℕ). u ∷ l) x.nodes;
      }

  record Apart (u v i : ℕ) (vs is : List ℕ) : Type 0 where
    listed : i < arc_count t
    arc : Joins t u v (length_at t i) i
    rest : Through t is (v ∷ vs)

  taken_apart : (u v i : ℕ) (vs is : List ℕ) → Through t (i ∷ is) (u ∷ v ∷ vs) → Apart u v i vs is
  unfolding first_node nodes_from heads_along
  taken_apart u v i vs is x =
      let f = first t u i is (last_node (u ∷ v ∷ vs)) x.leads_on in
      let into : head_at t i ≡ v = ap (λ (l : List ℕ). get_or l 1 0) x.nodes in
      record {
        listed = f.listed;
        arc = record { leaves = f.leaves; into = into; long = refl };
        rest =
            record {
              leads_on =
                  ap (λ (z : ℕ). leads t z is (last_node (v ∷ vs))) (sym into) ∙ ap (leads t (head_at t i) is) (sym (last_on u v vs)) ∙ f.rest;
              nodes = ap (λ (z : ℕ). z ∷ heads_along t is) (sym into) ∙ ap (drop 1) x.nodes;
            };
      }

  total_on : (u v : ℕ) (vs : List ℕ) (x y : ℕ) → ltb u t.n ≡ true → step_length t u v ≡ some x → total t (v ∷ vs) ≡ some y →
      total t (u ∷ v ∷ vs) ≡ some (x + y)
  unfolding total plus
  total_on u v vs x y low e f = rw (low, e, f)

  -- WHERE THERE IS A WALK there is a total, no greater than its length
  pub has_total : (vs walk : List ℕ) → nodes_below t.n vs ≡ true → Through t walk vs → AtMost (total t vs) (walk_length t walk)
  unfolding total nodes_below nodes_from first_node walk_length heads_along
  has_total [] walk low x = absurd (omega (arith, ap length x.nodes))
  has_total (v ∷ []) walk low x = (0, rw (and_parts (ltb v t.n) true low).0 refl, omega arith)
  has_total (u ∷ v ∷ vs) [] low x = absurd (omega (arith, ap length x.nodes))
  has_total (u ∷ v ∷ vs) (i ∷ is) low x =
      let p = and_parts (ltb u t.n) (nodes_below t.n (v ∷ vs)) low in
      let a = taken_apart u v i vs is x in
      let s = step_least t u v i (length_at t i) a.listed a.arc in
      let r = has_total (v ∷ vs) is p.1 a.rest in
      (s.0 + r.0, total_on u v vs s.0 r.0 p.0 s.1 r.1, omega (arith, s.2, r.2))

  -- WHERE THERE IS A TOTAL there is a walk that long, and so none is shorter
  none_shorter : (vs walk : List ℕ) (d : ℕ) → total t vs ≡ some d → nodes_below t.n vs ≡ true → Through t walk vs → walk_length t walk ≡ d →
      LeastThrough t vs d
  none_shorter vs walk d e low x long =
      record {
        below = low;
        walk = walk;
        through = x;
        as_long = long;
        least = λ other y. let m = has_total vs other low y in omega (arith, some_same e m.1, m.2);
      }

  pub least_through : (vs : List ℕ) (d : ℕ) → total t vs ≡ some d → LeastThrough t vs d
  unfolding total plus nodes_below nodes_from first_node last_node leads walk_length heads_along
  least_through [] d e = absurd (some_none e refl)
  least_through (v ∷ []) d e =
      ⊎_elim
      (λ (h : ltb v t.n ≡ true).
      none_shorter (v ∷ []) [] d e (rw h refl) (record { leads_on = eq-eqb v v refl; nodes = refl }) (some_same refl (rw h at e)))
      (λ (h : ltb v t.n ≡ false). absurd (some_none e (rw h refl)))
      (cases_Bool (ltb v t.n))
  least_through (u ∷ v ∷ vs) d e =
      ⊎_elim
      (λ (h : ltb u t.n ≡ true).
      let s = summed (step_length t u v) (total t (v ∷ vs)) d (rw h at e) in
      let a = step_arc t u v s.0 s.2 in
      let r = least_through (v ∷ vs) s.1 s.3 in
      none_shorter (u ∷ v ∷ vs) (a.0 ∷ r.walk) d e (and_from (ltb u t.n) (nodes_below t.n (v ∷ vs)) h r.below)
      (put_together u v s.0 a.0 vs r.walk a.1 a.2 r.through) (omega (arith, a.2.long, r.as_long, s.4)))
      (λ (h : ltb u t.n ≡ false). absurd (some_none e (rw h refl)))
      (cases_Bool (ltb u t.n))

  -- A WALK of a table that is not refused goes through its nodes, which are below n
  ends_there : (is : List ℕ) (u v : ℕ) → leads t u is v ≡ true → last_node (nodes_from t u is) ≡ v
  unfolding leads nodes_from heads_along last_node
  ends_there [] u v e = eqb-true u v e
  ends_there (i ∷ is) u v e = last_on u (head_at t i) (heads_along t is) ∙ ends_there is (head_at t i) v (first t u i is v e).rest

  all_low : Good t → (is : List ℕ) (u v : ℕ) → u < t.n → leads t u is v ≡ true → nodes_below t.n (nodes_from t u is) ≡ true
  unfolding nodes_from heads_along nodes_below
  all_low g [] u v low e = rw (lt-ltb u t.n low) refl
  all_low g (i ∷ is) u v low e =
      let f = first t u i is v e in
      and_from (ltb u t.n) (nodes_below t.n (nodes_from t (head_at t i) is)) (lt-ltb u t.n low)
      (all_low g is (head_at t i) v (g.head_in i f.listed) f.rest)

  -- so the nodes of a shortest walk are a shortest path
  pub walk_shortest : Good t → (is : List ℕ) (u v : ℕ) → u < t.n → leads t u is v ≡ true →
      ((other : List ℕ) → leads t u other v ≡ true → walk_length t is ≤ walk_length t other) → Shortest t u v (nodes_from t u is)
  unfolding first_node nodes_from
  walk_shortest g is u v low e least =
      let ends = ends_there is u v e in
      let m = has_total (nodes_from t u is) is (all_low g is u v low e) (record { leads_on = ap (leads t u is) ends ∙ e; nodes = refl }) in
      record { begins = refl; ends = ends; length_of = m.0; walk = m.1; least = λ other w. omega (arith, m.2, least other w) }

  -- a list has one node more than a walk through it has arcs
  pub nodes_count : (is : List ℕ) (u : ℕ) → length (nodes_from t u is) ≡ suc (length is)
  unfolding nodes_from heads_along
  nodes_count [] u = refl
  nodes_count (i ∷ is) u = ap suc (nodes_count is (head_at t i))

-- The shortest arc from one node to another, along the first node's list of outgoing arcs. Assumes nothing.
use mathlib.Core.Path.{◌≡◌, refl, sym, ap, ◌∙◌}
use mathlib.Core.Bool.{true, false, cond}
use mathlib.Core.List.{List}
use mathlib.Core.Logic.{⊎_elim}
use mathlib.Core.Option.{Option, none, some}
use Prim.Native.Nat.{ℕ, suc, min, ◌-◌, ◌≤◌, ◌<◌}
use native.Mathlib.Omega.{arith}
use lib.Dec.{leb}
use lib.ListN.{get_or}
use borrow.Author.Tests.{eq-eqb, ne_eqb, le-leb, lt-leb, leb-true, leb-false}
use Rattle.std.specs.Prelude as code
use Rattle.std.proofs.lemmas.Bool.{cases_Bool, cases_eq, cases_lt}
use Rattle.table.specs.Table.{Table, arc_count, tail_at, head_at, length_at, down, no_arc}
use Rattle.table.proofs.Present.{leaves_present, present_up}
use Rattle.auction.proofs.Good.{Good}
use Rattle.forward_star.specs.Lists.{star, Outgoing}
use Rattle.forward_star.proofs.Along.{OwnArcs, OnList, on_first, on_next, here_left, own_first, own_next, none_left}
use Rattle.keeping.specs.Keeping.{lesser, between, shortest_from, step_length}
use Rattle.keeper.specs.Totals.{held, met}

-- THE LESSER OF LENGTHS: it does not matter which two are compared first
lesser_none : (a : Option ℕ) → lesser a none ≡ a
unfolding lesser
lesser_none none = refl
lesser_none (some a) = refl

least_same : (a b c : ℕ) → cond (leb a (cond (leb b c) b c)) a (cond (leb b c) b c) ≡ cond (leb (cond (leb a b) a b) c) (cond (leb a b) a b) c
least_same a b c =
    ⊎_elim
    (λ (p : leb b c ≡ true).
    ⊎_elim
    (λ (q : leb a b ≡ true). rw (p, q, le-leb a c (omega (arith, leb-true b c p, leb-true a b q))))
    (λ (q : leb a b ≡ false). rw (p, q, p))
    (cases_Bool (leb a b)))
    (λ (p : leb b c ≡ false).
    ⊎_elim
    (λ (q : leb a b ≡ true). rw (p, q))
    (λ (q : leb a b ≡ false). rw (p, q, p, lt-leb a c (omega (arith, leb-false b c p, leb-false a b q))))
    (cases_Bool (leb a b)))
    (cases_Bool (leb b c))

lesser_same : (a b c : Option ℕ) → lesser a (lesser b c) ≡ lesser (lesser a b) c
unfolding lesser
lesser_same none b c = refl
lesser_same (some a) none c = refl
lesser_same (some a) (some b) none = refl
lesser_same (some a) (some b) (some c) = ap some (least_same a b c)

-- what is met: none yet, or a length
pub none_met : (d : ℕ) → d ≡ down → met d ≡ code.None
none_met d e = rw (eq-eqb d down e) refl

pub one_met : (d : ℕ) → (d ≡ down → ⊥) → met d ≡ code.Some d
one_met d e = rw (ne_eqb d down e) refl

-- the lesser of what is met and an arc's length
pub lesser_met : (a l r : ℕ) → l < down → r ≡ min a l → held (met r) ≡ lesser (held (met a)) (some l)
unfolding lesser
lesser_met a l r low e =
    ⊎_elim
    (λ (h : l < a).
    let same : r ≡ l = omega (arith, e) in
    rw (same, one_met l (λ z. omega (arith, z, low)))
    (⊎_elim (λ (z : a ≡ down). rw (none_met a z) refl) (λ (d : a ≡ down → ⊥). rw (one_met a d, lt-leb a l h) refl) (cases_eq a down)))
    (λ (h : a ≤ l). let same : r ≡ a = omega (arith, e) in rw (same, one_met a (λ z. omega (arith, z, h, low)), le-leb a l h) refl)
    (cases_lt l a)

-- ALL ARCS out of u: those from p on are left to compare
own_shortest : (t : Table) (u v : ℕ) → OwnArcs t u (λ k i. shortest_from k i t u v)
unfolding shortest_from between lesser
own_shortest t u v = record { past = λ k i d. rw (ne_eqb (tail_at t i) u d); done = λ i j. refl }

pub record Uncompared (t : Table) (u v : ℕ) (shortest : code.Option ℕ) (p : ℕ) : Type 0 where
  pub on_list : OnList t u p
  pub rest : lesser (held shortest) (shortest_from (arc_count t - p) p t u v) ≡ step_length t u v

module _ {t : Table} {hs ls first next : List ℕ} (here : Outgoing t (star hs ls first next)) (u v : ℕ) where
  pub begins : u < t.n → Uncompared t u v code.None (get_or first u 0)
  unfolding step_length lesser
  begins below = record { on_list = on_first here u below; rest = own_first here u (own_shortest t u v) below }

  module _ {shortest : code.Option ℕ} {p : ℕ} (inv : Uncompared t u v shortest p) where
    pub ends : p ≡ no_arc → held shortest ≡ step_length t u v
    unfolding shortest_from
    ends e =
        sym (lesser_none (held shortest))
        ∙ sym (ap (λ (m : ℕ). lesser (held shortest) (shortest_from m p t u v)) (none_left here u p e))
        ∙ inv.rest

    module _ (more : p ≡ no_arc → ⊥) where
      at : (p < arc_count t) × (tail_at t p ≡ u)
      at = inv.on_list.inside more

      -- one arc more has been compared
      on : (r : code.Option ℕ) → held r ≡ lesser (held shortest) (between t u v p) → Uncompared t u v r (get_or next p 0)
      unfolding shortest_from
      on r e =
          let left = shortest_from (arc_count t - suc p) (suc p) t u v in
          record {
            on_list = (on_next here u inv.on_list more).0;
            rest =
                ap (λ (o : Option ℕ). lesser o (shortest_from (arc_count t - get_or next p 0) (get_or next p 0) t u v)) e
                ∙ ap (lesser (lesser (held shortest) (between t u v p))) (sym (own_next here u inv.on_list more (own_shortest t u v)))
                ∙ sym (lesser_same (held shortest) (between t u v p) left)
                ∙ sym (ap (λ (m : ℕ). lesser (held shortest) (shortest_from m p t u v)) (here_left here u inv.on_list more))
                ∙ inv.rest;
          }

      -- the arc that is read, at i, is not down
      module _ (good : Good t) (i : ℕ) (is_p : i ≡ p) where
        long_at : length_at t p ≡ get_or ls i 0
        long_at = sym (here.arc_length p at.0) ∙ ap (λ m. get_or ls m 0) (sym is_p)

        pub up : get_or ls i 0 < down
        up =
            let present = present_up t p (leaves_present t p good.few_nodes (omega (arith, at.1, inv.on_list.node))) in
            ⊎_elim (λ (e : get_or ls i 0 ≡ down). absurd (present (long_at ∙ e)))
            (λ (d : get_or ls i 0 ≡ down → ⊥). omega (arith, d, good.not_long p at.0, long_at)) (cases_eq (get_or ls i 0) down)

      -- it leads to v, or elsewhere
      module _ (i : ℕ) (is_p : i ≡ p) where
        pub into : get_or hs i 0 ≡ v → (r : code.Option ℕ) → held r ≡ lesser (held shortest) (some (get_or ls i 0)) →
            Uncompared t u v r (get_or next i 0)
        unfolding between
        into e r is =
            let leads : head_at t p ≡ v = sym (here.head p at.0) ∙ rw is_p at e in
            rw is_p (on r (rw is_p at is ∙ rw (eq-eqb (tail_at t p) u at.1, eq-eqb (head_at t p) v leads, here.arc_length p at.0) refl))

        pub elsewhere : (get_or hs i 0 ≡ v → ⊥) → Uncompared t u v shortest (get_or next i 0)
        unfolding between
        elsewhere d =
            let leads : head_at t p ≡ v → ⊥ = λ z. (rw is_p at d) (here.head p at.0 ∙ z) in
            rw is_p (on shortest (sym (lesser_none (held shortest)) ∙ rw (eq-eqb (tail_at t p) u at.1, ne_eqb (head_at t p) v leads) refl))

-- What a step leaves as it is, and which one changes the origin's price. Assumes nothing.
use mathlib.Core.Path.{◌≡◌, refl, sym, ap, ◌∙◌}
use mathlib.Core.Bool.{Bool, true, false, cond}
use mathlib.Core.List.{List, [], ◌∷◌}
use mathlib.Core.Logic.{⊎_elim}
use mathlib.Core.Option.{some}
use Prim.Native.Nat.{ℕ, zero, suc, ◌≤◌, ◌<◌}
use native.Mathlib.Omega.{arith}
use lib.Dec.{ltb}
use lib.ListN.{length, get_or, set}
use lib.Seq.{get_or-set_same, get_or-set_other}
use borrow.Author.Tests.{ltb-true, eq-eqb, ne_eqb}
use Rattle.std.proofs.lemmas.Bool.{cases_Bool, cases_eq}
use Rattle.table.specs.Table.{Table, arc_count, head_at}
use Rattle.auction.specs.Auction.{State, Bid, state, terminal, price_at, status_at, was_reached, best, takes, offer, offers, with_kept, with_status, reach, longer, extension, without_terminal, deletion, contraction, next, fresh, start, unreached, reached, deleted}
use Rattle.table.proofs.Basics.{inside}
use Rattle.auction.proofs.Steps.Kinds.{Kind, deletes, contracts, extends, kind}

-- offering arcs changes neither the path nor a price
offer_keeps : (t : Table) (v i : ℕ) (x : State) → ((offer t v i x).path ≡ x.path) × ((offer t v i x).price ≡ x.price)
unfolding offer with_kept state
offer_keeps t v i x =
    ⊎_elim (λ (e : takes t v i x ≡ true). rw e (refl, refl)) (λ (e : takes t v i x ≡ false). rw e (refl, refl)) (cases_Bool (takes t v i x))

offers_keep : (k i : ℕ) (t : Table) (v : ℕ) (x : State) → ((offers k i t v x).path ≡ x.path) × ((offers k i t v x).price ≡ x.price)
unfolding offers
offers_keep zero i t v x = (refl, refl)
offers_keep (suc k) i t v x =
    let one = offer_keeps t v i x in
    let more = offers_keep k (suc i) t v (offer t v i x) in
    (more.0 ∙ one.0, more.1 ∙ one.1)

-- an extension changes no price and puts the child on the path
pub extension_keeps : (t : Table) (j : ℕ) (x : State) → ((extension t j x).path ≡ j ∷ x.path) × ((extension t j x).price ≡ x.price)
unfolding extension longer reach with_status state
extension_keeps t j x =
    ⊎_elim (λ (e : was_reached x j ≡ true). rw e (refl, refl))
    (λ (e : was_reached x j ≡ false). rw e (offers_keep (arc_count t) 0 t j (with_status j reached (longer j x))))
    (cases_Bool (was_reached x j))

pub start_path : (t : Table) → (start t).path ≡ t.origin ∷ []
unfolding start reach with_status fresh state
start_path t = (offers_keep (arc_count t) 0 t t.origin (with_status t.origin reached (fresh t))).0

-- a path without its terminal node is shorter
shorter : (p : List ℕ) → 1 ≤ length p → length (without_terminal p) ≡ length p → ⊥
unfolding without_terminal
shorter [] h e = omega (arith, h)
shorter (v ∷ p) h e = omega (arith, e)

-- AN ITERATION that leaves the path as long as it was is a contraction at the origin, whose price becomes the best bid,
pub record Lifted (t : Table) (x y : State) : Type 0 where
  pub bid : Bid
  pub is_best : best t (terminal x) x ≡ some bid
  pub price_so : price_at y t.origin ≡ bid.value

module _ (t : Table) (x y : State) (e : next t x ≡ some y) where
  same_long : 1 ≤ length x.path → t.origin < length x.price → Kind t x y → length y.path ≡ length x.path → Lifted t x y
  unfolding price_at deletion contraction state
  same_long some_node inside (deletes none_there inner same) h =
      absurd (shorter x.path some_node (ap (λ (z : State). length z.path) same ∙ h))
  same_long some_node inside (contracts b there less same) h =
      ⊎_elim
      (λ (q : terminal x ≡ t.origin).
      record {
        bid = b;
        is_best = there;
        price_so =
            ap (λ (z : State). get_or z.price t.origin 0) (sym same)
            ∙ ap (λ (v : ℕ). get_or (set x.price v b.value) t.origin 0) q ∙ get_or-set_same x.price t.origin b.value 0 inside;
      })
      (λ (q : terminal x ≡ t.origin → ⊥).
      absurd
      (shorter x.path some_node
      (ap (λ (c : Bool). length (cond c x.path (without_terminal x.path))) (sym (ne_eqb (terminal x) t.origin q))
      ∙ ap (λ (z : State). length z.path) same ∙ h)))
      (cases_eq (terminal x) t.origin)
  same_long some_node inside (extends b there equal same) h =
      absurd (omega (arith, h, ap (λ (z : State). length z.path) same, ap length (extension_keeps t (head_at t b.by_arc) x).0))

  pub lifts : 1 ≤ length x.path → t.origin < length x.price → length y.path ≡ length x.path → Lifted t x y
  lifts some_node inside = same_long some_node inside (kind t x y e)

  -- and every other leaves the origin's price as it was
  changed_long : Kind t x y → (length y.path ≡ length x.path → ⊥) → price_at y t.origin ≡ price_at x t.origin
  unfolding price_at deletion contraction state
  changed_long (deletes none_there inner same) d = ap (λ (z : State). get_or z.price t.origin 0) (sym same)
  changed_long (contracts b there less same) d =
      ⊎_elim
      (λ (q : terminal x ≡ t.origin).
      absurd
      (d
      (ap (λ (z : State). length z.path) (sym same)
      ∙ ap (λ (c : Bool). length (cond c x.path (without_terminal x.path))) (eq-eqb (terminal x) t.origin q))))
      (λ (q : terminal x ≡ t.origin → ⊥).
      ap (λ (z : State). get_or z.price t.origin 0) (sym same) ∙ get_or-set_other x.price (terminal x) t.origin b.value 0 (λ z. q (sym z)))
      (cases_eq (terminal x) t.origin)
  changed_long (extends b there equal same) d =
      ap (λ (z : State). get_or z.price t.origin 0) (sym same)
      ∙ ap (λ (l : List ℕ). get_or l t.origin 0) (extension_keeps t (head_at t b.by_arc) x).1

  pub moves_keep_price : (length y.path ≡ length x.path → ⊥) → price_at y t.origin ≡ price_at x t.origin
  moves_keep_price = changed_long (kind t x y e)

  -- One that does not make the path longer reaches no node.
  module _ (here : was_reached x (terminal x) ≡ true) where
    deleted_reached : (v : ℕ) → was_reached (deletion (terminal x) x) v ≡ was_reached x v
    unfolding was_reached status_at deletion state
    deleted_reached v =
        ⊎_elim
        (λ (e : v ≡ terminal x).
        let inside : terminal x < length x.status = inside x.status (terminal x) (ltb-true 0 (status_at x (terminal x)) here) in
        ap (λ (u : ℕ). ltb unreached (get_or (set x.status (terminal x) deleted) u unreached)) e
        ∙ ap (ltb unreached) (get_or-set_same x.status (terminal x) deleted unreached inside) ∙ sym here ∙ ap (was_reached x) (sym e))
        (λ (d : v ≡ terminal x → ⊥). ap (ltb unreached) (get_or-set_other x.status (terminal x) v deleted unreached d))
        (cases_eq v (terminal x))

    same_reached : Kind t x y → length y.path ≤ length x.path → (v : ℕ) → was_reached y v ≡ was_reached x v
    unfolding was_reached status_at contraction state
    same_reached (deletes none_there inner same) h v = ap (λ (z : State). was_reached z v) (sym same) ∙ deleted_reached v
    same_reached (contracts b there less same) h v = ap (λ (z : State). was_reached z v) (sym same)
    same_reached (extends b there equal same) h v =
        absurd (omega (arith, h, ap (λ (z : State). length z.path) same, ap length (extension_keeps t (head_at t b.by_arc) x).0))

    pub reaches_none : length y.path ≤ length x.path → (v : ℕ) → was_reached y v ≡ was_reached x v
    reaches_none = same_reached (kind t x y e)

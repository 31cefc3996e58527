-- Linking the arcs from the last to the first: the arcs from a position on are linked. Assumes nothing.
use mathlib.Core.Path.{◌≡◌, refl, sym, ap, subst, ◌∙◌}
use mathlib.Core.List.{List}
use mathlib.Core.Logic.{⊎_elim}
use Prim.Native.Nat.{ℕ, suc, ◌-◌, ◌≤◌, ◌<◌}
use native.Mathlib.Omega.{arith}
use lib.ListN.{length, get_or, set, length-set}
use lib.Seq.{get_or-set_same, get_or-set_other}
use borrow.Author.Tests.{eq-eqb, ne_eqb}
use Rattle.std.proofs.lemmas.Bool.{cases_eq}
use Rattle.table.specs.Table.{Table, arc_count, tail_at, down, no_arc}
use Rattle.forward_star.specs.Lists.{next_out, Tails, Linked}

pub record LinkedFrom (t : Table) (p : ℕ) (first next : List ℕ) : Type 0 where
  pub first_arc : (v : ℕ) → v < t.n → get_or first v 0 ≡ next_out (arc_count t - p) p t v
  pub next_arc : (i : ℕ) → p ≤ i → i < arc_count t → tail_at t i < t.n → get_or next i 0 ≡ next_out (arc_count t - suc i) (suc i) t (tail_at t i)

pub record Linking (tails lengths first₀ first next : List ℕ) (p : ℕ) : Type 0 where
  pub low : p ≤ length tails
  pub first_long : length first ≡ length first₀
  pub next_long : length next ≡ length tails
  pub linked : (t : Table) → t.n ≡ length first₀ → Tails t tails lengths → LinkedFrom t p first next

pub begins : {tails lengths first next : List ℕ} → length next ≡ length tails → ((v : ℕ) → v < length first → get_or first v 0 ≡ no_arc) →
    Linking tails lengths first first next (length tails)
unfolding next_out
begins {tails} {lengths} {first} {next} long empty =
    record {
      low = omega arith;
      first_long = refl;
      next_long = long;
      linked = λ t en ts.
          record {
            first_arc = λ v h.
                let z : arc_count t - length tails ≡ 0 = omega (arith, ts.count) in
                rw z (empty v (omega arith));
            next_arc = λ i low h. absurd (omega (arith, ts.count));
          };
    }

-- one arc more, at q
module _ (t : Table) {first next : List ℕ} {p : ℕ} (q : ℕ) (f : LinkedFrom t p first next) (e : p ≡ suc q) (low : p ≤ arc_count t) where
  -- the list of a node that it does not leave stays
  other_first : (w : ℕ) → w < t.n → (tail_at t q ≡ w → ⊥) → get_or first w 0 ≡ next_out (arc_count t - q) q t w
  unfolding next_out
  other_first w l d =
      let z : arc_count t - q ≡ suc (arc_count t - suc q) = omega arith in
      rw (z, ne_eqb (tail_at t q) w d) (subst (λ (m : ℕ). get_or first w 0 ≡ next_out (arc_count t - m) m t w) e (f.first_arc w l))

  -- where it leaves v, it now leads v's list
  one_first : (v : ℕ) → tail_at t q ≡ v → v < length first → (w : ℕ) → w < t.n → get_or (set first v q) w 0 ≡ next_out (arc_count t - q) q t w
  unfolding next_out
  one_first v at h w l =
      let z : arc_count t - q ≡ suc (arc_count t - suc q) = omega arith in
      ⊎_elim
      (λ (s : w ≡ v). rw (z, eq-eqb (tail_at t q) w (at ∙ sym s)) (ap (λ m. get_or (set first v q) m 0) s ∙ get_or-set_same first v q 0 h))
      (λ (d : w ≡ v → ⊥). get_or-set_other first v w q 0 d ∙ other_first w l (λ s. d (sym s ∙ at)))
      (cases_eq w v)

  one_next : (v : ℕ) → tail_at t q ≡ v → v < t.n → q < length next →
      (i : ℕ) → q ≤ i → i < arc_count t → tail_at t i < t.n →
      get_or (set next q (get_or first v 0)) i 0 ≡ next_out (arc_count t - suc i) (suc i) t (tail_at t i)
  one_next v at h inside i from l leaves =
      ⊎_elim
      (λ (s : i ≡ q).
      rw (s, get_or-set_same next q (get_or first v 0) 0 inside, at)
      (subst (λ (m : ℕ). get_or first v 0 ≡ next_out (arc_count t - m) m t v) e (f.first_arc v h)))
      (λ (d : i ≡ q → ⊥). get_or-set_other next q i (get_or first v 0) 0 d ∙ f.next_arc i (omega arith) l leaves)
      (cases_eq i q)

-- an arc whose link is not down
pub goes_on : {tails lengths first₀ first next : List ℕ} {p : ℕ} (v q : ℕ) → Linking tails lengths first₀ first next p → 0 < p →
    (get_or lengths (p - 1) 0 ≡ down → ⊥) → v ≡ get_or tails (p - 1) 0 → q ≡ p - 1 → ((i : ℕ) → i < length tails → get_or tails i 0 < length first₀) →
    Linking tails lengths first₀ (set first v q) (set next (p - 1) (get_or first v 0)) (p - 1)
goes_on {tails} {lengths} {first₀} {first} {next} {p} v q inv pos up ev eq below =
    let step : p ≡ suc (p - 1) = omega arith in
    let inside : v < length first₀ = subst (λ (m : ℕ). m < length first₀) (sym ev) (below (p - 1) (omega (arith, inv.low))) in
    record {
      low = omega (arith, inv.low);
      first_long = length-set first v q ∙ inv.first_long;
      next_long = length-set next (p - 1) (get_or first v 0) ∙ inv.next_long;
      linked = λ t en ts.
          let f = inv.linked t en ts in
          let at : tail_at t (p - 1) ≡ v = sym (ts.tail (p - 1) (omega (arith, inv.low, ts.count)) up) ∙ sym ev in
          let low : p ≤ arc_count t = omega (arith, inv.low, ts.count) in
          record {
            first_arc =
                subst (λ (m : ℕ). (w : ℕ) → w < t.n → get_or (set first v m) w 0 ≡ next_out (arc_count t - (p - 1)) (p - 1) t w) (sym eq)
                (one_first t (p - 1) f step low v at (omega (arith, inv.first_long)));
            next_arc = one_next t (p - 1) f step low v at (omega arith) (omega (arith, inv.next_long, inv.low));
          };
    }

-- an arc whose link is down
pub goes_past : {tails lengths first₀ first next : List ℕ} {p : ℕ} → Linking tails lengths first₀ first next p → 0 < p →
    get_or lengths (p - 1) 0 ≡ down → Linking tails lengths first₀ first next (p - 1)
goes_past {tails} {lengths} {first₀} {first} {next} {p} inv pos is_down =
    record {
      low = omega (arith, inv.low);
      first_long = inv.first_long;
      next_long = inv.next_long;
      linked = λ t en ts.
          let f = inv.linked t en ts in
          let low : p ≤ arc_count t = omega (arith, inv.low, ts.count) in
          let none = ts.none (p - 1) (omega arith) is_down in
          record {
            first_arc = λ w l. other_first t (p - 1) f (omega arith) low w l (λ s. none (omega (arith, s, l)));
            next_arc = λ i from l leaves.
                ⊎_elim
                (λ (s : i ≡ p - 1). absurd (none (subst (λ (m : ℕ). tail_at t m < t.n) s leaves)))
                (λ (d : i ≡ p - 1 → ⊥). f.next_arc i (omega arith) l leaves)
                (cases_eq i (p - 1));
          };
    }

pub ends : {tails lengths first₀ first next : List ℕ} {p : ℕ} → Linking tails lengths first₀ first next p → p ≤ 0 →
    (t : Table) → t.n ≡ length first₀ → Tails t tails lengths → Linked t first next
ends {tails} {lengths} {first₀} {first} {next} {p} inv h t en ts =
    let z : p ≡ 0 = omega arith in
    let f = subst (λ (m : ℕ). LinkedFrom t m first next) z (inv.linked t en ts) in
    let whole : arc_count t - 0 ≡ arc_count t = omega arith in
    record {
      first_count = inv.first_long ∙ sym en;
      next_count = inv.next_long ∙ ts.count;
      first_arc = λ v l. subst (λ (m : ℕ). get_or first v 0 ≡ next_out m 0 t v) whole (f.first_arc v l);
      next_arc = λ i l. f.next_arc i (omega arith) l;
    }

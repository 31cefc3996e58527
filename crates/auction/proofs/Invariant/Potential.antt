-- The count: how often a node can be contracted. Assumes nothing.
--
-- A node with a kept arc that is not deleted is LOOSE where its estimate is above its tail's. The potential of a state is the sum of the depths of its
-- loose nodes. A contraction at v finds all children of v loose and makes one tight: the potential loses its depth, one more than v's, and gains at
-- most v's own. Deletions and extensions add nothing, and reaching the r-th node adds at most r for each of the n − r unreached ones.
use mathlib.Core.Path.{◌≡◌, refl, sym, ap, ◌∙◌}
use mathlib.Core.Bool.{Bool, true, false, ◌&&◌, not, cond}
use mathlib.Core.Logic.{◌⊎◌, inl, inr, ⊎_elim}
use mathlib.Core.Option.{Option, none, some}
use Prim.Native.Nat.{ℕ, zero, suc, ◌+◌, ◌*◌, ◌-◌, ◌≤◌, ◌<◌}
use native.Mathlib.Omega.{arith}
use native.Mathlib.Nat.{mul-add, mul-zero, mul-one}
use lib.Dec.{ltb}
use borrow.Author.Tests.{not-true, ltb-true, lt-ltb, le-ltb}
use Rattle.std.proofs.lemmas.Bool.{and_parts, cases_Bool, cases_eq}
use Rattle.table.specs.Table.{Table, tail_at}
use Rattle.auction.specs.Auction.{State, kept_at, status_at, is_deleted, unreached, deleted}
use Rattle.auction.specs.HandOver.{reached_count}
use Rattle.table.proofs.Basics.{option_or}
use Rattle.auction.proofs.Sums.{total, total_le, total_add, total_scale, total_const}
use Rattle.auction.proofs.Steps.Effects.{estimate, deleted_status, undeleted_status}
use Rattle.auction.proofs.Invariant.Sound.{Nodes, reached_low, one_if_reached, reached_one, unreached_none, reached_total}

-- a node is loose where it is not deleted and its estimate is above that of its kept arc's tail
unfoldable pub loose : Table → State → (v : ℕ) → Option ℕ → Bool
loose t x v none = false
loose t x v (some k) = not (is_deleted x v) && ltb (estimate x (tail_at t k)) (estimate x v)

-- the depth of a loose node, 0 of any other
unfoldable pub slack : Table → State → (ℕ → ℕ) → (v : ℕ) → ℕ
slack t x dep v = cond (loose t x v (kept_at x v)) (dep v) 0

pick_low : (b : Bool) (a : ℕ) → cond b a 0 ≤ a
pick_low true a = omega arith
pick_low false a = omega arith

module _ (t : Table) (x : State) (dep : ℕ → ℕ) (v : ℕ) where
  pub slack_low : slack t x dep v ≤ dep v
  unfolding slack
  slack_low = pick_low (loose t x v (kept_at x v)) (dep v)

  pub slack_unkept : kept_at x v ≡ none → slack t x dep v ≡ 0
  unfolding slack loose
  slack_unkept e = rw e

  pub slack_tight : (k : ℕ) → kept_at x v ≡ some k → estimate x v ≤ estimate x (tail_at t k) → slack t x dep v ≡ 0
  unfolding slack loose
  slack_tight k e h = rw (e, le-ltb (estimate x (tail_at t k)) (estimate x v) h) (off (not (is_deleted x v)))
    where
      off : (b : Bool) → cond (b && false) (dep v) 0 ≡ 0
      off true = refl
      off false = refl

  pub slack_loose : (k : ℕ) → kept_at x v ≡ some k → (status_at x v ≡ deleted → ⊥) → estimate x (tail_at t k) < estimate x v → slack t x dep v ≡ dep v
  unfolding slack loose
  slack_loose k e d h =
      let live : is_deleted x v ≡ false =
      ⊎_elim (λ (p : is_deleted x v ≡ true). absurd (d (deleted_status x v p))) (λ (p : is_deleted x v ≡ false). p) (cases_Bool (is_deleted x v)) in
      rw (e, live, lt-ltb (estimate x (tail_at t k)) (estimate x v) h)

  -- the node is loose
  pub record Loose : Type 0 where
    pub by_arc : ℕ
    pub kept : kept_at x v ≡ some by_arc
    pub undeleted : status_at x v ≡ deleted → ⊥
    pub above : estimate x (tail_at t by_arc) < estimate x v

  loose_arc : (k : ℕ) → kept_at x v ≡ some k → loose t x v (some k) ≡ true → Loose
  unfolding loose
  loose_arc k e l =
      let p = and_parts (not (is_deleted x v)) (ltb (estimate x (tail_at t k)) (estimate x v)) l in
      record {
        by_arc = k;
        kept = e;
        undeleted = undeleted_status x v (not-true (is_deleted x v) p.0);
        above = ltb-true (estimate x (tail_at t k)) (estimate x v) p.1;
      }

  -- a node has no slack, or it is loose
  slack_cases : (slack t x dep v ≡ 0) ⊎ Loose
  unfolding slack
  slack_cases =
      ⊎_elim (λ (n : kept_at x v ≡ none). inl (slack_unkept n))
      (λ (k : (k : ℕ) × (kept_at x v ≡ some k)).
      ⊎_elim (λ (l : loose t x v (some k.0) ≡ true). inr (loose_arc k.0 k.1 l)) (λ (l : loose t x v (some k.0) ≡ false). inl (rw (k.1, l)))
      (cases_Bool (loose t x v (some k.0))))
      (option_or (kept_at x v))

-- a node that is loose only where it was before
pub slack_falls : (t : Table) (x y : State) (dep dep' : ℕ → ℕ) (v : ℕ) → dep' v ≡ dep v → kept_at y v ≡ kept_at x v →
    (status_at x v ≡ deleted → status_at y v ≡ deleted) →
    ((k : ℕ) → kept_at x v ≡ some k → estimate y (tail_at t k) < estimate y v → estimate x (tail_at t k) < estimate x v) →
    slack t y dep' v ≤ slack t x dep v
slack_falls t x y dep dep' v same kept gone above =
    ⊎_elim (λ (z : slack t y dep' v ≡ 0). omega arith)
    (λ (l : Loose t y dep' v).
    let before = sym kept ∙ l.kept in
    let was = slack_loose t x dep v l.by_arc before (λ e. l.undeleted (gone e)) (above l.by_arc before l.above) in
    omega (arith, was, same, slack_low t y dep' v))
    (slack_cases t y dep' v)

-- THE SUM OVER THE STAGES: k for each of the n − k nodes that are unreached when the k-th is reached, for k from 1 to r
unfoldable pub stages : (n r : ℕ) → ℕ
stages n zero = 0
stages n (suc r) = stages n r + suc r * (n - suc r)

-- reaching: f bounds the slack of the reached nodes, and no unreached node is deeper than the number of reached ones
reach_sum : (t : Table) (y : State) (dep : ℕ → ℕ) (f : ℕ → ℕ) → Nodes t y dep → ((u : ℕ) → unreached < status_at y u → slack t y dep u ≤ f u) →
    total t.n (slack t y dep) + reached_count t y * reached_count t y ≤ total t.n f + reached_count t y * t.n
reach_sum t y dep f s low =
    let r = reached_count t y in
    let one = one_if_reached y in
    let each : (u : ℕ) → u < t.n → slack t y dep u + r * one u ≤ f u + r =
    λ u h.
    ⊎_elim
    (λ (z : status_at y u ≡ unreached).
    let none_there : r * one u ≡ 0 = ap (λ (a : ℕ). r * a) (unreached_none y u z) ∙ mul-zero r in
    ⊎_elim (λ (e : kept_at y u ≡ none). omega (arith, slack_unkept t y dep u e))
    (λ (e : (k : ℕ) × (kept_at y u ≡ some k)).
    let a = s.kept u e.0 e.1 in
    omega (arith, slack_low t y dep u, a.deeper, s.shallow (tail_at t e.0) a.from_reached))
    (option_or (kept_at y u)))
    (λ (d : status_at y u ≡ unreached → ⊥).
    let h : unreached < status_at y u = omega arith in
    let one_there : r * one u ≡ r = ap (λ (a : ℕ). r * a) (reached_one y u h) ∙ mul-one r in
    omega (arith, low u h))
    (cases_eq (status_at y u) unreached) in
    let a = total_le t.n (λ u. slack t y dep u + r * one u) (λ u. f u + r) each in
    let b = total_add t.n (slack t y dep) (λ u. r * one u) in
    let c = total_scale t.n r one in
    let d = total_add t.n f (λ u. r) in
    let e = total_const t.n r in
    let g : r * total t.n one ≡ r * r = ap (λ (k : ℕ). r * k) (sym (reached_total t y)) in
    omega arith

-- so reaching one more node adds at most a stage
pub reach_potential : (t : Table) (y : State) (dep : ℕ → ℕ) (f : ℕ → ℕ) (q : ℕ) → Nodes t y dep → ((u : ℕ) → unreached < status_at y u → slack t y dep u ≤ f u) →
    reached_count t y ≡ suc q → stages t.n q + total t.n (slack t y dep) ≤ total t.n f + stages t.n (reached_count t y)
unfolding stages
reach_potential t y dep f q s low one_more =
    let r = reached_count t y in
    let rest : t.n ≡ (t.n - r) + r = omega (arith, reached_low t y) in
    let split : r * t.n ≡ r * (t.n - r) + r * r = ap (λ (a : ℕ). r * a) rest ∙ mul-add r (t.n - r) r in
    let stage : stages t.n r ≡ stages t.n q + r * (t.n - r) =
    ap (stages t.n) one_more ∙ ap (λ (a : ℕ). stages t.n q + a * (t.n - a)) (sym one_more) in
    omega (arith, reach_sum t y dep f s low, split, stage)

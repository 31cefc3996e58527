-- The invariant of the auction's states. Assumes nothing.
--
-- Write d(v) for a node's bound and f(v) for its estimate, price plus bound. Where k is v's kept arc and u its tail, d(v) is d(u) plus the arc's
-- length, so the price condition on the arc says just f(u) ≤ f(v). A contraction lifts f of the terminal node to the least f of its children, an
-- extension goes to the first child whose f is equal, and along the path f is the origin's price.
--
-- The kept arcs form a tree whose root is the origin. DEP gives each node's depth in it: how many arcs lie between the node and the origin. A node is
-- `unreached`, `reached` or `deleted`; one that was reached, deleted since or not, has a status above `unreached`.
use mathlib.Core.Path.{◌≡◌, refl, sym, ap, ◌∙◌}
use mathlib.Core.Bool.{cond}
use mathlib.Core.List.{List, [], ◌∷◌}
use mathlib.Core.Logic.{⊎_elim}
use mathlib.Core.Option.{none, some}
use Prim.Native.Nat.{ℕ, zero, suc, ◌+◌, ◌*◌, ◌≤◌, ◌<◌}
use native.Mathlib.Omega.{arith}
use lib.ListN.{length, get_or}
use Rattle.std.proofs.lemmas.Bool.{cases_eq}
use Rattle.table.specs.Table.{Table, arc_count, tail_at, head_at, length_at, longest}
use Rattle.auction.specs.Auction.{State, price_at, bound_at, kept_at, status_at, distance, or_zero, was_reached, terminal, unreached, reached, deleted}
use Rattle.auction.specs.HandOver.{reached_count}
use Rattle.table.proofs.Basics.{option_or}
use Rattle.auction.proofs.Sums.{total, total_same, total_le, total_const, total_one, only_at, only_same, only_other}
use Rattle.auction.proofs.Steps.Effects.{Sizes, Same, estimate, same_estimate, known_distance, status_reached, status_unreached}

-- K IS V'S KEPT ARC
pub record KeptArc (t : Table) (x : State) (dep : ℕ → ℕ) (v k : ℕ) : Type 0 where
  -- it stands in the table,
  pub listed : k < arc_count t
  -- and leads into v
  pub into : head_at t k ≡ v
  -- from a node that was reached, since only reaching a node offers its arcs;
  pub from_reached : unreached < status_at x (tail_at t k)
  -- v's bound is the tail's distance plus the arc's length,
  pub bound : bound_at x v ≡ some (distance x (tail_at t k) + length_at t k)
  -- and v lies one arc deeper than the tail
  pub deeper : dep v ≡ suc (dep (tail_at t k))

-- AN ARC HAS BEEN OFFERED TO ITS HEAD, as every arc out of a node that was reached has been
pub record Relaxed (t : Table) (x : State) (i : ℕ) : Type 0 where
  -- the head has a bound,
  pub bounded : bound_at x (head_at t i) ≡ none → ⊥
  -- no greater than what the arc offers,
  pub low : distance x (head_at t i) ≤ distance x (tail_at t i) + length_at t i
  -- and where it is just that, the head's kept arc is this one or an earlier one
  pub earliest : distance x (head_at t i) ≡ distance x (tail_at t i) + length_at t i → or_zero (kept_at x (head_at t i)) ≤ i

-- K IS THE KEPT ARC OF V, AND V IS NOT DELETED
pub record LiveArc (t : Table) (x : State) (v k : ℕ) : Type 0 where
  -- its tail is not deleted either: a node is deleted only when it has no children
  pub tail_live : status_at x (tail_at t k) ≡ reached
  -- and the estimate does not fall along it: that is the price condition
  pub rising : estimate x (tail_at t k) ≤ estimate x v

-- WHAT HOLDS OF EVERY NODE
pub record Nodes (t : Table) (x : State) (dep : ℕ → ℕ) : Type 0 where
  -- there is one price, bound, kept arc and status a node
  pub sizes : Sizes t x
  -- the origin is at distance 0,
  pub origin_bound : bound_at x t.origin ≡ some 0
  -- has no kept arc,
  pub origin_kept : kept_at x t.origin ≡ none
  -- was reached and is never deleted,
  pub origin_status : status_at x t.origin ≡ reached
  -- and is the root of the tree
  pub origin_depth : dep t.origin ≡ 0
  -- there are no other statuses
  pub status_low : (v : ℕ) → status_at x v ≤ deleted
  -- a kept arc is one that gave its head the bound
  pub kept : (v k : ℕ) → kept_at x v ≡ some k → KeptArc t x dep v k
  -- a node other than the origin has no bound without a kept arc
  pub unkept : (v : ℕ) → kept_at x v ≡ none → (v ≡ t.origin → ⊥) → bound_at x v ≡ none
  -- a node without a bound was not reached
  pub unbounded : (v : ℕ) → bound_at x v ≡ none → status_at x v ≡ unreached
  -- a node that was not reached has price 0
  pub unpriced : (v : ℕ) → status_at x v ≡ unreached → price_at x v ≡ 0
  -- a node that is not deleted hangs on one that is not, and the price condition holds between them
  pub live : (v k : ℕ) → kept_at x v ≡ some k → (status_at x v ≡ deleted → ⊥) → LiveArc t x v k
  -- no reached node is farther than the origin's price
  pub level : (v : ℕ) → unreached < status_at x v → distance x v ≤ price_at x t.origin
  -- the nodes above a reached node in the tree were reached too, so its depth is below their number
  pub shallow : (v : ℕ) → unreached < status_at x v → dep v < reached_count t x
  -- a distance is a sum of as many lengths as the node is deep, none above the greatest
  pub small_distance : (v : ℕ) → distance x v ≤ dep v * longest
  -- an estimate is at most n times the greatest length, so no sum passes 64 bits
  pub small_estimate : (v : ℕ) → estimate x v ≤ t.n * longest

-- the arcs out of reached nodes have been offered, those out of j at the positions below q
unfoldable pub RelaxedTo : (q j : ℕ) → Table → State → Type 0
RelaxedTo q j t x = (i : ℕ) → i < arc_count t → unreached < status_at x (tail_at t i) → (tail_at t i ≡ j → i < q) → Relaxed t x i

-- V COMES NEXT TO U ON THE PATH
pub record Link (t : Table) (x : State) (v u : ℕ) : Type 0 where
  -- v's kept arc
  pub by_arc : ℕ
  pub kept : kept_at x v ≡ some by_arc
  -- leaves u;
  pub leaves : tail_at t by_arc ≡ u
  -- v was reached and is not deleted,
  pub status : status_at x v ≡ reached
  -- and its estimate is u's: the price condition holds with equality
  pub tight : estimate x v ≡ estimate x u

-- the path, terminal node first, leads back from link to link to the origin
unfoldable pub Chain : Table → State → List ℕ → Type 0
Chain t x [] = ⊥
Chain t x (v ∷ []) = v ≡ t.origin
Chain t x (v ∷ u ∷ more) = Link t x v u × Chain t x (u ∷ more)

-- THE INVARIANT
pub record Sound (t : Table) (x : State) (dep : ℕ → ℕ) : Type 0 where
  -- it holds of every node,
  pub nodes : Nodes t x dep
  -- every arc out of a node that was reached has been offered,
  pub relaxed : (i : ℕ) → i < arc_count t → unreached < status_at x (tail_at t i) → Relaxed t x i
  -- the path is a path in the tree, from the origin to the terminal node,
  pub chain : Chain t x x.path
  -- and has as many nodes as the terminal node is deep, and one
  pub path_depth : length x.path ≡ suc (dep (terminal x))

-- CONSEQUENCES

module _ {t : Table} {x : State} {dep : ℕ → ℕ} (s : Nodes t x dep) where
  pub origin_estimate : estimate x t.origin ≡ price_at x t.origin
  unfolding estimate
  origin_estimate = omega (arith, known_distance x t.origin 0 s.origin_bound)

  pub reached_bounded : (v : ℕ) → unreached < status_at x v → bound_at x v ≡ none → ⊥
  reached_bounded v h e = omega (arith, s.unbounded v e)

  -- a node with a bound that is not deleted is at least as far as the origin's price
  ordered_at : (k v : ℕ) → dep v ≡ k → (bound_at x v ≡ none → ⊥) → (status_at x v ≡ deleted → ⊥) → price_at x t.origin ≤ estimate x v
  ordered_at zero v d b h =
      ⊎_elim
      (λ (e : kept_at x v ≡ none).
      ⊎_elim (λ (o : v ≡ t.origin). omega (arith, origin_estimate, ap (estimate x) o)) (λ (o : v ≡ t.origin → ⊥). absurd (b (s.unkept v e o)))
      (cases_eq v t.origin))
      (λ (e : (k : ℕ) × (kept_at x v ≡ some k)). absurd (omega (arith, (s.kept v e.0 e.1).deeper)))
      (option_or (kept_at x v))
  ordered_at (suc k) v d b h =
      ⊎_elim
      (λ (e : kept_at x v ≡ none).
      ⊎_elim (λ (o : v ≡ t.origin). omega (arith, origin_estimate, ap (estimate x) o)) (λ (o : v ≡ t.origin → ⊥). absurd (b (s.unkept v e o)))
      (cases_eq v t.origin))
      (λ (e : (k : ℕ) × (kept_at x v ≡ some k)).
      let a = s.kept v e.0 e.1 in
      let l = s.live v e.0 e.1 h in
      let r =
      ordered_at k (tail_at t e.0) (omega (arith, a.deeper)) (reached_bounded (tail_at t e.0) a.from_reached)
      (λ (q : status_at x (tail_at t e.0) ≡ deleted). omega (arith, l.tail_live)) in
      omega (arith, l.rising))
      (option_or (kept_at x v))

  pub ordered : (v : ℕ) → (bound_at x v ≡ none → ⊥) → (status_at x v ≡ deleted → ⊥) → price_at x t.origin ≤ estimate x v
  ordered v b h = ordered_at (dep v) v refl b h

  -- so an unreached node with a bound is at least as far as every reached one
  pub unreached_far : (v : ℕ) → (bound_at x v ≡ none → ⊥) → status_at x v ≡ unreached → price_at x t.origin ≤ distance x v
  unfolding estimate
  unreached_far v b h = omega (arith, ordered v b (λ (q : status_at x v ≡ deleted). omega arith), s.unpriced v h)

  -- every node of the path is reached and not deleted, and its estimate is the origin's price
  pub chain_status : (v : ℕ) (more : List ℕ) → Chain t x (v ∷ more) → status_at x v ≡ reached
  unfolding Chain
  chain_status v [] e = ap (status_at x) e ∙ s.origin_status
  chain_status v (u ∷ more) c = c.0.status

  pub chain_estimate : (v : ℕ) (more : List ℕ) → Chain t x (v ∷ more) → estimate x v ≡ price_at x t.origin
  unfolding Chain
  chain_estimate v [] e = ap (estimate x) e ∙ origin_estimate
  chain_estimate v (u ∷ more) c = c.0.tight ∙ chain_estimate u more c.1

  -- a change that leaves the nodes of the path as they were: those reached and less deep than b
  pub chain_moves : (y : State) (b : ℕ) → ((u : ℕ) → status_at x u ≡ reached → dep u < b → Same x y u) → (v : ℕ) (more : List ℕ) → dep v < b →
      Chain t x (v ∷ more) → Chain t y (v ∷ more)
  unfolding Chain
  chain_moves y b same v [] h e = e
  chain_moves y b same v (u ∷ more) h c =
      let l = c.0 in
      let a = s.kept v l.by_arc l.kept in
      let low : dep u < b = omega (arith, a.deeper, ap dep l.leaves) in
      let sv = same v l.status h in
      let su = same u (chain_status u more c.1) low in (
        record {
          by_arc = l.by_arc;
          kept = sv.kept ∙ l.kept;
          leaves = l.leaves;
          status = sv.status ∙ l.status;
          tight = same_estimate sv ∙ l.tight ∙ sym (same_estimate su);
        },
        chain_moves y b same u more low c.1,
      )

  -- the same of a whole path
  pub top_status : (p : List ℕ) → Chain t x p → status_at x (get_or p 0 0) ≡ reached
  unfolding Chain
  top_status [] c = absurd c
  top_status (v ∷ more) c = chain_status v more c

  pub top_estimate : (p : List ℕ) → Chain t x p → estimate x (get_or p 0 0) ≡ price_at x t.origin
  unfolding Chain
  top_estimate [] c = absurd c
  top_estimate (v ∷ more) c = chain_estimate v more c

  pub path_moves : (y : State) → ((u : ℕ) → status_at x u ≡ reached → Same x y u) → (p : List ℕ) → Chain t x p → Chain t y p
  unfolding Chain
  path_moves y same [] c = absurd c
  path_moves y same (v ∷ more) c = chain_moves y (suc (dep v)) (λ u h l. same u h) v more (omega arith) c

-- so the terminal node is reached and not deleted
pub terminal_status : {t : Table} {x : State} {dep : ℕ → ℕ} → Sound t x dep → status_at x (terminal x) ≡ reached
unfolding terminal
terminal_status {x = x} s = top_status s.nodes x.path s.chain

-- THE NUMBER OF REACHED NODES: 1 for each
unfoldable pub one_if_reached : State → (v : ℕ) → ℕ
one_if_reached x v = cond (was_reached x v) 1 0

pub reached_one : (x : State) (v : ℕ) → unreached < status_at x v → one_if_reached x v ≡ 1
unfolding one_if_reached
reached_one x v h = rw (status_reached x v h)

pub unreached_none : (x : State) (v : ℕ) → status_at x v ≡ unreached → one_if_reached x v ≡ 0
unfolding one_if_reached
unreached_none x v h = rw (status_unreached x v h)

same_one : (x y : State) (v : ℕ) → (status_at x v ≡ unreached → status_at y v ≡ unreached) → (unreached < status_at x v → unreached < status_at y v) →
    one_if_reached y v ≡ one_if_reached x v
same_one x y v stays moves =
    ⊎_elim (λ (z : status_at x v ≡ unreached). unreached_none y v (stays z) ∙ sym (unreached_none x v z))
    (λ (d : status_at x v ≡ unreached → ⊥).
    let h : unreached < status_at x v = omega arith in
    reached_one y v (moves h) ∙ sym (reached_one x v h))
    (cases_eq (status_at x v) unreached)

pub reached_total : (t : Table) (x : State) → reached_count t x ≡ total t.n (one_if_reached x)
unfolding reached_count one_if_reached
reached_total t x = refl

-- the same nodes are reached
pub as_reached : (t : Table) (x y : State) → ((v : ℕ) → status_at x v ≡ unreached → status_at y v ≡ unreached) → ((v : ℕ) → unreached < status_at x v → unreached < status_at y v) →
    reached_count t y ≡ reached_count t x
as_reached t x y stays moves =
    reached_total t y ∙ total_same t.n (one_if_reached y) (one_if_reached x) (λ v l. same_one x y v (stays v) (moves v)) ∙ sym (reached_total t x)

pub same_reached : (t : Table) (x y : State) → ((v : ℕ) → status_at y v ≡ status_at x v) → reached_count t y ≡ reached_count t x
same_reached t x y h = as_reached t x y (λ v e. h v ∙ e) (λ v l. omega (arith, h v, l))

pub one_low : (x : State) (v : ℕ) → one_if_reached x v ≤ 1
one_low x v =
    ⊎_elim (λ (z : status_at x v ≡ unreached). omega (arith, unreached_none x v z)) (λ (d : status_at x v ≡ unreached → ⊥). omega (arith, reached_one x v (omega (arith, d))))
    (cases_eq (status_at x v) unreached)

pub reached_low : (t : Table) (x : State) → reached_count t x ≤ t.n
reached_low t x =
    omega (arith, reached_total t x, total_le t.n (one_if_reached x) (λ v. 1) (λ v l. one_low x v), total_const t.n 1)

-- fewer than n where some node is unreached
pub reached_fewer : (t : Table) (x : State) (j : ℕ) → j < t.n → status_at x j ≡ unreached → suc (reached_count t x) ≤ t.n
reached_fewer t x j h z =
    let a =
    total_le t.n (λ v. one_if_reached x v + only_at j 1 v) (λ v. 1)
    (λ v l.
    ⊎_elim (λ (e : v ≡ j). omega (arith, only_same j 1 v e, unreached_none x v (ap (status_at x) e ∙ z)))
    (λ (d : v ≡ j → ⊥). omega (arith, only_other j 1 v d, one_low x v))
    (cases_eq v j)) in
    omega (arith, a, reached_total t x, total_one t.n (one_if_reached x) j 1 h, total_const t.n 1)

-- one more where j, unreached before, is reached
pub one_more_reached : (t : Table) (x y : State) (j : ℕ) → j < t.n → status_at x j ≡ unreached → unreached < status_at y j →
    ((v : ℕ) → (v ≡ j → ⊥) → status_at y v ≡ status_at x v) → reached_count t y ≡ suc (reached_count t x)
one_more_reached t x y j h old new others =
    let a =
    total_same t.n (one_if_reached y) (λ v. one_if_reached x v + only_at j 1 v)
    (λ v l.
    ⊎_elim
    (λ (e : v ≡ j).
    omega
    (arith, only_same j 1 v e, reached_one y v (omega (arith, new, ap (status_at y) e)), unreached_none x v (ap (status_at x) e ∙ old)))
    (λ (d : v ≡ j → ⊥). omega (arith, only_other j 1 v d, same_one x y v (λ e. others v d ∙ e) (λ p. omega (arith, others v d, p))))
    (cases_eq v j)) in
    omega (arith, a, reached_total t x, reached_total t y, total_one t.n (one_if_reached x) j 1 h)

-- What is counted in a state, and what the counts come to. Assumes nothing.
use mathlib.Core.Path.{◌≡◌, ap}
use mathlib.Core.Bool.{cond}
use mathlib.Core.Logic.{⊎_elim}
use mathlib.Core.Option.{some}
use Prim.Native.Nat.{ℕ, suc, ◌+◌, ◌*◌, ◌-◌, ◌/◌, ◌≤◌, ◌<◌}
use native.Mathlib.Omega.{arith}
use lib.Dec.{eqb}
use lib.ListN.{length}
use borrow.Author.Tests.{eq-eqb, ne_eqb}
use Rattle.std.proofs.lemmas.Bool.{cases_eq}
use Rattle.table.specs.Table.{Table, tail_at}
use Rattle.auction.specs.Auction.{State, price_at, kept_at, status_at, distance, terminal, iterations, most_iterations, unreached, deleted}
use Rattle.auction.specs.HandOver.{reached_count}
use Rattle.auction.proofs.Sums.{total, total_le, total_const, total_one, only_at, only_same, only_other}
use Rattle.auction.proofs.Good.{Good}
use Rattle.auction.proofs.Invariant.Sound.{Sound, terminal_status, reached_low}
use Rattle.auction.proofs.Invariant.Potential.{slack, stages}
use Rattle.auction.proofs.Invariant.Stages.{stages_most, sharper, demanded}

-- 1 for a deleted node, else 0
unfoldable pub one_if_deleted : State → (v : ℕ) → ℕ
one_if_deleted x v = cond (eqb (status_at x v) deleted) 1 0

pub deleted_one : (x : State) (v : ℕ) → status_at x v ≡ deleted → one_if_deleted x v ≡ 1
unfolding one_if_deleted
deleted_one x v e = rw (eq-eqb (status_at x v) deleted e)

pub undeleted_none : (x : State) (v : ℕ) → (status_at x v ≡ deleted → ⊥) → one_if_deleted x v ≡ 0
unfolding one_if_deleted
undeleted_none x v h = rw (ne_eqb (status_at x v) deleted h)

pub same_deleted : (x y : State) (v : ℕ) → status_at y v ≡ status_at x v → one_if_deleted y v ≡ one_if_deleted x v
unfolding one_if_deleted
same_deleted x y v e = rw e

-- WHAT THE COUNTS COME TO
pub record Counts (t : Table) (x : State) (dep : ℕ → ℕ) : Type 0 where
  -- the contractions so far and those that the slack left allows are at most what so many reached nodes allow
  pub contracted : x.contractions + total t.n (slack t x dep) ≤ stages t.n (reached_count t x)
  -- there were as many deletions as there are deleted nodes
  pub deleted : x.deletions ≡ total t.n (one_if_deleted x)
  -- each extension is undone by a contraction or a deletion, or still on the path
  pub extended : suc x.extensions ≤ length x.path + (x.contractions + x.deletions)

-- THE INVARIANT AND THE COUNTS
pub record Invariant (t : Table) (x : State) : Type 0 where
  -- the depths of which they speak
  pub depth : ℕ → ℕ
  -- the state is sound,
  pub sound : Sound t x depth
  -- and its counts are bounded
  pub counts : Counts t x depth

-- WHAT A STEP FROM X TO Y DOES
pub record Stepped (t : Table) (x y : State) : Type 0 where
  -- it keeps the invariant,
  pub invariant : Invariant t y
  -- and is one iteration;
  pub counted : iterations y ≡ suc (iterations x)
  -- a node that was reached stays so,
  pub stays : (v : ℕ) → unreached < status_at x v → unreached < status_at y v
  -- at the same distance,
  pub distances : (v : ℕ) → unreached < status_at x v → distance y v ≡ distance x v
  -- and one that is reached now is as far as the origin's price;
  pub arrives : (v : ℕ) → status_at x v ≡ unreached → unreached < status_at y v → distance y v ≡ price_at x t.origin
  -- no price falls,
  pub dearer : (v : ℕ) → price_at x v ≤ price_at y v
  -- a deleted node stays deleted,
  pub gone : (v : ℕ) → status_at x v ≡ deleted → status_at y v ≡ deleted
  -- and an arc out of a node that was reached is kept only where it was before
  pub kepts : (v i : ℕ) → unreached < status_at x (tail_at t i) → kept_at y v ≡ some i → kept_at x v ≡ some i

module _ {t : Table} (g : Good t) {x : State} {dep : ℕ → ℕ} (s : Sound t x dep) (c : Counts t x dep) where
  deletions_low : suc x.deletions ≤ t.n
  deletions_low =
      let o = t.origin in
      let a =
      total_le t.n (λ v. one_if_deleted x v + only_at o 1 v) (λ v. 1)
      (λ v l.
      ⊎_elim
      (λ (e : v ≡ o).
      omega
      (arith, only_same o 1 v e, undeleted_none x v (λ (d : status_at x v ≡ deleted). omega (arith, ap (status_at x) e, s.nodes.origin_status))))
      (λ (d : v ≡ o → ⊥).
      ⊎_elim (λ (q : status_at x v ≡ deleted). omega (arith, only_other o 1 v d, deleted_one x v q))
      (λ (q : status_at x v ≡ deleted → ⊥). omega (arith, only_other o 1 v d, undeleted_none x v q))
      (cases_eq (status_at x v) deleted))
      (cases_eq v o)) in
      omega (arith, a, c.deleted, total_one t.n (one_if_deleted x) o 1 g.origin_in, total_const t.n 1)

  pub path_short : length x.path ≤ t.n
  path_short =
      omega (arith, s.path_depth, s.nodes.shallow (terminal x) (omega (arith, terminal_status s)), reached_low t x)

  counted : iterations x ≤ 2 * stages t.n t.n + 3 * (t.n - 1)
  unfolding iterations
  counted =
      omega
      (arith, c.contracted, stages_most t.n (reached_count t x) (reached_low t x), deletions_low, c.extended, path_short)

  pub fewer : iterations x ≤ (t.n * t.n * t.n - t.n) / 3 + 3 * (t.n - 1)
  fewer = omega (arith, counted, sharper t.n g.some_node)

  pub few : iterations x ≤ most_iterations t.n
  few = omega (arith, counted, demanded t.n g.some_node)

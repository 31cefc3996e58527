-- What each change of the state does to each node: the definitions are opened here, once. Assumes nothing.
use mathlib.Core.Path.{◌≡◌, refl, ap, ◌∙◌}
use mathlib.Core.Bool.{true, false}
use mathlib.Core.Option.{none, some}
use Prim.Native.Nat.{ℕ, ◌+◌, ◌<◌}
use native.Mathlib.Omega.{arith}
use lib.ListN.{length, length-set}
use lib.Seq.{get_or-set_same, get_or-set_other}
use borrow.Author.Tests.{ltb-true, ltb-false, lt-ltb, le-ltb, eqb-true, eqb-false}
use Rattle.table.specs.Table.{Table}
use Rattle.auction.specs.Auction.{State, state, price_at, bound_at, kept_at, status_at, distance, or_zero, was_reached, is_deleted, with_kept, with_status, deletion, contraction, longer, unreached, deleted}
use Rattle.table.proofs.Basics.{inside, inside_some}

-- price and bound together: the least length, as far as is known, of a walk through the node
unfoldable pub estimate : State → (v : ℕ) → ℕ
estimate x v = price_at x v + distance x v

-- the four lists have an entry for each node
pub record Sizes (t : Table) (x : State) : Type 0 where
  pub prices : length x.price ≡ t.n
  pub bounds : length x.bound ≡ t.n
  pub kepts : length x.kept ≡ t.n
  pub statuses : length x.status ≡ t.n

-- a node is as it was
pub record Same (x y : State) (v : ℕ) : Type 0 where
  pub price : price_at y v ≡ price_at x v
  pub bound : bound_at y v ≡ bound_at x v
  pub kept : kept_at y v ≡ kept_at x v
  pub status : status_at y v ≡ status_at x v

pub same_distance : (x y : State) (v : ℕ) → bound_at y v ≡ bound_at x v → distance y v ≡ distance x v
unfolding distance
same_distance x y v e = ap or_zero e

pub same_estimate : {x y : State} {v : ℕ} → Same x y v → estimate y v ≡ estimate x v
unfolding estimate
same_estimate {x} {y} {v} s = let d = same_distance x y v s.bound in omega (arith, s.price)

pub known_distance : (x : State) (v d : ℕ) → bound_at x v ≡ some d → distance x v ≡ d
unfolding distance or_zero
known_distance x v d e = ap or_zero e

pub zero_distance : (x : State) (v : ℕ) → bound_at x v ≡ none → distance x v ≡ 0
unfolding distance or_zero
zero_distance x v e = ap or_zero e

-- the tests on a status
pub reached_status : (x : State) (v : ℕ) → was_reached x v ≡ true → unreached < status_at x v
unfolding was_reached
reached_status x v e = ltb-true unreached (status_at x v) e

pub status_reached : (x : State) (v : ℕ) → unreached < status_at x v → was_reached x v ≡ true
unfolding was_reached
status_reached x v h = lt-ltb unreached (status_at x v) h

pub unreached_status : (x : State) (v : ℕ) → was_reached x v ≡ false → status_at x v ≡ unreached
unfolding was_reached
unreached_status x v e = omega (arith, ltb-false unreached (status_at x v) e)

pub status_unreached : (x : State) (v : ℕ) → status_at x v ≡ unreached → was_reached x v ≡ false
unfolding was_reached
status_unreached x v e = le-ltb unreached (status_at x v) (omega arith)

pub deleted_status : (x : State) (v : ℕ) → is_deleted x v ≡ true → status_at x v ≡ deleted
unfolding is_deleted
deleted_status x v e = eqb-true (status_at x v) deleted e

pub undeleted_status : (x : State) (v : ℕ) → is_deleted x v ≡ false → status_at x v ≡ deleted → ⊥
unfolding is_deleted
undeleted_status x v e = eqb-false (status_at x v) deleted e

-- a node with a status, a bound or a kept arc is below n
pub status_in : {t : Table} {x : State} (v : ℕ) → Sizes t x → unreached < status_at x v → v < t.n
unfolding status_at
status_in {t} {x} v z h = omega (arith, inside x.status v h, z.statuses)

pub bound_in : {t : Table} {x : State} (v : ℕ) {d : ℕ} → Sizes t x → bound_at x v ≡ some d → v < t.n
unfolding bound_at
bound_in {t} {x} v {d} z e = omega (arith, inside_some x.bound v e, z.bounds)

pub kept_below : {t : Table} {x : State} (v : ℕ) {k : ℕ} → Sizes t x → kept_at x v ≡ some k → v < t.n
unfolding kept_at
kept_below {t} {x} v {k} z e = omega (arith, inside_some x.kept v e, z.kepts)

-- AN ARC IS KEPT: the head has its bound and its arc, all else is as it was
module _ (t : Table) (x : State) (j i b : ℕ) where
  pub record Rehung (y : State) : Type 0 where
    pub sizes : Sizes t y
    pub bound : bound_at y j ≡ some b
    pub kept : kept_at y j ≡ some i
    pub others : (v : ℕ) → (v ≡ j → ⊥) → Same x y v
    pub prices : (v : ℕ) → price_at y v ≡ price_at x v
    pub statuses : (v : ℕ) → status_at y v ≡ status_at x v

  pub rehung : Sizes t x → j < t.n → Rehung (with_kept j i b x)
  unfolding with_kept state price_at bound_at kept_at status_at
  rehung z h =
      record {
        sizes =
            record {
              prices = z.prices;
              bounds = length-set x.bound j (some b) ∙ z.bounds;
              kepts = length-set x.kept j (some i) ∙ z.kepts;
              statuses = z.statuses;
            };
        bound = get_or-set_same x.bound j (some b) none (omega (arith, z.bounds));
        kept = get_or-set_same x.kept j (some i) none (omega (arith, z.kepts));
        others =
            λ v d.
            record {
              price = refl;
              bound = get_or-set_other x.bound j v (some b) none d;
              kept = get_or-set_other x.kept j v (some i) none d;
              status = refl;
            };
        prices = λ v. refl;
        statuses = λ v. refl;
      }

-- A STATUS OR A PRICE CHANGES at one node: all else is as it was
module _ (t : Table) (x : State) (j a : ℕ) where
  pub record Restatused (y : State) : Type 0 where
    pub sizes : Sizes t y
    pub here : status_at y j ≡ a
    pub elsewhere : (v : ℕ) → (v ≡ j → ⊥) → status_at y v ≡ status_at x v
    pub prices : (v : ℕ) → price_at y v ≡ price_at x v
    pub bounds : (v : ℕ) → bound_at y v ≡ bound_at x v
    pub kepts : (v : ℕ) → kept_at y v ≡ kept_at x v

  pub restatused : Sizes t x → j < t.n → Restatused (with_status j a x)
  unfolding with_status state price_at bound_at kept_at status_at
  restatused z h =
      record {
        sizes =
            record
            { prices = z.prices; bounds = z.bounds; kepts = z.kepts; statuses = length-set x.status j a ∙ z.statuses };
        here = get_or-set_same x.status j a unreached (omega (arith, z.statuses));
        elsewhere = λ v d. get_or-set_other x.status j v a unreached d;
        prices = λ v. refl;
        bounds = λ v. refl;
        kepts = λ v. refl;
      }

  pub record Repriced (y : State) : Type 0 where
    pub sizes : Sizes t y
    pub here : price_at y j ≡ a
    pub others : (v : ℕ) → (v ≡ j → ⊥) → Same x y v
    pub bounds : (v : ℕ) → bound_at y v ≡ bound_at x v
    pub kepts : (v : ℕ) → kept_at y v ≡ kept_at x v
    pub statuses : (v : ℕ) → status_at y v ≡ status_at x v

  pub repriced : Sizes t x → j < t.n → Repriced (contraction t j a x)
  unfolding contraction state price_at bound_at kept_at status_at
  repriced z h =
      record {
        sizes =
            record
            { prices = length-set x.price j a ∙ z.prices; bounds = z.bounds; kepts = z.kepts; statuses = z.statuses };
        here = get_or-set_same x.price j a 0 (omega (arith, z.prices));
        others =
            λ v d. record { price = get_or-set_other x.price j v a 0 d; bound = refl; kept = refl; status = refl };
        bounds = λ v. refl;
        kepts = λ v. refl;
        statuses = λ v. refl;
      }

-- a deletion changes the status and shortens the path
pub deletion_effect : (t : Table) (x : State) (j : ℕ) → Sizes t x → j < t.n → Restatused t x j deleted (deletion j x)
unfolding deletion with_status state price_at bound_at kept_at status_at
deletion_effect t x j z h =
    let r = restatused t x j deleted z h in
    record {
      sizes =
          record
          { prices = z.prices; bounds = z.bounds; kepts = z.kepts; statuses = r.sizes.statuses };
      here = r.here;
      elsewhere = r.elsewhere;
      prices = λ v. refl;
      bounds = λ v. refl;
      kepts = λ v. refl;
    }

-- a longer path changes no node
pub longer_same : (x : State) (j v : ℕ) → Same x (longer j x) v
unfolding longer state price_at bound_at kept_at status_at
longer_same x j v = record { price = refl; bound = refl; kept = refl; status = refl }

pub longer_sizes : (t : Table) (x : State) (j : ℕ) → Sizes t x → Sizes t (longer j x)
unfolding longer state
longer_sizes t x j z = record { prices = z.prices; bounds = z.bounds; kepts = z.kepts; statuses = z.statuses }

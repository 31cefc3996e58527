-- What the nodes remember from one state to the next: where no child changes, and in two steps. Assumes nothing.
use mathlib.Core.Path.{◌≡◌, refl, sym, ◌∙◌}
use mathlib.Core.List.{List}
use mathlib.Core.Logic.{◌⊎◌, inl, inr, ⊎_elim}
use mathlib.Core.Option.{Option, none, some}
use Prim.Native.Nat.{ℕ, ◌<◌}
use lib.ListN.{length, get_or, set}
use lib.Seq.{get_or-set_same, get_or-set_other}
use borrow.Author.Tests.{both_ways}
use Rattle.std.proofs.lemmas.Bool.{cases_eq, false_from_ne_true}
use Rattle.table.specs.Table.{Table, head_at}
use Rattle.auction.specs.Auction.{State, state, kept_at, status_at, is_kept, is_deleted, to_child}
use Rattle.steps.specs.declared.state.Progress.{Progress}
use Rattle.steps.specs.Seen.{seen}
use Rattle.steps.specs.Memory.{KeptArcs, Keeps, Loses, Remembering}

-- STATES WITH THE SAME CHILDREN
pub record Alike (x y : State) : Type 0 where
  -- the same arcs are kept
  pub kept : (u : ℕ) → kept_at y u ≡ kept_at x u
  -- and the same nodes are deleted
  pub gone : (u : ℕ) → is_deleted y u ≡ is_deleted x u

-- an arc leads to a child by what its head keeps and whether its head is deleted
module _ (x y : State) where
  kept_alike : (i : ℕ) (o : Option ℕ) → is_kept y i o ≡ is_kept x i o
  unfolding is_kept
  kept_alike i none = refl
  kept_alike i (some k) = refl

  pub same_child : (t : Table) (u i : ℕ) → kept_at y (head_at t i) ≡ kept_at x (head_at t i) → is_deleted y (head_at t i) ≡ is_deleted x (head_at t i) →
      to_child t u i y ≡ to_child t u i x
  unfolding to_child
  same_child t u i ek ed = rw (ek, ed, kept_alike i (kept_at x (head_at t i)))

-- the kept arcs of the one are arcs of the table where those of the other are
pub arcs_alike : {t : Table} {x y : State} → Alike x y → KeptArcs t x → KeptArcs t y
arcs_alike a arcs = λ u k e. arcs u k (sym (a.kept u) ∙ e)

-- arrays with the same kept arcs and statuses hold such states, and so they do once an unreached node is marked as reached
pub seen_alike : (p u b p' u' b' k s : List ℕ) (g g' : Progress) → Alike (seen p u b k s g) (seen p' u' b' k s g')
unfolding seen state kept_at is_deleted status_at
seen_alike p u b p' u' b' k s g g' = record { kept = λ w. refl; gone = λ w. refl }

pub marked_alike : (p u b k s : List ℕ) (g : Progress) (v : ℕ) → v < length s → get_or s v 0 ≡ 0 → Alike (seen p u b k s g) (seen p u b k (set s v 1) g)
unfolding seen state kept_at is_deleted status_at
marked_alike p u b k s g v h e =
    record {
      kept = λ w. refl;
      gone = λ w.
          ⊎_elim (λ (z : w ≡ v). rw (z, get_or-set_same s v 1 0 h, e)) (λ (d : w ≡ v → ⊥). rw (get_or-set_other s v w 1 0 d))
          (cases_eq w v);
    }

-- IN TWO STEPS, the second from y to z
module _ {t : Table} {u : ℕ} {m' m'' : List ℕ} {x y z : State} where
  keeps_keeps : {m : List ℕ} → Keeps t u m m' x y → Keeps t u m' m'' y z → Keeps t u m m'' x z
  keeps_keeps a b = record { children = λ i. b.children i ∙ a.children i; memory = b.memory ∙ a.memory }

  keeps_loses : {m : List ℕ} → Keeps t u m m' x y → Loses t u m'' y z → Loses t u m'' x z
  keeps_loses a b =
      record {
        arc = b.arc;
        listed = b.listed;
        child = sym (a.children b.arc) ∙ b.child;
        lost = b.lost;
        gains_none = λ i e. sym (a.children i) ∙ b.gains_none i e;
        memory = b.memory;
      }

  loses_keeps : Loses t u m' x y → Keeps t u m' m'' y z → Loses t u m'' x z
  loses_keeps a b =
      record {
        arc = a.arc;
        listed = a.listed;
        child = a.child;
        lost = b.children a.arc ∙ a.lost;
        gains_none = λ i e. a.gains_none i (sym (b.children i) ∙ e);
        memory = b.memory ∙ a.memory;
      }

  -- a child that is lost does not come back
  loses_loses : Loses t u m' x y → Loses t u m'' y z → Loses t u m'' x z
  loses_loses a b =
      record {
        arc = a.arc;
        listed = a.listed;
        child = a.child;
        lost = false_from_ne_true (to_child t u a.arc z) (λ e. both_ways (to_child t u a.arc y) a.lost (b.gains_none a.arc e));
        gains_none = λ i e. a.gains_none i (b.gains_none i e);
        memory = b.memory;
      }

  both_steps : {m : List ℕ} → Keeps t u m m' x y ⊎ Loses t u m' x y → Keeps t u m' m'' y z ⊎ Loses t u m'' y z → Keeps t u m m'' x z ⊎ Loses t u m'' x z
  both_steps {m} =
      ⊎_elim
      (λ (a : Keeps t u m m' x y). ⊎_elim (λ (b : Keeps t u m' m'' y z). inl (keeps_keeps a b)) (λ (b : Loses t u m'' y z). inr (keeps_loses a b)))
      (λ (a : Loses t u m' x y). ⊎_elim (λ (b : Keeps t u m' m'' y z). inr (loses_keeps a b)) (λ (b : Loses t u m'' y z). inr (loses_loses a b)))

module _ {t : Table} {which : ℕ → Type 0} where
  pub in_two : {m m' m'' : List ℕ} {x y z : State} → Remembering t which m m' x y → Remembering t which m' m'' y z → Remembering t which m m'' x z
  in_two a b =
      record {
        each = λ u h. both_steps (a.each u h) (b.each u h);
        nothing = λ u e. b.nothing u (a.nothing u e);
      }

  -- where no child changes, and nothing is forgotten
  pub unchanged : {m : List ℕ} {x y : State} → Alike x y → Remembering t which m m x y
  unchanged {m} {x} {y} a =
      record {
        each = λ u h. inl (record { children = λ i. same_child x y t u i (a.kept (head_at t i)) (a.gone (head_at t i)); memory = refl });
        nothing = λ u e. e;
      }

  -- from a state on that is like the first
  pub after_alike : {m m' : List ℕ} {x y z : State} → Alike x y → KeptArcs t x → (KeptArcs t y → Remembering t which m m' y z) →
      Remembering t which m m' x z
  after_alike a arcs rest = in_two (unchanged a) (rest (arcs_alike a arcs))

-- of fewer nodes
pub fewer : {t : Table} {which which' : ℕ → Type 0} {m m' : List ℕ} {x y : State} → ((u : ℕ) → which' u → which u) → Remembering t which m m' x y →
    Remembering t which' m m' x y
fewer part r = record { each = λ u h. r.each u (part u h); nothing = r.nothing }

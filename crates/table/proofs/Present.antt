-- Arcs that are present and arcs that are absent: which node each leaves, and what its length says. Assumes nothing.
use mathlib.Core.Path.{◌≡◌, ap}
use mathlib.Core.Bool.{true, false, not}
use mathlib.Core.Logic.{⊎_elim}
use Prim.Native.Nat.{ℕ, ◌≤◌, ◌<◌}
use native.Mathlib.Omega.{arith}
use borrow.Author.Tests.{eq-eqb, ne_eqb, both_ways}
use Rattle.std.proofs.lemmas.Bool.{cases_Bool}
use Rattle.table.specs.Table.{Table, arc_at, length_at, tail_at, present, present_at, most_nodes, down, no_node}

module _ (t : Table) (i : ℕ) where
  -- a present arc leaves its tail, an absent one no node
  pub present_tail : present_at t i ≡ true → tail_at t i ≡ (arc_at t i).tail
  unfolding tail_at
  present_tail p = rw p

  pub absent_tail : present_at t i ≡ false → tail_at t i ≡ no_node
  unfolding tail_at
  absent_tail p = rw p

  -- so an arc that leaves a node is present
  pub leaves_present : t.n ≤ most_nodes → tail_at t i < t.n → present_at t i ≡ true
  leaves_present few low =
      ⊎_elim (λ (p : present_at t i ≡ true). p) (λ (p : present_at t i ≡ false). absurd (omega (arith, few, low, absent_tail p)))
      (cases_Bool (present_at t i))

  -- an arc is absent just where its length says that its link is down
  pub down_absent : length_at t i ≡ down → present_at t i ≡ false
  unfolding present_at present length_at
  down_absent e = ap not (eq-eqb (arc_at t i).arc_length down e)

  pub up_present : (length_at t i ≡ down → ⊥) → present_at t i ≡ true
  unfolding present_at present length_at
  up_present d = ap not (ne_eqb (arc_at t i).arc_length down d)

  pub present_up : present_at t i ≡ true → length_at t i ≡ down → ⊥
  present_up p e = both_ways (present_at t i) (down_absent e) p

-- Links that are down: a step, and so a list, is as long in the table without its absent arcs. Assumes nothing.
use mathlib.Core.Path.{◌≡◌, refl, sym, ap, ◌∙◌}
use mathlib.Core.Bool.{true, false}
use mathlib.Core.List.{List, [], ◌∷◌}
use mathlib.Core.Logic.{⊎_elim}
use mathlib.Core.Option.{none, some}
use Prim.Native.Nat.{ℕ, ◌<◌}
use native.Mathlib.Omega.{arith}
use lib.Dec.{ltb}
use borrow.Author.Tests.{ltb-true}
use Rattle.std.proofs.lemmas.Bool.{cases_Bool}
use Rattle.table.specs.Table.{Table, table, is_table, tail_at, head_at, length_at}
use Rattle.table.proofs.Basics.{option_or, some_none, some_same}
use Rattle.table.proofs.Present.{leaves_present}
use Rattle.auction.specs.Absent.{without_absent, place_of}
use Rattle.auction.proofs.Good.{good}
use Rattle.auction.proofs.Without.Places.{place_in, tail_there, head_there, length_there, every}
use Rattle.keeping.specs.Keeping.{step_length, total, lent_total, stays, fresh_refusal, choice}
use Rattle.keeping.proofs.Steps.{AtMost, step_arc, step_least}

module _ (t : Table) (ws : List ℕ) (ok : is_table t ws ≡ true) (u v : ℕ) (low : u < t.n) where
  abbrev s : Table
  s = without_absent t

  -- an arc of either table has its like in the other
  no_longer_here : (d : ℕ) → step_length s u v ≡ some d → AtMost (step_length t u v) d
  no_longer_here d e =
      let a = step_arc s u v d e in
      let j = a.2 in
      step_least t u v (place_of t a.0) d (place_in t a.0 a.1)
      (record {
        leaves = tail_there t a.0 a.1 ∙ j.leaves;
        into = head_there t a.0 a.1 ∙ j.into;
        long = length_there t a.0 a.1 ∙ j.long;
      })

  no_longer_there : (d : ℕ) → step_length t u v ≡ some d → AtMost (step_length s u v) d
  no_longer_there d e =
      let a = step_arc t u v d e in
      let j = a.2 in
      let k = every t a.0 a.1 (leaves_present t a.0 (good t ws ok).few_nodes (omega (arith, j.leaves, low))) in
      step_least s u v k.0 d k.1
      (record {
        leaves = sym (tail_there t k.0 k.1) ∙ ap (tail_at t) k.2 ∙ j.leaves;
        into = sym (head_there t k.0 k.1) ∙ ap (head_at t) k.2 ∙ j.into;
        long = sym (length_there t k.0 k.1) ∙ ap (length_at t) k.2 ∙ j.long;
      })

  same_step : step_length s u v ≡ step_length t u v
  same_step =
      ⊎_elim
      (λ (e : step_length t u v ≡ none).
      ⊎_elim (λ (f : step_length s u v ≡ none). f ∙ sym e)
      (λ (f : (d : ℕ) × (step_length s u v ≡ some d)). absurd (some_none (no_longer_here f.0 f.1).1 e))
      (option_or (step_length s u v)))
      (λ (e : (d : ℕ) × (step_length t u v ≡ some d)).
      let there = no_longer_there e.0 e.1 in
      let here = no_longer_here there.0 there.1 in
      let same : there.0 ≡ e.0 = omega (arith, there.2, here.2, some_same here.1 e.1) in
      there.1 ∙ ap some same ∙ sym e.1)
      (option_or (step_length t u v))

-- THE TOTAL of a list
pub same_total : (t : Table) (ws vs : List ℕ) → is_table t ws ≡ true → total (without_absent t) vs ≡ total t vs
unfolding total without_absent table
same_total t ws [] ok = refl
same_total t ws (v ∷ []) ok = refl
same_total t ws (u ∷ v ∷ vs) ok =
    ⊎_elim
    (λ (h : ltb u t.n ≡ true). rw (h, same_step t ws ok u v (ltb-true u t.n h), same_total t ws (v ∷ vs) ok))
    (λ (h : ltb u t.n ≡ false). rw h)
    (cases_Bool (ltb u t.n))

-- THE CHOICE
pub same_choice : (t : Table) (ws standing fresh : List ℕ) → is_table t ws ≡ true →
    (fresh_refusal (lent_total (without_absent t) fresh) ≡ fresh_refusal (lent_total t fresh))
    × (choice (without_absent t) standing fresh ≡ choice t standing fresh)
unfolding choice stays lent_total
same_choice t ws standing fresh ok =
    (rw (same_total t ws fresh ok) refl, rw (same_total t ws fresh ok, same_total t ws standing ok) refl)

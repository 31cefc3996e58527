-- The total of a list, step by step: what has been added and the total of what is left are together the list's. Assumes nothing.
use mathlib.Core.Path.{◌≡◌, refl, sym, ap, ◌∙◌}
use mathlib.Core.Bool.{Bool, true, false, cond}
use mathlib.Core.List.{List, [], ◌∷◌}
use mathlib.Core.Option.{Option, none, some}
use Prim.Native.Nat.{ℕ, suc, ◌+◌, ◌*◌, ◌-◌, ◌≤◌, ◌<◌}
use native.Mathlib.Omega.{arith}
use lib.Dec.{ltb}
use lib.ListN.{length, get_or, take, drop}
use borrow.Author.Tests.{lt-ltb, le-ltb}
use Rattle.std.specs.Prelude as code
use Rattle.std.specs.List.{slice_get}
use Rattle.std.proofs.lemmas.List.{nil_from_length}
use Rattle.std.proofs.lemmas.Option.{get_or_from_slice_get}
use Rattle.table.specs.Table.{Table, most_nodes, longest}
use Rattle.keeping.specs.Keeping.{step_length, plus, total, lent_total}
use Rattle.keeper.specs.Totals.{step_from}

-- SUMS
sum_zero : (a : Option ℕ) → plus (some 0) a ≡ a
unfolding plus
sum_zero none = refl
sum_zero (some a) = ap some (omega arith)

sum_same : (a b : ℕ) (c : Option ℕ) → plus (some a) (plus (some b) c) ≡ plus (some (a + b)) c
unfolding plus
sum_same a b none = refl
sum_same a b (some c) = ap some (omega arith)

sum_end : (b : Bool) (a : ℕ) → plus (some a) (cond b (some 0) none) ≡ cond b (some a) none
unfolding plus
sum_end true a = ap some (omega arith)
sum_end false a = refl

-- a step and what follows it
step_first : (b : Bool) (s r : Option ℕ) → cond b (plus s r) none ≡ plus (cond b s none) r
unfolding plus
step_first true s r = refl
step_first false s r = refl

-- A LIST THAT IS LENT has no total where it is empty or too long
module _ (t : Table) (list : List ℕ) where
  pub lent_none : length list ≡ 0 → none ≡ lent_total t list
  unfolding lent_total total
  lent_none e = rw (le-ltb most_nodes (length list) (omega arith), nil_from_length list e)

  pub lent_many : most_nodes < length list → none ≡ lent_total t list
  unfolding lent_total
  lent_many h = rw (lt-ltb most_nodes (length list) h)

-- THE STEPS BEFORE `rest` ARE ADDED
pub record Adding (t : Table) (list rest : List ℕ) (added : ℕ) : Type 0 where
  -- there is a node left, and the last one is the list's
  pub some_node : 0 < length rest
  pub same_end : get_or rest (length rest - 1) 0 ≡ get_or list (length list - 1) 0
  -- what is added is no more than so many steps can be
  pub few : added + length rest * longest ≤ length list * longest
  -- with the total of what is left it is the list's
  pub left : plus (some added) (total t rest) ≡ total t list

pub begins : (t : Table) (list : List ℕ) → 0 < length list → Adding t list list 0
begins t list h = record { some_node = h; same_end = refl; few = omega arith; left = sum_zero (total t list) }

-- the two nodes of the next step, as they are read
pub window : (rest pair : List ℕ) (size : ℕ) → size ≡ 2 → size ≤ length rest → pair ≡ take size rest →
    (2 ≤ length rest) × (get_or pair 0 0 ≡ get_or rest 0 0) × (get_or pair 1 0 ≡ get_or rest 1 0)
window [] pair size two h e = absurd (omega arith)
window (u ∷ []) pair size two h e = absurd (omega arith)
window (u ∷ v ∷ vs) pair size two h e =
    let read : pair ≡ u ∷ v ∷ [] = rw two at e in
    (omega arith, ap (λ l. get_or l 0 0) read, ap (λ l. get_or l 1 0) read)

module _ (t : Table) (list : List ℕ) where
  -- one more step
  pub stops : (rest : List ℕ) (added : ℕ) → Adding t list rest added → 2 ≤ length rest → none ≡ step_from t (get_or rest 0 0) (get_or rest 1 0) →
      none ≡ total t list
  unfolding total plus
  stops [] added w h e = absurd (omega arith)
  stops (u ∷ []) added w h e = absurd (omega arith)
  stops (u ∷ v ∷ vs) added w h e =
      ap (λ s. plus (some added) (plus s (total t (v ∷ vs)))) e
      ∙ ap (plus (some added)) (sym (step_first (ltb u t.n) (step_length t u v) (total t (v ∷ vs)))) ∙ w.left

  pub goes_on : (rest : List ℕ) (added : ℕ) → Adding t list rest added → 2 ≤ length rest → (s : ℕ) → s ≤ longest →
      some s ≡ step_from t (get_or rest 0 0) (get_or rest 1 0) → Adding t list (drop 1 rest) (added + s)
  unfolding total
  goes_on [] added w h s low e = absurd (omega arith)
  goes_on (u ∷ []) added w h s low e = absurd (omega arith)
  goes_on (u ∷ v ∷ vs) added w h s low e =
      let one_more : suc (suc (length vs)) - 1 ≡ suc (suc (length vs) - 1) = omega arith in
      record {
        some_node = omega arith;
        same_end = sym (ap (λ i. get_or (u ∷ v ∷ vs) i 0) one_more) ∙ w.same_end;
        few = omega (arith, w.few);
        left =
            sym (sum_same added s (total t (v ∷ vs)))
            ∙ ap (λ s. plus (some added) (plus s (total t (v ∷ vs)))) e
            ∙ ap (plus (some added)) (sym (step_first (ltb u t.n) (step_length t u v) (total t (v ∷ vs))))
            ∙ w.left;
      }

  -- the last node, x
  module _ (rest : List ℕ) (added : ℕ) (w : Adding t list rest added) (at_end : length rest < 2) (x : ℕ)
      (last : code.Some x ≡ slice_get list (length list - 1)) where
    by_last : (l : List ℕ) → l ≡ rest → cond (ltb x t.n) (some added) none ≡ total t list
    unfolding total
    by_last [] e = absurd (omega (arith, ap length e, w.some_node))
    by_last (v ∷ []) e =
        let same : v ≡ x = ap (λ l. get_or l (length l - 1) 0) e ∙ w.same_end ∙ get_or_from_slice_get list (length list - 1) x 0 (sym last) in
        sym (sum_end (ltb x t.n) added) ∙ ap (λ u. plus (some added) (cond (ltb u t.n) (some 0) none)) (sym same)
        ∙ ap (λ l. plus (some added) (total t l)) e ∙ w.left
    by_last (u ∷ v ∷ vs) e = absurd (omega (arith, ap length e, at_end))

    pub ends : x < t.n → some added ≡ total t list
    ends h = rw (lt-ltb x t.n h) at (by_last rest refl)

    pub ends_outside : t.n ≤ x → none ≡ total t list
    ends_outside h = rw (le-ltb x t.n h) at (by_last rest refl)

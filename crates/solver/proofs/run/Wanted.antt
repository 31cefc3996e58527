-- The first wanted node that is missing: an index that only rises. Assumes nothing.
use mathlib.Core.Path.{◌≡◌, refl, sym, ap, subst, ◌∙◌}
use mathlib.Core.Bool.{Bool, true, false, cond}
use mathlib.Core.List.{List, [], ◌∷◌}
use mathlib.Core.Logic.{⊎_elim}
use Prim.Native.Nat.{ℕ, zero, suc, ◌+◌, ◌≤◌, ◌<◌}
use native.Mathlib.Omega.{arith}
use native.Mathlib.Numerals.{add-one}
use lib.ListN.{length, get_or, drop, drop_of_length-le}
use lib.Seq.{drop-cons}
use borrow.Author.Tests.{lt-ltb, le-ltb}
use Rattle.std.proofs.lemmas.Bool.{cases_Bool}
use Rattle.auction.specs.Auction.{State, was_reached, status_at, all_reached}
use Rattle.auction.specs.HandOver.{first_missing}
use Rattle.solver.specs.Runs.{FirstFrom}

-- ONE INDEX AFTER THE OTHER
module _ (w : ℕ) (ws : List ℕ) (x : State) where
  pub missing_here : w < length ws → was_reached x (get_or ws w 0) ≡ false → first_missing w (drop w ws) x ≡ w
  unfolding first_missing
  missing_here h e = rw (drop-cons ws w 0 h, e)

  pub missing_later : w < length ws → was_reached x (get_or ws w 0) ≡ true → first_missing w (drop w ws) x ≡ first_missing (w + 1) (drop (w + 1) ws) x
  unfolding first_missing
  missing_later h e = rw (drop-cons ws w 0 h, e, add-one w)

  pub missing_none : length ws ≤ w → first_missing w (drop w ws) x ≡ w
  unfolding first_missing
  missing_none h = rw (drop_of_length-le ws h)

pub record Seeking (from : ℕ) (ws status : List ℕ) (w : ℕ) : Type 0 where
  pub low : w ≤ length ws
  pub same : (x : State) → x.status ≡ status → first_missing from (drop from ws) x ≡ first_missing w (drop w ws) x

reached_by : (x : State) (status : List ℕ) (v : ℕ) → x.status ≡ status → (get_or status v 0 ≡ 0 → ⊥) → was_reached x v ≡ true
unfolding was_reached status_at
reached_by x status v e d = rw e (lt-ltb 0 (get_or status v 0) (omega arith))

unreached_by : (x : State) (status : List ℕ) (v : ℕ) → x.status ≡ status → get_or status v 0 ≡ 0 → was_reached x v ≡ false
unfolding was_reached status_at
unreached_by x status v e z = rw e (le-ltb 0 (get_or status v 0) (omega arith))

pub seeks : {from : ℕ} {ws status : List ℕ} → from ≤ length ws → Seeking from ws status from
seeks h = record { low = h; same = λ x e. refl }

module _ {from : ℕ} {ws status : List ℕ} {w : ℕ} (i : Seeking from ws status w) where
  pub seeks_on : (v : ℕ) → v ≡ get_or ws w 0 → w < length ws → (get_or status v 0 ≡ 0 → ⊥) → Seeking from ws status (w + 1)
  seeks_on v ev h d =
      record {
        low = omega arith;
        same = λ x e. i.same x e ∙ missing_later w ws x h (subst (λ (u : ℕ). was_reached x u ≡ true) ev (reached_by x status v e d));
      }

  pub found_here : (v : ℕ) → v ≡ get_or ws w 0 → w < length ws → get_or status v 0 ≡ 0 → FirstFrom from ws status w
  found_here v ev h z =
      record {
        low = i.low;
        first = λ x e. sym (i.same x e ∙ missing_here w ws x h (subst (λ (u : ℕ). was_reached x u ≡ false) ev (unreached_by x status v e z)));
      }

  pub found_none : length ws ≤ w → FirstFrom from ws status w
  found_none h = record { low = i.low; first = λ x e. sym (i.same x e ∙ missing_none w ws x h) }

-- ALL REACHED, OR NOT
low_bound : (i : ℕ) (ws : List ℕ) (x : State) → i ≤ first_missing i ws x
unfolding first_missing
low_bound i [] x = omega arith
low_bound i (w ∷ ws) x =
    ⊎_elim (λ (e : was_reached x w ≡ true). rw e (let r = low_bound (suc i) ws x in omega arith)) (λ (e : was_reached x w ≡ false). rw e (omega arith))
    (cases_Bool (was_reached x w))

some_missing_from : (i : ℕ) (ws : List ℕ) (x : State) → first_missing i ws x < i + length ws → all_reached ws x ≡ false
unfolding first_missing all_reached
some_missing_from i [] x h = absurd (omega arith)
some_missing_from i (w ∷ ws) x h =
    ⊎_elim
    (λ (e : was_reached x w ≡ true). rw e (some_missing_from (suc i) ws x (let r = (rw e at h) in omega arith)))
    (λ (e : was_reached x w ≡ false). rw e)
    (cases_Bool (was_reached x w))

none_missing_from : (i : ℕ) (ws : List ℕ) (x : State) → i + length ws ≤ first_missing i ws x → all_reached ws x ≡ true
unfolding first_missing all_reached
none_missing_from i [] x h = refl
none_missing_from i (w ∷ ws) x h =
    ⊎_elim
    (λ (e : was_reached x w ≡ true). rw e (none_missing_from (suc i) ws x (let r = (rw e at h) in omega arith)))
    (λ (e : was_reached x w ≡ false). absurd (let r = (rw e at h) in omega arith))
    (cases_Bool (was_reached x w))

pub some_missing : (ws : List ℕ) (x : State) → first_missing 0 ws x < length ws → all_reached ws x ≡ false
some_missing ws x h = some_missing_from 0 ws x (omega arith)

pub none_missing : (ws : List ℕ) (x : State) → length ws ≤ first_missing 0 ws x → all_reached ws x ≡ true
none_missing ws x h = none_missing_from 0 ws x (omega arith)

-- where the same nodes have been reached the same one is missing
pub same_missing : (i : ℕ) (ws : List ℕ) (x y : State) → ((v : ℕ) → was_reached y v ≡ was_reached x v) → first_missing i ws y ≡ first_missing i ws x
unfolding first_missing
same_missing i [] x y e = refl
same_missing i (w ∷ ws) x y e =
    ap (λ (b : Bool). cond b (first_missing (suc i) ws y) i) (e w) ∙ ap (λ (m : ℕ). cond (was_reached x w) m i) (same_missing (suc i) ws x y e)

-- AFTER AN ITERATION: the wanted nodes before the index stay reached
reached_before : (i : ℕ) (ws : List ℕ) (x : State) (k : ℕ) → i + k < first_missing i ws x → was_reached x (get_or ws k 0) ≡ true
unfolding first_missing
reached_before i [] x k h = absurd (omega arith)
reached_before i (w ∷ ws) x zero h =
    ⊎_elim (λ (e : was_reached x w ≡ true). e) (λ (e : was_reached x w ≡ false). absurd (let r = (rw e at h) in omega arith))
    (cases_Bool (was_reached x w))
reached_before i (w ∷ ws) x (suc k) h =
    ⊎_elim
    (λ (e : was_reached x w ≡ true). reached_before (suc i) ws x k (let r = (rw e at h) in omega arith))
    (λ (e : was_reached x w ≡ false). absurd (let r = (rw e at h) in omega arith))
    (cases_Bool (was_reached x w))

jump_from : (i w : ℕ) (ws : List ℕ) (y : State) → ((k : ℕ) → k < w → was_reached y (get_or ws k 0) ≡ true) → w ≤ length ws →
    first_missing i ws y ≡ first_missing (i + w) (drop w ws) y
unfolding first_missing
jump_from i zero ws y h l = let z : i ≡ i + 0 = omega arith in ap (λ m. first_missing m ws y) z
jump_from i (suc w) [] y h l = absurd (omega arith)
jump_from i (suc w) (v ∷ ws) y h l =
    let z : suc i + w ≡ i + suc w = omega arith in
    rw (h 0 (omega arith)) (jump_from (suc i) w ws y (λ k m. h (suc k) (omega arith)) (omega arith) ∙ ap (λ m. first_missing m (drop w ws) y) z)

pub jump : (w : ℕ) (ws : List ℕ) (x y : State) → w ≡ first_missing 0 ws x → w ≤ length ws →
    ((v : ℕ) → was_reached x v ≡ true → was_reached y v ≡ true) → first_missing w (drop w ws) y ≡ first_missing 0 ws y
jump w ws x y e l stays =
    let z : 0 + w ≡ w = omega arith in
    sym (jump_from 0 w ws y (λ k h. stays (get_or ws k 0) (reached_before 0 ws x k (omega (arith, e)))) l ∙ ap (λ m. first_missing m (drop w ws) y) z)

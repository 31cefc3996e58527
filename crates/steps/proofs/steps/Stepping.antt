-- What a deletion, a contraction and an extension do to the arrays. Assumes nothing.
use mathlib.Core.Path.{◌≡◌, refl, sym, ap, ap₂, ◌∙◌}
use mathlib.Core.List.{List, ◌∷◌}
use mathlib.Core.Option.{none, some}
use Prim.Native.Nat.{ℕ, zero, suc, ◌+◌, ◌-◌, ◌≤◌, ◌<◌}
use native.Mathlib.Omega.{arith}
use native.Mathlib.Numerals.{add-one}
use lib.ListN.{length, get_or, set}
use lib.Seq.{get_or-set_same, get_or-set_other}
use borrow.Author.Tests.{lt-ltb, le-ltb, eq-eqb, ne_eqb}
use Rattle.table.specs.Table.{Table, head_at}
use Rattle.auction.specs.Auction.{State, state, bid, was_reached, price_at, without_terminal, deletion, contraction, longer, extension, reach, iteration, status_at, unreached}
use Rattle.steps.specs.declared.state.Progress.{Progress}
use Rattle.steps.specs.Seen.{nodes_of, seen}
use Rattle.steps.proofs.Arrays.{seen_status}

-- THE PATH
pub shorter : (d : ℕ) (p : List ℕ) → 1 ≤ d → nodes_of (d - 1) p ≡ without_terminal (nodes_of d p)
unfolding nodes_of without_terminal
shorter zero p h = absurd (omega arith)
shorter (suc d) p h = let z : suc d - 1 ≡ d = omega arith in ap (λ k. nodes_of k p) z

unchanged : (k d j : ℕ) (p : List ℕ) → k ≤ d → nodes_of k (set p d j) ≡ nodes_of k p
unfolding nodes_of
unchanged zero d j p h = refl
unchanged (suc k) d j p h =
    ap₂ (λ (a : ℕ) (l : List ℕ). a ∷ l) (get_or-set_other p d k j 0 (λ z. omega arith)) (unchanged k d j p (omega arith))

pub extended_path : (d j : ℕ) (p : List ℕ) → d < length p → nodes_of (d + 1) (set p d j) ≡ j ∷ nodes_of d p
unfolding nodes_of
extended_path d j p h =
    rw (add-one d) (ap₂ (λ (a : ℕ) (l : List ℕ). a ∷ l) (get_or-set_same p d j 0 h) (unchanged d d j p (omega arith)))

-- the first of the path is the last entry
pub last_entry : (d : ℕ) (p : List ℕ) → 1 ≤ d → get_or (nodes_of d p) 0 0 ≡ get_or p (d - 1) 0
unfolding nodes_of
last_entry zero p h = absurd (omega arith)
last_entry (suc d) p h = let z : d ≡ suc d - 1 = omega arith in ap (λ k. get_or p k 0) z

pub as_many : (d : ℕ) (p : List ℕ) → length (nodes_of d p) ≡ d
unfolding nodes_of
as_many zero p = refl
as_many (suc d) p = ap suc (as_many d p)

-- THE THREE KINDS OF ITERATION
abbrev pub grown : Progress → Progress
grown g = record { depth = g.depth + 1; contractions = g.contractions; extensions = g.extensions + 1; deletions = g.deletions }

module _ (p u b k s : List ℕ) (g : Progress) where
  pub deleted_so : (v : ℕ) → 1 ≤ g.depth →
      seen p u b k (set s v 2)
      (record { depth = g.depth - 1; contractions = g.contractions; extensions = g.extensions; deletions = g.deletions + 1 })
      ≡ deletion v (seen p u b k s g)
  unfolding seen deletion state
  deleted_so v h = rw (shorter g.depth p h, add-one g.deletions)

  pub contracted_origin : (t : Table) (v o value : ℕ) → t.origin ≡ o → v ≡ o →
      seen p (set u v value) b k s
      (record { depth = g.depth; contractions = g.contractions + 1; extensions = g.extensions; deletions = g.deletions })
      ≡ contraction t v value (seen p u b k s g)
  unfolding seen contraction state
  contracted_origin t v o value eo e = rw (eq-eqb v t.origin (e ∙ sym eo), add-one g.contractions)

  pub contracted_other : (t : Table) (v o value : ℕ) → t.origin ≡ o → (v ≡ o → ⊥) → 1 ≤ g.depth →
      seen p (set u v value) b k s
      (record { depth = g.depth - 1; contractions = g.contractions + 1; extensions = g.extensions; deletions = g.deletions })
      ≡ contraction t v value (seen p u b k s g)
  unfolding seen contraction state
  contracted_other t v o value eo d h =
      rw (ne_eqb v t.origin (λ z. d (z ∙ eo)), shorter g.depth p h, add-one g.contractions)

  longer_so : (j : ℕ) → g.depth < length p →
      seen (set p g.depth j) u b k s
      (grown g)
      ≡ longer j (seen p u b k s g)
  unfolding seen longer state
  longer_so j h = rw (extended_path g.depth j p h, add-one g.extensions)

  pub extended_known : (t : Table) (j v : ℕ) → v ≡ j → g.depth < length p → (get_or s v 0 ≡ 0 → ⊥) →
      seen (set p g.depth j) u b k s
      (grown g)
      ≡ extension t j (seen p u b k s g)
  unfolding extension was_reached
  extended_known t j v e h d =
      let there : 0 < get_or s j 0 = let q = ap (λ m. get_or s m 0) e in omega (arith, q) in
      longer_so j h ∙ sym (rw (seen_status p u b k s g j, lt-ltb 0 (get_or s j 0) there))

  pub extended_reached : (t : Table) (j v : ℕ) (y : State) → v ≡ j → g.depth < length p → get_or s v 0 ≡ 0 →
      y ≡ reach t v (seen (set p g.depth j) u b k s
      (grown g)) →
      y ≡ extension t j (seen p u b k s g)
  unfolding extension was_reached
  extended_reached t j v y e h z r =
      let there : get_or s j 0 ≤ 0 = let q = ap (λ m. get_or s m 0) e in omega (arith, q) in
      r ∙ ap (λ m. reach t m (seen (set p g.depth j) u b k s (grown g))) e ∙ ap (λ x. reach t j x) (longer_so j h)
      ∙ sym (rw (seen_status p u b k s g j, le-ltb 0 (get_or s j 0) there))

  -- a node that was reached is not one that was not
  pub reached_other : (v : ℕ) → get_or s v 0 ≡ unreached → (w : ℕ) → unreached < status_at (seen p u b k s g) w → w ≡ v → ⊥
  reached_other v e w h z = let q = ap (λ m. get_or s m 0) z in omega (arith, seen_status p u b k s g w)

-- WHICH OF THEM
module _ (t : Table) (v : ℕ) (x : State) where
  pub is_deletion : (v ≡ t.origin → ⊥) → iteration none t v x ≡ some (deletion v x)
  unfolding iteration
  is_deletion d = rw (ne_eqb v t.origin d)

  pub is_contraction : (value arc : ℕ) → price_at x v < value → iteration (some (bid value arc)) t v x ≡ some (contraction t v value x)
  unfolding iteration bid
  is_contraction value arc h = rw (lt-ltb (price_at x v) value h)

  pub is_extension : (value arc : ℕ) → value ≤ price_at x v → iteration (some (bid value arc)) t v x ≡ some (extension t (head_at t arc) x)
  unfolding iteration bid
  is_extension value arc h = rw (le-ltb (price_at x v) value h)

  pub is_stop : v ≡ t.origin → iteration none t v x ≡ none
  unfolding iteration
  is_stop h = rw (eq-eqb v t.origin h)

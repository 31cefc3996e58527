-- The tally of the marks passed: one mark more, and how high a count is. Assumes nothing.
use mathlib.Core.Path.{◌≡◌, refl, sym, subst}
use mathlib.Core.List.{List, [], ◌∷◌, ◌++◌}
use Prim.Native.Nat.{ℕ, ◌+◌, ◌^◌, ◌<◌}
use native.Mathlib.Omega.{arith}
use native.Mathlib.Numerals.{add-one}
use lib.ListN.{length, get_or, take, length-take}
use lib.Seq.{take-suc}
use Rattle.auction.specs.HandOver.{how_many}
use Rattle.auction.proofs.Sums.{how_many_low}
use Rattle.mark_tally.specs.declared.Tally.{Tally}
use Rattle.mark_tally.specs.Tally.{tally_of, Roomy}

-- a mark behind the others counts as one in front of them
behind : (a m : ℕ) (ms : List ℕ) → how_many a (ms ++ m ∷ []) ≡ how_many a (m ∷ ms)
unfolding how_many
behind a m [] = refl
behind a m (x ∷ ms) = omega (arith, behind a m ms)

module _ (marks : List ℕ) (i : ℕ) where
  pub next_mark : i < length marks → tally_of (get_or marks i 0 ∷ take i marks) ≡ tally_of (take (i + 1) marks)
  unfolding tally_of
  next_mark h =
      let next : take (i + 1) marks ≡ take i marks ++ get_or marks i 0 ∷ [] = rw add-one (take-suc marks i 0 h) in
      rw (next, behind 0 _ (take i marks), behind 1 _ (take i marks), behind 2 _ (take i marks), behind 3 _ (take i marks)) refl

  -- no count is above what there is
  pub roomy : (tally : Tally) → tally ≡ tally_of (take i marks) → length marks < 2 ^ 63 → Roomy tally
  unfolding tally_of
  roomy tally same few =
      let low : (a : ℕ) → how_many a (take i marks) < 2 ^ 63 = λ a. omega (arith, how_many_low a (take i marks), length-take i marks) in
      subst Roomy (sym same) (record { unreached_small = low 0; dropped_small = low 1; kept_small = low 2; tree_small = low 3 })

-- What a load has of the pairs that it is drawn for: what holds of each, their order, and all or none of them by the chance. Assumes nothing.
use mathlib.Core.Path.{◌≡◌, refl, ap, ◌∙◌}
use mathlib.Core.List.{List, [], ◌∷◌, map}
use Prim.Native.Nat.{ℕ, ◌+◌, ◌*◌, ◌/◌, ◌%◌, ◌^◌, ◌<◌}
use native.Mathlib.Omega.{arith}
use lib.Dec.{ltb}
use borrow.Author.Tests.{lt-ltb, le-ltb}
use Rattle.std.specs.List.{All}
use Rattle.std.proofs.lemmas.Bool.{cond_both, cond-true, cond-false}
use Rattle.std.proofs.lemmas.List.Elements.{All-nil, All-cons, All-head, All-tail}
use Rattle.std.proofs.lemmas.Nat.{mod_below}
use Rattle.table.specs.Table.{Arc, arc}
use Rattle.test_load.specs.Load.{Pair, pair, draw, drawn}
use Rattle.test_load.specs.Making.{certain}
use Rattle.test_load.specs.Promises.{ends}
use Rattle.test_load.proofs.Rising.{Rising}

module _ (c l : ℕ) where
  -- WHAT HOLDS of each pair, and so of its arc whatever number is drawn for the length
  pub drawn_all : (P : Pair → Type 0) (Q : Arc → Type 0) → ((p : Pair) (e : ℕ) → P p → Q (arc p.tail p.head (1 + e % l))) →
      (ps : List Pair) (s : ℕ) → All P ps → All Q (drawn c l ps s)
  unfolding drawn
  drawn_all P Q so [] s all = All-nil Q
  drawn_all P Q so (p ∷ more) s all =
      let rest = λ (d : ℕ). drawn_all P Q so more d (All-tail P p more all) in
      cond_both (ltb (draw s / 65536) c) _ _ (All Q)
      (λ taken. All-cons Q _ _ (so p (draw (draw s)) (All-head P p more all)) (rest (draw (draw s))))
      (λ passed. rest (draw s))

  -- THE ORDER of the pairs is that of the arcs
  pub drawn_rise : (R : Pair → Pair → Type 0) (ps : List Pair) (s : ℕ) → Rising R ps → Rising (λ a b. R (ends a) (ends b)) (drawn c l ps s)
  unfolding drawn ends arc pair
  drawn_rise R [] s r = tt
  drawn_rise R (p ∷ more) s r =
      cond_both (ltb (draw s / 65536) c) _ _ (Rising (λ a b. R (ends a) (ends b)))
      (λ taken. (drawn_all (R p) (λ b. R p (ends b)) (λ q e x. x) more (draw (draw s)) r.0, drawn_rise R more (draw (draw s)) r.1))
      (λ passed. drawn_rise R more (draw s) r.1)

-- A CHANCE OF 0
pub none_drawn : (l : ℕ) (ps : List Pair) (s : ℕ) → drawn 0 l ps s ≡ []
unfolding drawn
none_drawn l [] s = refl
none_drawn l (p ∷ more) s = cond-false _ _ _ (le-ltb (draw s / 65536) 0 (omega arith)) ∙ none_drawn l more (draw s)

-- A CHANCE OF 65,536: the upper half of a number of 32 bits is below it
upper_half : (s : ℕ) → draw s / 65536 < certain
unfolding draw
upper_half s = omega (arith, mod_below (s * 1664525 + 1013904223) (2 ^ 32) (omega arith))

pub all_drawn : (l : ℕ) (ps : List Pair) (s : ℕ) → map ends (drawn certain l ps s) ≡ ps
unfolding drawn ends arc pair
all_drawn l [] s = refl
all_drawn l (p ∷ more) s =
    ap (map ends) (cond-true _ _ _ (lt-ltb (draw s / 65536) certain (upper_half s)))
    ∙ ap (λ (ps : List Pair). p ∷ ps) (all_drawn l more (draw (draw s)))

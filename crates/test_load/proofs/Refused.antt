-- What holds where no refusal of a load applies, and which numbers they have. Assumes nothing.
use mathlib.Core.Path.{◌≡◌, refl}
use mathlib.Core.Bool.{◌||◌}
use mathlib.Core.Logic.{◌⊎◌, inl, inr}
use Prim.Native.Nat.{ℕ, ◌<◌, ◌≤◌}
use native.Mathlib.Omega.{arith}
use lib.Dec.{ltb, eqb}
use lib.ListN.{length}
use borrow.Author.Tests.{eqb-false, ltb-false}
use Rattle.std.proofs.lemmas.Bool.{cond_both, or_parts}
use Rattle.table.specs.Table.{most_nodes, most_arcs, down}
use Rattle.table.specs.Refusals.{Refusal, refusal, no_refusal, count_bad, columns_short}
use Rattle.auction.proofs.Good.{passed}
use Rattle.test_load.specs.Load.{load}
use Rattle.test_load.specs.Making.{certain, range_bad, load_refusal}

-- THE NUMBERS of the refusals, all of them at no place
abbrev Numbers : ℕ → Type 0
Numbers k = (k ≡ 1) ⊎ (k ≡ 3) ⊎ (k ≡ 16) ⊎ (k ≡ 17)

abbrev Numbered : Refusal → Type 0
Numbered f = ((f.number ≡ 0) ⊎ Numbers f.number) × (f.place ≡ 0)

module _ (n seed c l : ℕ) where
  -- A LOAD THAT IS NOT REFUSED
  pub record Unrefused : Type 0 where
    -- there are nodes, and not too many;
    pub some_node : 1 ≤ n
    pub few_nodes : n ≤ most_nodes
    -- the largest length is one, and does not say that the link is down;
    pub some_length : 0 < l
    pub not_down : l ≡ down → ⊥
    -- and there are not too many arcs
    pub few_arcs : length (load n seed c l) ≤ most_arcs

  module _ (ts hs ls : ℕ) where
    abbrev f : Refusal
    f = load_refusal n seed c l ts hs ls

    pub unrefused : f.number ≡ 0 → Unrefused
    unfolding load_refusal count_bad range_bad
    unrefused e =
        let p = passed (count_bad n) _ 0 0 e in
        let q = passed (columns_short ts hs ls) _ 2 0 p.1 in
        let r = passed (range_bad c l) _ 15 0 q.1 in
        let s = passed (ltb most_arcs (length (load n seed c l))) _ 16 0 r.1 in
        let nodes = or_parts (eqb n 0) (ltb most_nodes n) p.0 in
        let lengths = or_parts (eqb l 0) (eqb l down) (or_parts (ltb certain c) (eqb l 0 || eqb l down) r.0).1 in
        record {
          some_node = omega (arith, eqb-false n 0 nodes.0);
          few_nodes = ltb-false most_nodes n nodes.1;
          some_length = omega (arith, eqb-false l 0 lengths.0);
          not_down = eqb-false l down lengths.1;
          few_arcs = ltb-false most_arcs (length (load n seed c l)) s.0;
        }

    pub refusal_numbered : Numbered f
    unfolding load_refusal refusal no_refusal
    refusal_numbered =
        cond_both (count_bad n) _ _ Numbered (λ yes. (inr (inl refl), refl))
        (λ no.
        cond_both (columns_short ts hs ls) _ _ Numbered (λ yes. (inr (inr (inl refl)), refl))
        (λ no.
        cond_both (range_bad c l) _ _ Numbered (λ yes. (inr (inr (inr (inl refl))), refl))
        (λ no.
        cond_both (ltb most_arcs (length (load n seed c l))) _ _ Numbered (λ yes. (inr (inr (inr (inr refl))), refl)) (λ no. (inl refl, refl)))))

-- Beside a fresh list that has a total: when the standing list stays, and what is given. Assumes nothing.
use mathlib.Core.Path.{◌≡◌, refl, sym, ap, ◌∙◌}
use mathlib.Core.Bool.{true, false}
use mathlib.Core.List.{List}
use mathlib.Core.Logic.{inl, inr, ⊎_elim}
use mathlib.Core.Option.{Option, none, some}
use Prim.Native.Nat.{ℕ, ◌≤◌}
use native.Mathlib.Omega.{arith}
use lib.Dec.{ltb, eqb}
use lib.ListN.{length}
use lib.Seq.{take-length}
use borrow.Author.Tests.{ltb-false, le-ltb, eqb-true, eq-eqb, leb-true, le-leb, both_ways}
use Rattle.std.proofs.lemmas.Bool.{and_parts, cases_Bool}
use Rattle.table.specs.Table.{Table, most_nodes}
use Rattle.table.proofs.Basics.{some_none}
use Rattle.keeping.specs.declared.Kept.{Kept}
use Rattle.keeping.specs.Keeping.{total, lent_total, first_node, last_node, same_ends, no_greater, stays, kept, choice, is_standing, given}
use Rattle.keeping.specs.Promises.{KeptShort}
use Rattle.keeping.proofs.Steps.{AtMost}

-- the total of a list that is lent is its total, where it has few nodes
pub lent_few : (t : Table) (vs : List ℕ) → length vs ≤ most_nodes → lent_total t vs ≡ total t vs
unfolding lent_total
lent_few t vs few = rw (le-ltb most_nodes (length vs) few)

pub lent_some : (t : Table) (vs : List ℕ) (d : ℕ) → lent_total t vs ≡ some d → (length vs ≤ most_nodes) × (total t vs ≡ some d)
unfolding lent_total
lent_some t vs d e =
    ⊎_elim (λ (h : ltb most_nodes (length vs) ≡ true). absurd (some_none e (rw h refl)))
    (λ (h : ltb most_nodes (length vs) ≡ false). let few = ltb-false most_nodes (length vs) h in (few, sym (lent_few t vs few) ∙ e))
    (cases_Bool (ltb most_nodes (length vs)))

-- a total that is no greater is there
lesser_so : (a : Option ℕ) (b : ℕ) → no_greater a (some b) ≡ true → AtMost a b
unfolding no_greater
lesser_so none b e = absurd (both_ways false refl e)
lesser_so (some a) b e = (a, refl, leb-true a b e)

module _ (t : Table) (standing fresh : List ℕ) (d : ℕ) (e : lent_total t fresh ≡ some d) where
  -- THE STANDING LIST STAYS where it is a walk between the same nodes, and no longer
  pub record Stays : Type 0 where
    pub begins : first_node standing ≡ first_node fresh
    pub ends : last_node standing ≡ last_node fresh
    pub short : AtMost (lent_total t standing) d

  pub stays_so : stays t standing fresh ≡ true → Stays
  unfolding stays same_ends
  stays_so h =
      let p = and_parts (same_ends standing fresh) (no_greater (lent_total t standing) (lent_total t fresh)) h in
      let q = and_parts (eqb (first_node standing) (first_node fresh)) (eqb (last_node standing) (last_node fresh)) p.0 in
      record {
        begins = eqb-true (first_node standing) (first_node fresh) q.0;
        ends = eqb-true (last_node standing) (last_node fresh) q.1;
        short = lesser_so (lent_total t standing) d (ap (no_greater (lent_total t standing)) (sym e) ∙ p.1);
      }

  so_stays : length standing ≤ most_nodes → first_node standing ≡ first_node fresh → last_node standing ≡ last_node fresh → (c : ℕ) →
      total t standing ≡ some c → c ≤ d → stays t standing fresh ≡ true
  unfolding stays same_ends no_greater
  so_stays few begins ends c f low =
      rw (
        eq-eqb (first_node standing) (first_node fresh) begins,
        eq-eqb (last_node standing) (last_node fresh) ends,
        lent_few t standing few ∙ f,
        e,
        le-leb c d low,
      )

  -- WHAT IS GIVEN
  abbrev GivenSo : Kept → Type 0
  GivenSo k = KeptShort t standing fresh (given k standing fresh) k

  keeps_standing : stays t standing fresh ≡ true → GivenSo (kept 0 0 1 (length standing))
  unfolding given is_standing kept
  keeps_standing h =
      let s = stays_so h in
      let mine = lent_some t standing s.short.0 s.short.1 in
      rw (take-length standing)
      (record {
        one_of = inl (refl, refl);
        few = mine.0;
        begins = s.begins;
        ends = s.ends;
        fresh_total = d;
        fresh_walk = (lent_some t fresh d e).1;
        list_total = s.short.0;
        walk = mine.1;
        no_longer = s.short.2;
        standing_stays = λ few begins ends c f low. refl;
      })

  keeps_fresh : stays t standing fresh ≡ false → GivenSo (kept 0 0 0 (length fresh))
  unfolding given is_standing kept
  keeps_fresh h =
      let its = lent_some t fresh d e in
      rw (take-length fresh)
      (record {
        one_of = inr (refl, refl);
        few = its.0;
        begins = refl;
        ends = refl;
        fresh_total = d;
        fresh_walk = its.1;
        list_total = d;
        walk = its.1;
        no_longer = omega arith;
        standing_stays = λ few begins ends c f low. absurd (both_ways (stays t standing fresh) h (so_stays few begins ends c f low));
      })

  pub chooses_short : GivenSo (choice t standing fresh)
  unfolding choice
  chooses_short =
      ⊎_elim (λ (h : stays t standing fresh ≡ true). rw h (keeps_standing h)) (λ (h : stays t standing fresh ≡ false). rw h (keeps_fresh h))
      (cases_Bool (stays t standing fresh))

-- whichever is chosen, the number is 0
pub choice_number : (t : Table) (standing fresh : List ℕ) → (choice t standing fresh).number ≡ 0
unfolding choice kept
choice_number t standing fresh =
    ⊎_elim (λ (h : stays t standing fresh ≡ true). rw h refl) (λ (h : stays t standing fresh ≡ false). rw h refl) (cases_Bool (stays t standing fresh))

-- The tests of a load in their order, and what is left in the columns. Assumes nothing.
use mathlib.Core.Path.{◌≡◌, refl, ◌∙◌}
use mathlib.Core.Bool.{false, cond}
use mathlib.Core.List.{List}
use Prim.Native.Nat.{ℕ, ◌+◌, ◌^◌, ◌≤◌, ◌<◌}
use native.Mathlib.Omega.{arith}
use lib.Dec.{ltb}
use lib.ListN.{length}
use lib.Seq.{sets}
use borrow.Author.Tests.{ne_eqb, ltb-false}
use Rattle.std.specs.Prelude.{Ok, Err}
use Rattle.std.specs.Iterator.{Drains, YieldsFirstBy}
use Rattle.std.proofs.lemmas.Iterator.Consumers.{YieldsList-from_first, count_from_yields_List}
use Rattle.table.specs.Lent.{arc_of}
use Rattle.table.specs.declared.links.Arc as links
use Rattle.load_maker.specs.Left.{arcs_left}
use Rattle.load_maker.specs.declared.arcs.Arcs.{Arcs}
use Rattle.std.proofs.lemmas.Bool.Decides.{nat_tests}
use Rattle.std.proofs.lemmas.Nat.{mul-lt}
use Rattle.table.specs.Table.{Arc, most_nodes, most_arcs, tails_of, heads_of, lengths_of}
use Rattle.table.specs.Refusals.{refusal, no_refusal, or_else, count_bad, columns_short}
use Rattle.table.specs.Told.{number, tells}
use Rattle.table.specs.declared.faults.Refusal.{Refusal}
use Rattle.table.specs.Slices.{over}
use Rattle.table.proofs.Columns.{length_tails, length_heads, length_lengths}
use Rattle.table.proofs.Storing.{sets_over}
use Rattle.table.proofs.Telling.{numbered, first, passed}
use Rattle.test_load.specs.Load.{load}
use Rattle.test_load.proofs.Counting.{few_arcs}
use Rattle.test_load.specs.Making.{range_bad, load_refusal, made_arcs, made, MakeSays}
use Rattle.load_maker.specs.Says.{made_answer}

-- 1, 3, 16 AND 17 IN ORDER
pub in_order : (n seed c l ts hs ls : ℕ) →
    or_else (cond (count_bad n) (refusal 1 0) no_refusal)
    (or_else (cond (columns_short ts hs ls) (refusal 3 0) no_refusal)
    (or_else (cond (range_bad c l) (refusal 16 0) no_refusal)
    (cond (ltb most_arcs (length (load n seed c l))) (refusal 17 0) no_refusal)))
    ≡ load_refusal n seed c l ts hs ls
unfolding load_refusal
in_order n seed c l ts hs ls =
    rw (← first (count_bad n) 1 0 _ refl, ← first (columns_short ts hs ls) 3 0 _ refl, ← first (range_bad c l) 16 0 _ refl)

-- 16 does not refuse: there is a largest length
pub some_largest : (c l : ℕ) → range_bad c l ≡ false → 0 < l
unfolding range_bad
some_largest c l e = grind (arith, nat_tests)

-- what `count` gives of an iterator that has these arcs left
pub counted : {arcs : List Arc} (left : Arcs) (m : ℕ) → arcs_left left ≡ arcs →
    (items : List links.Arc) × Drains (YieldsFirstBy arc_of arcs_left) left items × (m ≡ length items) → m ≡ length arcs
counted left m is ran = count_from_yields_List left m ran (YieldsList-from_first arc_of arcs_left _ is)

-- the arcs of so few nodes can be counted
pub countable : (n seed c l : ℕ) → n ≤ most_nodes → length (load n seed c l) < 2 ^ 64
countable n seed c l h = omega (arith, few_arcs n seed c l, mul-lt n n (most_nodes + 1) (most_nodes + 1) (omega (arith, h)) (omega (arith, h)))

-- 17 does not refuse
pub few : (m : ℕ) → no_refusal ≡ cond (ltb most_arcs m) (refusal 17 0) no_refusal → m ≤ most_arcs
few m e = ltb-false most_arcs m (passed _ 17 0 (omega arith) e)

module _ (n seed c l : ℕ) (ts hs ls : List ℕ) where
  abbrev arcs : List Arc
  arcs = load n seed c l

  -- A REFUSAL leaves the columns as they were
  pub nothing_made : (r : Refusal) → tells r ≡ load_refusal n seed c l (length ts) (length hs) (length ls) →
      MakeSays n seed c l ts hs ls ts hs ls (made_answer (Err r))
  unfolding made_arcs tails_of heads_of lengths_of over refusal
  nothing_made r e =
      rw (← e, ne_eqb (number r.fault) 0 (numbered r.fault))
      (record { answer = refl; tails_are = refl; heads_are = refl; lengths_are = refl })

  -- NO REFUSAL: the arcs are put
  pub all_made : no_refusal ≡ load_refusal n seed c l (length ts) (length hs) (length ls) → (m : ℕ) → m ≡ length arcs → m ≤ most_arcs →
      (most_arcs ≤ length ts) × (most_arcs ≤ length hs) × (most_arcs ≤ length ls) →
      {ts' hs' ls' : List ℕ} → ts' ≡ sets ts 0 (tails_of arcs) → hs' ≡ sets hs 0 (heads_of arcs) → ls' ≡ sets ls 0 (lengths_of arcs) →
      MakeSays n seed c l ts hs ls ts' hs' ls' (made_answer (Ok m))
  unfolding made made_arcs no_refusal refusal
  all_made e m count few room put_tails put_heads put_lengths =
      rw (← e)
      (record {
        answer = rw count refl;
        tails_are = put_tails ∙ sets_over (tails_of arcs) ts (omega (arith, length_tails arcs, count, few, room.0));
        heads_are = put_heads ∙ sets_over (heads_of arcs) hs (omega (arith, length_heads arcs, count, few, room.1));
        lengths_are = put_lengths ∙ sets_over (lengths_of arcs) ls (omega (arith, length_lengths arcs, count, few, room.2));
      })

-- The promises of specs/Promises.antt, each proved under its own name in small letters. Assumes nothing.
use mathlib.Core.Path.{◌≡◌, sym, ap, ◌∙◌}
use mathlib.Core.List.{List, []}
use mathlib.Core.Logic.{⊎_elim}
use native.Mathlib.Omega.{arith}
use lib.ListN.{length}
use borrow.Author.Tests.{eq-eqb, ne_eqb}
use Rattle.table.specs.Table.{Arc, tails_of, heads_of, lengths_of}
use Rattle.table.specs.Refusals.{Refusal}
use Rattle.table.specs.Slices.{over}
use Rattle.table.proofs.Columns.{length_tails, length_heads, length_lengths}
use Rattle.test_load.specs.Load.{pairs, load}
use Rattle.test_load.specs.Making.{load_refusal, made_arcs, made}
use Rattle.test_load.specs.Promises.{LoadListed, NoChanceNoArc, EveryPairCertain, LoadsPlanned, LoadRefusals}
use Rattle.test_load.specs.declared.Made.{Made}
use Rattle.test_load.proofs.Counting.{pairs_count}
use Rattle.test_load.proofs.Drawing.{none_drawn, all_drawn}
use Rattle.test_load.proofs.Listed.{listed}
use Rattle.test_load.proofs.Refused.{refusal_numbered, unrefused}
use Rattle.test_load.proofs.There.{column, table_good, plan_made}

pub load_listed : LoadListed
unfolding LoadListed
load_listed = listed

pub no_chance_no_arc : NoChanceNoArc
unfolding NoChanceNoArc load
no_chance_no_arc n seed l = none_drawn l (pairs n) seed

pub every_pair_certain : EveryPairCertain
unfolding EveryPairCertain load
every_pair_certain n seed l = (all_drawn l (pairs n) seed, pairs_count n)

-- the arcs that are made: all of them where nothing is refused, and none where something is
all_made : (f : Refusal) (arcs : List Arc) → f.number ≡ 0 → made_arcs f arcs ≡ arcs
unfolding made_arcs
all_made f arcs z = rw (eq-eqb f.number 0 z)

none_made : (f : Refusal) (arcs : List Arc) → (f.number ≡ 0 → ⊥) → made_arcs f arcs ≡ []
unfolding made_arcs
none_made f arcs d = rw (ne_eqb f.number 0 d)

-- where the number is 0, nothing is refused
pub loads_planned : LoadsPlanned
unfolding LoadsPlanned made
loads_planned n seed c l ts hs ls ts' hs' ls' r low says z =
    let f = load_refusal n seed c l (length ts) (length hs) (length ls) in
    let arcs = load n seed c l in
    let none : f.number ≡ 0 = ap (λ (m : Made). m.number) (sym says.answer) ∙ z in
    let all = all_made f arcs none in
    let fine = unrefused n seed c l (length ts) (length hs) (length ls) none in
    let count = ap (λ (m : Made). m.arcs) says.answer ∙ ap length all in
    let tails = column (tails_of arcs) ts ts' r.arcs (count ∙ sym (length_tails arcs)) (rw all at says.tails_are) in
    let heads = column (heads_of arcs) hs hs' r.arcs (count ∙ sym (length_heads arcs)) (rw all at says.heads_are) in
    let lengths = column (lengths_of arcs) ls ls' r.arcs (count ∙ sym (length_lengths arcs)) (rw all at says.lengths_are) in
    record {
      count = count;
      tails_are = tails.0;
      heads_are = heads.0;
      lengths_are = lengths.0;
      rest_stays = (tails.1, heads.1, lengths.1);
      none_down = λ i h. omega (arith, (listed n seed c l fine.some_length).no_longer i (omega (arith, h, count)), low, fine.not_down);
      accepted = λ o ws origin few below. rw (tails.0, heads.0, lengths.0) (table_good n seed c l low fine o ws origin few below);
      planned = λ o ws ds ps tr ms origin few below d p t m.
          rw (tails.0, heads.0, lengths.0) (plan_made n seed c l low fine o ws origin few below ds ps tr ms d p t (m ∙ count));
    }

-- and where it is another, it is the refusal's
pub load_refusals : LoadRefusals
unfolding LoadRefusals made over tails_of heads_of lengths_of
load_refusals n seed c l ts hs ls ts' hs' ls' r says d =
    let f = load_refusal n seed c l (length ts) (length hs) (length ls) in
    let number : r.number ≡ f.number = ap (λ (m : Made). m.number) says.answer in
    let refused : f.number ≡ 0 → ⊥ = λ e. d (number ∙ e) in
    let numbered = refusal_numbered n seed c l (length ts) (length hs) (length ls) in
    let none = none_made f (load n seed c l) refused in
    record {
      numbers = rw number (⊎_elim (λ (e : f.number ≡ 0). absurd (refused e)) (λ k. k) numbered.0);
      nothing = (ap (λ (m : Made). m.place) says.answer ∙ numbered.1, ap (λ (m : Made). m.arcs) says.answer ∙ ap length none);
      untouched = (rw none at says.tails_are, rw none at says.heads_are, rw none at says.lengths_are);
    }

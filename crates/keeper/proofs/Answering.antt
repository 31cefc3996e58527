-- What is answered: a refusal, or one of the two lists, whole. Assumes nothing.
use mathlib.Core.Path.{◌≡◌, refl, sym, ap, subst, ◌∙◌}
use mathlib.Core.Bool.{Bool, true, false, cond}
use mathlib.Core.List.{List, []}
use mathlib.Core.Option.{none, some}
use Prim.Native.Nat.{ℕ, ◌≤◌}
use lib.ListN.{length}
use lib.Seq.{take-length}
use denote.Ref.{Bor}
use Rattle.std.specs.Prelude.{Result, Ok, Err}
use Rattle.std.specs.Result.{IsErrAnd}
use Rattle.table.specs.declared.faults.Refusal.{Refusal}
use Rattle.table.specs.Refusals as told_as
use Rattle.table.specs.Table.{Table, most_nodes}
use Rattle.table.specs.Refusals.{refusal, no_refusal}
use Rattle.table.specs.Told.{number, tells}
use Rattle.table.proofs.Telling.{numbered}
use Rattle.keeping.specs.declared.Kept.{Kept}
use Rattle.keeping.specs.Keeping.{lent_total, stays, table_in, fresh_refusal, kept, choice, keep, is_standing, given, Part}
use Rattle.keeping.proofs.Answers.{table_alone, refused_so, chosen_so}
use Rattle.keeping.proofs.Outcomes.{short}
use Rattle.keeper.specs.Totals.{answer, chosen}

-- what `?` hands out
pub handed_on : (r : Result Bool Refusal) (y : Refusal) (standing fresh : List ℕ) → IsErrAnd r (λ e. e ≡ y) →
    answer r standing fresh ≡ kept (number y.fault) y.place 0 0
handed_on (Ok b) y standing fresh h = absurd h
handed_on (Err e) y standing fresh h = ap (λ x. kept (number x.fault) x.place 0 0) h

as_told : (y : Refusal) (f : told_as.Refusal) → tells y ≡ f → kept (number y.fault) y.place 0 0 ≡ kept f.number f.place 0 0
unfolding refusal
as_told y f e = ap (λ (g : told_as.Refusal). kept g.number g.place 0 0) e

-- BY A TABLE that is not refused
module _ (t : Table) (standing fresh : List ℕ) where
  pub no_walk : none ≡ lent_total t fresh → (y : Refusal) → tells y ≡ refusal 15 0 → kept (number y.fault) y.place 0 0 ≡ chosen t standing fresh
  unfolding chosen fresh_refusal refusal
  no_walk e y told = as_told y (refusal 15 0) told ∙ rw (← e) refl

  pub either : (d : ℕ) → some d ≡ lent_total t fresh → (b : Bool) → b ≡ stays t standing fresh →
      answer (Ok b) standing fresh ≡ chosen t standing fresh
  unfolding chosen fresh_refusal no_refusal refusal choice
  either d e true s = rw (← e, ← s)
  either d e false s = rw (← e, ← s)

module _ (n : ℕ) (ts hs ls standing fresh : List ℕ) where
  -- THE TABLE'S REFUSAL, or none
  pub refused : (y : Refusal) → tells y ≡ table_alone n ts hs ls → kept (number y.fault) y.place 0 0 ≡ keep n ts hs ls standing fresh
  unfolding refusal
  refused y e =
      as_told y (table_alone n ts hs ls) e
      ∙ sym (refused_so n ts hs ls standing fresh (λ z. numbered y.fault (ap (λ (f : told_as.Refusal). f.number) e ∙ z)))

  pub unrefused : no_refusal ≡ table_alone n ts hs ls → chosen (table_in n ts hs ls) standing fresh ≡ keep n ts hs ls standing fresh
  unfolding chosen no_refusal refusal
  unrefused e = sym (chosen_so n ts hs ls standing fresh (sym (ap (λ (f : told_as.Refusal). f.number) e)))

  -- ONE OF THE LISTS, which has few nodes
  pub few : (b : Bool) → answer (Ok b) standing fresh ≡ keep n ts hs ls standing fresh → length (cond b standing fresh) ≤ most_nodes
  unfolding kept given is_standing
  few true e =
      let s = (short n ts hs ls standing fresh (ap (λ (k : Kept). k.number) (sym e))).few in
      rw take-length at (subst (λ (k : Kept). length (given k standing fresh) ≤ most_nodes) (sym e) s)
  few false e =
      let s = (short n ts hs ls standing fresh (ap (λ (k : Kept). k.number) (sym e))).few in
      rw take-length at (subst (λ (k : Kept). length (given k standing fresh) ≤ most_nodes) (sym e) s)

-- A PART of a list that is all of it
pub whole : (b : Bool) (standing fresh : Bor (List ℕ)) (k : Kept) → answer (Ok b) standing.now fresh.now ≡ k →
    Part k standing fresh (cond b standing fresh)
unfolding kept given is_standing
whole true standing fresh k e = rw (← e) (record { nodes = sym (take-length standing.now); begins = refl })
whole false standing fresh k e = rw (← e) (record { nodes = sym (take-length fresh.now); begins = refl })

-- and of a refusal an empty part of the fresh list
pub nothing_given : (y : Refusal) (standing fresh empty : Bor (List ℕ)) (k : Kept) → kept (number y.fault) y.place 0 0 ≡ k → empty.now ≡ [] →
    empty.ref_ptr ≡ fresh.ref_ptr → Part k standing fresh empty
unfolding kept given is_standing
nothing_given y standing fresh empty k e without same = rw (← e) (record { nodes = without; begins = same })

-- and nothing is told beside it
pub nothing_told : (b : Bool) (standing fresh : List ℕ) (k : Kept) → answer (Ok b) standing fresh ≡ k → no_refusal ≡ refusal k.number k.place
unfolding no_refusal kept
nothing_told true standing fresh k e = ap (λ (k : Kept). refusal k.number k.place) e
nothing_told false standing fresh k e = ap (λ (k : Kept). refusal k.number k.place) e

-- A REFUSAL, as it is told and as it stands in the answer
pub told_so : (y : Refusal) (k : Kept) → kept (number y.fault) y.place 0 0 ≡ k → tells y ≡ refusal k.number k.place
unfolding kept
told_so y k e = ap (λ (k : Kept). refusal k.number k.place) e

pub made_so : (k : Kept) (y : Refusal) → k.number ≡ number y.fault → k.place ≡ y.place → k.standing ≡ 0 → k.count ≡ 0 →
    k ≡ kept (number y.fault) y.place 0 0
unfolding kept
made_so k y a p s c = λ i. record { number = a i; place = p i; standing = s i; count = c i }

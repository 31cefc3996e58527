-- The ways out of keeping: the refusal of the table alone, 15, and one of the two lists. Assumes nothing.
use mathlib.Core.Path.{◌≡◌, refl, ◌∙◌}
use mathlib.Core.Bool.{Bool, true, false, ◌||◌, cond}
use mathlib.Core.List.{List, [], ◌∷◌}
use mathlib.Core.Logic.{◌⊎◌, inl, inr, ⊎_elim}
use mathlib.Core.Option.{Option, none, some}
use Prim.Native.Nat.{ℕ, suc}
use native.Mathlib.Omega.{arith}
use lib.Dec.{ltb, leb, eqb}
use lib.ListN.{length}
use borrow.Author.Tests.{eq-eqb, ne_eqb, lt-leb, eqb-false}
use Rattle.std.proofs.lemmas.Bool.{cases_Bool, cases_eq, or_parts}
use Rattle.table.specs.Table.{Arc, Table, arcs_of, most_nodes}
use Rattle.table.specs.Refusals.{Refusal, refusal, no_refusal, or_else, count_bad, columns_bad, rooms_fit, wanted_from, wanted_refusal, arc_fault, arcs_from, arcs_refusal, table_refusal}
use Rattle.table.proofs.Basics.{option_or}
use Rattle.keeping.specs.declared.Kept.{Kept}
use Rattle.keeping.specs.Keeping.{lent_total, table_in, fresh_refusal, keep_refusal, kept, choice, keep}

-- the refusals of a table come before that of the fresh list, which is 15 where there is one
before_fresh : (b c : Bool) (x y : Refusal) →
    cond b (refusal 1 0) (cond c (refusal 2 0) (or_else x y)) ≡ or_else (cond b (refusal 1 0) (cond c (refusal 2 0) x)) y
unfolding or_else refusal
before_fresh true c x y = refl
before_fresh false true x y = refl
before_fresh false false x y = refl

fifteen : (d : Option ℕ) (k : Kept) → let g = fresh_refusal d in
    cond (eqb g.number 0) k (kept g.number g.place 0 0) ≡ cond (eqb g.number 0) k (kept 15 0 0 0)
unfolding fresh_refusal refusal no_refusal
fifteen none k = refl
fifteen (some d) k = refl

-- THE TABLE'S REFUSAL: with node 0 for its origin, no wanted nodes and no buffers, 3, 4 and 5 never apply
abbrev pub table_alone : (n : ℕ) → (ts hs ls : List ℕ) → Refusal
table_alone n ts hs ls = table_refusal n 0 ts hs ls [] []

alone : (n : ℕ) (ts hs ls : List ℕ) →
    table_alone n ts hs ls
    ≡ cond (count_bad n) (refusal 1 0) (cond (columns_bad (length ts) (length hs) (length ls)) (refusal 2 0) (arcs_refusal n (arcs_of ts hs ls)))
unfolding table_refusal rooms_fit or_else no_refusal refusal wanted_refusal wanted_from count_bad
alone n ts hs ls =
    ⊎_elim (λ (c : count_bad n ≡ true). rw c)
    (λ (c : count_bad n ≡ false).
    let some_node : n ≡ 0 → ⊥ = eqb-false n 0 (or_parts (eqb n 0) (ltb most_nodes n) c).0 in
    rw (lt-leb n 0 (omega (arith, some_node))))
    (cases_Bool (count_bad n))

module _ (n : ℕ) (ts hs ls standing fresh : List ℕ) where
  abbrev t : Table
  t = table_in n ts hs ls

  -- the table's refusal, and the fresh list's
  abbrev f : Refusal
  f = table_alone n ts hs ls

  abbrev g : Refusal
  g = fresh_refusal (lent_total t fresh)

  refusal_so : keep_refusal n ts hs ls fresh ≡ or_else f g
  unfolding keep_refusal
  refusal_so =
      rw (alone n ts hs ls)
      (before_fresh (count_bad n) (columns_bad (length ts) (length hs) (length ls)) (arcs_refusal n (arcs_of ts hs ls)) g)

  pub refused_so : (f.number ≡ 0 → ⊥) → keep n ts hs ls standing fresh ≡ kept f.number f.place 0 0
  unfolding keep or_else
  refused_so d = rw (refusal_so, ne_eqb f.number 0 d, ne_eqb f.number 0 d)

  pub chosen_so : f.number ≡ 0 → keep n ts hs ls standing fresh ≡ cond (eqb g.number 0) (choice t standing fresh) (kept 15 0 0 0)
  unfolding keep or_else
  chosen_so z = rw (refusal_so, eq-eqb f.number 0 z) (fifteen (lent_total t fresh) (choice t standing fresh))

  pub choice_so : f.number ≡ 0 → (d : ℕ) → lent_total t fresh ≡ some d → keep n ts hs ls standing fresh ≡ choice t standing fresh
  unfolding fresh_refusal no_refusal refusal
  choice_so z d e = chosen_so z ∙ rw e refl

-- THE NUMBERS of keeping's refusals
abbrev Numbers : ℕ → Type 0
Numbers k = (k ≡ 1) ⊎ (k ≡ 2) ⊎ (k ≡ 6) ⊎ (k ≡ 7) ⊎ (k ≡ 15)

abbrev NoneOr : ℕ → Type 0
NoneOr k = (k ≡ 0) ⊎ Numbers k

either : (b : Bool) (x y : Refusal) → NoneOr x.number → NoneOr y.number → NoneOr (cond b x y).number
either true x y p q = p
either false x y p q = q

faults : (b c : Bool) → NoneOr (cond b 6 (cond c 7 0))
faults true c = inr (inr (inr (inl refl)))
faults false true = inr (inr (inr (inr (inl refl))))
faults false false = inl refl

arcs_numbers : (i n : ℕ) (arcs : List Arc) → NoneOr (arcs_from i n arcs).number
unfolding arcs_from arc_fault no_refusal refusal
arcs_numbers i n [] = inl refl
arcs_numbers i n (a ∷ more) =
    either (eqb (arc_fault n a) 0) (arcs_from (suc i) n more) (refusal (arc_fault n a) i) (arcs_numbers (suc i) n more)
    (faults (leb n a.tail || leb n a.head) (eqb a.arc_length 0))

-- THE THREE WAYS OUT
pub data Way (n : ℕ) (ts hs ls standing fresh : List ℕ) : Type 0 where
  refuses : ((table_alone n ts hs ls).number ≡ 0 → ⊥) → Numbers (table_alone n ts hs ls).number →
      keep n ts hs ls standing fresh ≡ kept (table_alone n ts hs ls).number (table_alone n ts hs ls).place 0 0 → Way n ts hs ls standing fresh
  no_walk : lent_total (table_in n ts hs ls) fresh ≡ none → keep n ts hs ls standing fresh ≡ kept 15 0 0 0 → Way n ts hs ls standing fresh
  chooses : (d : ℕ) → lent_total (table_in n ts hs ls) fresh ≡ some d → keep n ts hs ls standing fresh ≡ choice (table_in n ts hs ls) standing fresh →
      Way n ts hs ls standing fresh

module _ (n : ℕ) (ts hs ls standing fresh : List ℕ) where
  numbers : NoneOr (table_alone n ts hs ls).number
  unfolding refusal arcs_refusal
  numbers =
      rw (alone n ts hs ls)
      (either (count_bad n) (refusal 1 0) _ (inr (inl refl))
      (either (columns_bad (length ts) (length hs) (length ls)) (refusal 2 0) _ (inr (inr (inl refl))) (arcs_numbers 0 n (arcs_of ts hs ls))))

  pub way : Way n ts hs ls standing fresh
  unfolding fresh_refusal refusal
  way =
      let f = table_alone n ts hs ls in
      let t = table_in n ts hs ls in
      ⊎_elim
      (λ (z : f.number ≡ 0).
      ⊎_elim (λ (e : lent_total t fresh ≡ none). no_walk e (chosen_so n ts hs ls standing fresh z ∙ rw e refl))
      (λ (e : (d : ℕ) × (lent_total t fresh ≡ some d)). chooses e.0 e.1 (choice_so n ts hs ls standing fresh z e.0 e.1))
      (option_or (lent_total t fresh)))
      (λ (d : f.number ≡ 0 → ⊥).
      refuses d (⊎_elim (λ (z : f.number ≡ 0). absurd (d z)) (λ k. k) numbers) (refused_so n ts hs ls standing fresh d))
      (cases_eq f.number 0)

-- The second pass over the records: what is left to read fills what is left of the columns. Assumes nothing.
use mathlib.Core.Bool.{true}
use mathlib.Core.List.{List, [], ◌∷◌}
use mathlib.Core.Option.{Option, some}
use mathlib.Core.Path.{◌≡◌, refl, ap, sym, ◌∙◌, subst}
use Prim.Native.Nat.{ℕ, ◌+◌, ◌≤◌, ◌<◌}
use native.Mathlib.Decide.{dec_lt}
use native.Mathlib.Omega.{arith}
use lib.ListN.{length, drop, set}
use borrow.Author.Tests.{both_ways}
use Rattle.table.specs.Table.{Arc, arc, most_arcs, tails_of, heads_of, lengths_of}
use Rattle.table.specs.Lent.{arc_of}
use Rattle.table.specs.declared.links.Arc as links
use Rattle.link_format.specs.Reading.{Outcome, got, refused, accepted, list_got, and_then, give, read_record}
use Rattle.link_format.proofs.Records.{in_front}
use Rattle.link_fields.specs.declared.fields.Read.{Read}
use Rattle.link_reader.specs.Says.{RecordGot, arcs_from}
use Rattle.table.proofs.Storing.{Column, column_next}
use Rattle.link_reader.proofs.records.Runs.{remaining, Standing, standing_next, run_none, run_full, run_refused, run_more}
use lib.Seq.{sets}

-- an arc in front of the rest
accepted_then : (a : Arc) (o : Outcome (List Arc)) → accepted (in_front a o) ≡ accepted o
unfolding and_then give accepted
accepted_then a (got more at rest) = refl
accepted_then a (refused n p) = refl

got_then : (a : Arc) (o : Outcome (List Arc)) → accepted o ≡ true → list_got (in_front a o) ≡ a ∷ list_got o
unfolding and_then give accepted list_got
got_then a (got more at rest) e = refl
got_then a (refused n p) e = absurd (both_ways _ refl e)

-- a refusal is no acceptance
refused_not : {A : Type 0} {o : Outcome A} {n p : ℕ} → o ≡ refused n p → accepted o ≡ true → ⊥
unfolding accepted
refused_not e good = both_ways _ refl (rw e at good)

module _ (file : List ℕ) (at i : ℕ) (before : Option Arc) (good : accepted (remaining file at i before) ≡ true) where
  -- an accepted file has no record 6,001
  pub all_passed : most_arcs ≤ i → i ≤ most_arcs → length file ≤ at
  all_passed full low =
      elim (dec_lt at (length file)) [ yes more ↦ absurd (refused_not (run_full file at i before more (omega arith)) good) | no past ↦ omega (arith, past) ]

  module _ (more : at < length file) (few : i < most_arcs) where
    -- and no refused record
    pub never_refused : (n p : ℕ) → read_record before at (drop at file) ≡ refused n p → ⊥
    never_refused n p e = refused_not (run_refused file at i before more few e) good

    module _ {r : Read links.Arc} (g : RecordGot before (drop at file) at r) where
      abbrev rest : Outcome (List Arc)
      rest = remaining file r.next (i + 1) (some (arc_of r.value))

      next_good : accepted (remaining file r.next (i + 1) (some (arc_of r.value))) ≡ true
      next_good = sym (accepted_then (arc_of r.value) rest) ∙ ap accepted (sym (run_more file at i before more few g)) ∙ good

      next_list : list_got (remaining file at i before) ≡ arc_of r.value ∷ list_got rest
      next_list = ap list_got (run_more file at i before more few g) ∙ got_then (arc_of r.value) rest next_good

      -- a column, of tails, heads or lengths
      next_column : (of : List Arc → List ℕ) (x : ℕ) → ((others : List Arc) → of (arc_of r.value ∷ others) ≡ x ∷ of others) → {first : List ℕ} {all buffer : List ℕ}
          → Column first 0 all buffer i (of (list_got (remaining file at i before)))
          → Column first 0 all (set buffer i x) (i + 1) (of (list_got (remaining file r.next (i + 1) (some (arc_of r.value)))))
      next_column of x cons {first} {all} {buffer} k =
          column_next (subst (λ (l : List ℕ). Column first 0 all buffer i l) (ap of next_list ∙ cons (list_got rest)) k)

-- Where the second pass stands.
pub record Filling (file : List ℕ) (start : ℕ) (tails₀ heads₀ lengths₀ tails heads lengths : List ℕ) (at i : ℕ) (before : Option Arc) : Type 0 where
  pub stands : Standing file at i
  -- what is left is good
  pub good : accepted (remaining file at i before) ≡ true
  -- and stored from i on it gives each column with all arcs
  pub tails_left : Column tails₀ 0 (tails_of (arcs_from file start)) tails i (tails_of (list_got (remaining file at i before)))
  pub heads_left : Column heads₀ 0 (heads_of (arcs_from file start)) heads i (heads_of (list_got (remaining file at i before)))
  pub lengths_left : Column lengths₀ 0 (lengths_of (arcs_from file start)) lengths i (lengths_of (list_got (remaining file at i before)))

module _ {file : List ℕ} {start : ℕ} {tails₀ heads₀ lengths₀ tails heads lengths : List ℕ} {at i : ℕ} {before : Option Arc}
    (f : Filling file start tails₀ heads₀ lengths₀ tails heads lengths at i before) where
  pub filling_next : at < length file → i < most_arcs → {r : Read links.Arc} → RecordGot before (drop at file) at r
      → Filling file start tails₀ heads₀ lengths₀ (set tails i r.value.tail) (set heads i r.value.head) (set lengths i r.value.length)
      r.next (i + 1) (some (arc_of r.value))
  unfolding tails_of heads_of lengths_of arc
  filling_next more few {r} g =
      record {
        stands = standing_next f.stands before r g;
        good = next_good file at i before f.good more few g;
        tails_left = next_column file at i before f.good more few g tails_of r.value.tail (λ (others : List Arc). refl) f.tails_left;
        heads_left = next_column file at i before f.good more few g heads_of r.value.head (λ (others : List Arc). refl) f.heads_left;
        lengths_left = next_column file at i before f.good more few g lengths_of r.value.length (λ (others : List Arc). refl) f.lengths_left;
      }

  -- nothing is left: each column has all of its arcs
  module _ (end : length file ≤ at) where
    column_done : (of : List Arc → List ℕ) → of [] ≡ [] → {first buffer : List ℕ} → Column first 0 (of (arcs_from file start)) buffer i (of (list_got (remaining file at i before)))
        → buffer ≡ sets first 0 (of (arcs_from file start))
    unfolding list_got
    column_done of empty {first} {buffer} k =
        let none_left : of (list_got (remaining file at i before)) ≡ [] = ap (λ (o : Outcome (List Arc)). of (list_got o)) (run_none file at i before end) ∙ empty in
        rw none_left at k.same

    pub tails_done : tails ≡ sets tails₀ 0 (tails_of (arcs_from file start))
    unfolding tails_of
    tails_done = column_done tails_of refl f.tails_left

    pub heads_done : heads ≡ sets heads₀ 0 (heads_of (arcs_from file start))
    unfolding heads_of
    heads_done = column_done heads_of refl f.heads_left

    pub lengths_done : lengths ≡ sets lengths₀ 0 (lengths_of (arcs_from file start))
    unfolding lengths_of
    lengths_done = column_done lengths_of refl f.lengths_left

-- The refusals in their order, and the bytes of the load. Assumes nothing.
use mathlib.Core.Path.{◌≡◌, refl, sym, ap, ◌∙◌}
use mathlib.Core.Bool.{false, cond}
use mathlib.Core.List.{List}
use mathlib.Core.Logic.{◌⊎◌}
use Prim.Native.Nat.{ℕ, ◌≤◌}
use native.Mathlib.Omega.{arith}
use lib.Dec.{eqb, ltb, leb}
use lib.ListN.{length, take}
use lib.Seq.{sets, length-sets}
use borrow.Author.Tests.{ne_eqb, le-ltb}
use Rattle.std.specs.Prelude.{Ok, Err}
use Rattle.std.proofs.lemmas.Bool.Decides.{nat_tests}
use Rattle.table.specs.Refusals.{refusal, no_refusal, or_else, count_bad, columns_short}
use Rattle.table.specs.Refusals as told_as
use Rattle.table.specs.Slices.{over}
use Rattle.table.specs.Table.{most_arcs, most_wanted, tails_of, heads_of, lengths_of}
use Rattle.table.specs.Told.{number, tells}
use Rattle.table.specs.declared.faults.Refusal.{Refusal}
use Rattle.table.proofs.Columns.{arcs_back, columns_equal, length_tails, length_heads, length_lengths}
use Rattle.table.proofs.Counts.{good_count}
use Rattle.table.proofs.Storing.{sets_over, start_of}
use Rattle.table.proofs.Telling.{numbered, first, goes_on, stops}
use Rattle.link_format.specs.Buffers.{file_of, writing, put_bytes}
use Rattle.link_format.specs.Format.{count_up}
use Rattle.link_format.proofs.AllNodes.{length_count_up}
use Rattle.link_file.specs.Entries.{write_answer, WriteSays}
use Rattle.link_file.specs.Says.{file_answer}
use Rattle.test_load.proofs.Refused.{Unrefused, unrefused}
use Rattle.test_load.specs.Making.{load_refusal, made_arcs, made, MakeSays}
use Rattle.test_load.specs.declared.Made.{Made}
use Rattle.link_file.specs.declared.Written.{Written}
use Rattle.load_maker.specs.Says.{made_answer}
use Rattle.load_file.specs.LoadFile.{arcs_of_load, content_of_load, bytes_of_load, load_file_refusal, LoadFileSays}
use Rattle.load_file.specs.declared.LoadFile.{LoadFile}

-- A REFUSAL leaves the output as it was
pub nothing_written : (o : LoadFile) (output : List ℕ) (r : Refusal) → tells r ≡ load_file_refusal o (length output) →
    LoadFileSays o output output (file_answer (Err r))
unfolding put_bytes over refusal write_answer
nothing_written o output r e =
    let real : eqb (number r.fault) 0 ≡ false = ne_eqb (number r.fault) 0 (numbered r.fault) in
    record { answer = rw (← e, real); output_is = rw (← e, real) }

module _ (o : LoadFile) where
  -- what the load is refused by
  abbrev pub of_load : told_as.Refusal
  of_load = load_refusal o.n o.seed o.chance o.largest most_arcs most_arcs most_arcs

  -- the tests behind those of the load, in order
  abbrev behind : (room : ℕ) → told_as.Refusal
  behind room = or_else (cond (leb o.n o.origin) (refusal 4 0) no_refusal) (cond (ltb room (length (bytes_of_load o))) (refusal 13 0) no_refusal)

  in_order : (room : ℕ) → or_else of_load (behind room) ≡ load_file_refusal o room
  unfolding load_file_refusal
  in_order room = rw (← first (leb o.n o.origin) 4 0 _ refl) refl

  -- the load, or else the origin, is refused
  pub load_refuses : (r : Refusal) (room : ℕ) → tells r ≡ of_load → tells r ≡ load_file_refusal o room
  load_refuses r room e = stops r of_load (behind room) e ∙ in_order room

  pub origin_refuses : (r : Refusal) (room : ℕ) → no_refusal ≡ of_load → tells r ≡ cond (leb o.n o.origin) (refusal 4 0) no_refusal →
      tells r ≡ load_file_refusal o room
  origin_refuses r room e f = goes_on e (stops r _ _ f) ∙ in_order room

  -- where neither is, the load is one that is not refused
  abbrev pub Passed : Type 0
  Passed = Unrefused o.n o.seed o.chance o.largest

  pub load_passes : no_refusal ≡ of_load → Passed
  unfolding no_refusal refusal
  load_passes e = unrefused o.n o.seed o.chance o.largest most_arcs most_arcs most_arcs (sym (ap (λ (f : told_as.Refusal). f.number) e))

  -- where nothing is refused, or by 13, those of the load and of the origin have
  pub record PassedTo (room m : ℕ) : Type 0 where
    pub load : Passed
    pub origin : leb o.n o.origin ≡ false
    pub last : (cond (ltb room (length (bytes_of_load o))) (refusal 13 0) no_refusal).number ≡ m

  pub passes_to : (room m : ℕ) → (m ≡ 0) ⊎ (m ≡ 13) → (load_file_refusal o room).number ≡ m → PassedTo room m
  unfolding load_file_refusal load_refusal columns_short arcs_of_load or_else no_refusal refusal
  passes_to room m told e =
      let of_load_none : of_load.number ≡ 0 = grind (arith, nat_tests) in
      record {
        load = unrefused o.n o.seed o.chance o.largest most_arcs most_arcs most_arcs of_load_none;
        origin = grind (arith, nat_tests);
        last = grind (arith, nat_tests);
      }

  pub passes_in_order : (room : ℕ) → no_refusal ≡ of_load → leb o.n o.origin ≡ false →
      load_file_refusal o room ≡ cond (ltb room (length (bytes_of_load o))) (refusal 13 0) no_refusal
  unfolding load_file_refusal or_else no_refusal refusal
  passes_in_order room e f = rw (← e, f) refl

  -- the columns of the load make its file
  pub file_is : file_of o.n o.origin (tails_of (arcs_of_load o)) (heads_of (arcs_of_load o)) (lengths_of (arcs_of_load o)) (count_up 0 o.n) ≡ bytes_of_load o
  unfolding file_of bytes_of_load content_of_load
  file_is = rw (arcs_back (arcs_of_load o)) refl

  module _ (e : no_refusal ≡ of_load) (f : leb o.n o.origin ≡ false) where
    writing_is : (room : ℕ) → writing o.n o.origin (tails_of (arcs_of_load o)) (heads_of (arcs_of_load o)) (lengths_of (arcs_of_load o)) (count_up 0 o.n) room
        ≡ load_file_refusal o room
    unfolding writing arcs_of_load
    writing_is room =
        let p = load_passes e in
        let wanted : ltb most_wanted (length (count_up 0 o.n)) ≡ false =
        le-ltb most_wanted (length (count_up 0 o.n)) (omega (arith, length_count_up 0 o.n, p.few_nodes)) in
        rw (good_count o.n p.some_node p.few_nodes, columns_equal (arcs_of_load o) p.few_arcs, wanted, file_is) (sym (passes_in_order room e f))

    -- what writing these says is what is said of the load's file
    pub all_written : (ts hs ls ws output output' : List ℕ) (w : Written) → ts ≡ tails_of (arcs_of_load o) → hs ≡ heads_of (arcs_of_load o) →
        ls ≡ lengths_of (arcs_of_load o) → ws ≡ count_up 0 o.n → WriteSays o.n o.origin ts hs ls ws output output' w → LoadFileSays o output output' w
    all_written ts hs ls ws output output' w et eh el ew says =
        rw (writing_is (length output), file_is) at (rw (et, eh, el, ew) at says)

  -- WHAT make SAYS, of columns that are long enough
  module _ (ts hs ls ts' hs' ls' : List ℕ) (long : (length ts ≡ most_arcs) × (length hs ≡ most_arcs) × (length ls ≡ most_arcs)) where
    pub load_refused : (r : Refusal) → MakeSays o.n o.seed o.chance o.largest ts hs ls ts' hs' ls' (made_answer (Err r)) → tells r ≡ of_load
    unfolding made refusal
    load_refused r says = ap (λ (x : Made). refusal x.number x.place) says.answer ∙ rw (long.0, long.1, long.2) refl

    module _ (m : ℕ) (says : MakeSays o.n o.seed o.chance o.largest ts hs ls ts' hs' ls' (made_answer (Ok m))) where
      pub load_made : no_refusal ≡ of_load
      unfolding made refusal no_refusal
      load_made = ap (λ (x : Made). refusal x.number x.place) says.answer ∙ rw (long.0, long.1, long.2) refl

      arcs_are : made_arcs (load_refusal o.n o.seed o.chance o.largest (length ts) (length hs) (length ls)) (arcs_of_load o) ≡ arcs_of_load o
      unfolding made_arcs no_refusal refusal
      arcs_are = rw (long.0, long.1, long.2, ← load_made) refl

      count_is : length (arcs_of_load o) ≡ m
      unfolding made arcs_of_load
      count_is = sym (ap (λ (x : Made). x.arcs) says.answer ∙ ap length arcs_are)

      -- the columns that are filled are the load's
      pub filled : (take m ts' ≡ tails_of (arcs_of_load o)) × (take m hs' ≡ heads_of (arcs_of_load o)) × (take m ls' ≡ lengths_of (arcs_of_load o))
      unfolding arcs_of_load
      filled = (
        rw (says.tails_are, arcs_are) (start_of (tails_of (arcs_of_load o)) ts m (length_tails (arcs_of_load o) ∙ count_is)),
        rw (says.heads_are, arcs_are) (start_of (heads_of (arcs_of_load o)) hs m (length_heads (arcs_of_load o) ∙ count_is)),
        rw (says.lengths_are, arcs_are) (start_of (lengths_of (arcs_of_load o)) ls m (length_lengths (arcs_of_load o) ∙ count_is)),
      )

-- all nodes are wanted
pub all_wanted : (n : ℕ) (wanted wanted' : List ℕ) → n ≤ length wanted → wanted' ≡ sets wanted 0 (count_up 0 n) →
    (length wanted' ≡ length wanted) × (take n wanted' ≡ count_up 0 n)
all_wanted n wanted wanted' fits put = (
  ap length put ∙ length-sets wanted 0 (count_up 0 n),
  rw (put, sets_over (count_up 0 n) wanted (rw length_count_up fits)) (start_of (count_up 0 n) wanted n (length_count_up 0 n)),
)

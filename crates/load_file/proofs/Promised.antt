-- The promises of specs/Promises.antt. Assumes nothing.
use mathlib.Core.Path.{◌≡◌, refl, sym, ap, subst, ◌∙◌}
use mathlib.Core.Bool.{true, false}
use mathlib.Core.List.{List, [], ◌∷◌}
use mathlib.Core.Logic.{◌⊎◌, inl, inr}
use Prim.Native.Nat.{ℕ, ◌≤◌, ◌<◌}
use native.Mathlib.Omega.{arith}
use lib.Dec.{eqb}
use lib.ListN.{length, take}
use borrow.Author.Tests.{eq-eqb, ne_eqb, lt-ltb, le-leb, le-ltb, leb-false}
use Rattle.std.specs.Prelude.{Some}
use Rattle.std.proofs.lemmas.Bool.Decides.{nat_tests}
use Rattle.std.proofs.lemmas.Option.{option_and_then_some, same_Some}
use Rattle.table.specs.Refusals.{columns_short, refusal, no_refusal, or_else}
use Rattle.table.specs.Slices.{over}
use Rattle.table.specs.Table.{table, arc_count, arcs_good, is_table, most_nodes, most_arcs, most_wanted}
use Rattle.link_format.specs.Buffers.{put_bytes}
use Rattle.link_format.specs.Format.{node_width, length_width, limit, content, count_up}
use Rattle.link_format.specs.Reading.{got, read_file}
use Rattle.link_format.proofs.AllNodes.{length_count_up}
use Rattle.table.proofs.Storing.{start_of}
use Rattle.link_format.proofs.WriteThenRead.{written_tables_read_back}
use Rattle.link_file.specs.Entries.{write_answer}
use Rattle.link_file.specs.declared.Written.{Written}
use Rattle.test_load.specs.Making.{load_refusal}
use Rattle.test_load.proofs.There.{good_load}
use Rattle.load_file.specs.LoadFile.{of_numbers, number_in, load_file_of, load_file_in, arcs_of_load, content_of_load, bytes_of_load, load_file_refusal, LoadFileSays}
use Rattle.load_file.specs.Promises.{InRange, LoadFilesInRange, ReadsBack, LoadFilesReadBack, EnoughRoom, LoadFileRefusals}
use Rattle.load_file.specs.declared.LoadFile.{LoadFile}
use Rattle.load_file.proofs.Fitting.{small, all_below, all_fit}
use Rattle.load_file.proofs.Sizes.{short_file}
use Rattle.load_file.proofs.Words.{below}
use Rattle.load_file.proofs.Writing.{PassedTo, passes_to}

-- what five words are read as is in range
in_range : (s n c l z : List ℕ) (o : LoadFile) → load_file_of s n c l z ≡ Some o → InRange o
unfolding load_file_of of_numbers
in_range s n c l z o e =
    option_and_then_some _ (number_in (limit length_width) s) o e λ seed es fs.
    option_and_then_some _ (number_in (limit length_width) n) o fs λ nodes en fn.
    option_and_then_some _ (number_in (limit length_width) c) o fn λ chance ec fc.
    option_and_then_some _ (number_in (limit length_width) l) o fc λ largest el fl.
    option_and_then_some _ (number_in (limit node_width) z) o fl λ origin ez fz.
    rw (← same_Some _ o fz)
    (record {
      seed_fits = below (limit length_width) s seed es;
      nodes_fit = below (limit length_width) n nodes en;
      chance_fits = below (limit length_width) c chance ec;
      largest_fits = below (limit length_width) l largest el;
      origin_fits = below (limit node_width) z origin ez;
    })

pub load_files_in_range : LoadFilesInRange
unfolding LoadFilesInRange load_file_in
load_files_in_range [] o e = cc
load_files_in_range (a ∷ []) o e = cc
load_files_in_range (a ∷ b ∷ []) o e = cc
load_files_in_range (a ∷ b ∷ c ∷ []) o e = cc
load_files_in_range (a ∷ b ∷ c ∷ d ∷ []) o e = in_range a b c d _ o e
load_files_in_range (a ∷ b ∷ c ∷ d ∷ f ∷ []) o e = in_range a b c d f o e
load_files_in_range (a ∷ b ∷ c ∷ d ∷ f ∷ g ∷ more) o e = cc

module _ (o : LoadFile) (range : InRange o) {room : ℕ} (p : PassedTo o room 0) where
  some : 0 < o.n
  some = p.load.some_node

  nodes : o.n ≤ most_nodes
  nodes = p.load.few_nodes

  origin : o.origin < o.n
  origin = leb-false o.n o.origin p.origin

  wanted : length (count_up 0 o.n) ≤ most_wanted
  wanted = omega (arith, length_count_up 0 o.n, nodes)

  few : length (arcs_of_load o) ≤ most_arcs
  unfolding arcs_of_load
  few = p.load.few_arcs

  -- its arcs are good
  good : arcs_good o.n (arcs_of_load o) ≡ true
  unfolding arcs_of_load
  good = good_load o.n o.seed o.chance o.largest p.load.some_length (omega (arith, range.largest_fits))

  -- so its file is read back
  read_back : read_file (bytes_of_load o) ≡ got (content_of_load o) (length (bytes_of_load o)) []
  unfolding bytes_of_load content_of_load content
  read_back =
      written_tables_read_back (content_of_load o)
      (record {
        header = record {
          some = some;
          nodes = nodes;
          origin_fits = omega (arith, origin, nodes);
          wanted_few = wanted;
          wanted_fit = all_fit 65536 0 o.n (omega arith) (omega (arith, nodes));
        };
        arcs_few = few;
        arcs_fit = small o.n (arcs_of_load o) (omega (arith, nodes)) good;
      })

  -- and it is a table
  accepted : is_table (table o.n o.origin (arcs_of_load o)) (count_up 0 o.n) ≡ true
  unfolding is_table table arc_count
  accepted =
      rw (
        le-leb 1 o.n some,
        le-leb o.n most_nodes nodes,
        lt-ltb o.origin o.n origin,
        le-leb (length (arcs_of_load o)) most_arcs few,
        good,
        le-leb (length (count_up 0 o.n)) most_wanted wanted,
      )
      (all_below o.n 0 o.n (omega arith))

module _ (o : LoadFile) (output output' : List ℕ) (w : Written) (says : LoadFileSays o output output' w) where
  number_is : w.number ≡ (load_file_refusal o (length output)).number
  unfolding write_answer
  number_is = ap (λ (x : Written). x.number) says.answer

  -- where nothing is refused, the file is there
  there : w.number ≡ 0 → take w.length output' ≡ bytes_of_load o
  unfolding put_bytes write_answer
  there zero =
      let put : put_bytes (load_file_refusal o (length output)) (bytes_of_load o) ≡ bytes_of_load o = rw (eq-eqb _ 0 (sym number_is ∙ zero)) refl in
      let size : w.length ≡ length (bytes_of_load o) = ap (λ (x : Written). x.length) says.answer ∙ ap length put in
      rw (says.output_is, put) (start_of (bytes_of_load o) output w.length (sym size))

pub load_files_read_back : LoadFilesReadBack
unfolding LoadFilesReadBack content_of_load arcs_of_load
load_files_read_back o output output' w range says zero =
    let p = passes_to o (length output) 0 (inl refl) (sym (number_is o output output' w says) ∙ zero) in
    subst (λ (file : List ℕ). ReadsBack o file) (sym (there o output output' w says zero)) (record { content_is = read_back o range p; table_is = accepted o range p })

pub enough_room : EnoughRoom
unfolding EnoughRoom arcs_of_load refusal no_refusal
enough_room o output output' w roomy says thirteen =
    let p = passes_to o (length output) 13 (inr refl) (sym (number_is o output output' w says) ∙ thirteen) in
    let fits : length (bytes_of_load o) ≤ length output = omega (arith, roomy, short_file o p.load.few_arcs) in
    let none = rw (le-ltb (length output) (length (bytes_of_load o)) fits) at p.last in
    omega (arith, none)

-- the numbers of the refusals
numbers : (o : LoadFile) (room : ℕ) → let f = load_file_refusal o room in (f.number ≡ 0 → ⊥) →
    (f.place ≡ 0) × ((f.number ≡ 1) ⊎ (f.number ≡ 4) ⊎ (f.number ≡ 13) ⊎ (f.number ≡ 16) ⊎ (f.number ≡ 17))
unfolding load_file_refusal load_refusal columns_short or_else no_refusal refusal
numbers o room d = grind (arith, nat_tests)

pub load_file_refusals : LoadFileRefusals
unfolding LoadFileRefusals put_bytes write_answer over
load_file_refusals o output output' w says d =
    let is = number_is o output output' w says in
    let refused : (load_file_refusal o (length output)).number ≡ 0 → ⊥ = λ z. d (is ∙ z) in
    let told = numbers o (length output) refused in
    let real : eqb (load_file_refusal o (length output)).number 0 ≡ false = ne_eqb _ 0 refused in
    record {
      numbers = rw is told.1;
      nothing = (ap (λ (x : Written). x.place) says.answer ∙ told.0, ap (λ (x : Written). x.length) says.answer ∙ rw real refl);
      untouched = says.output_is ∙ rw real refl;
    }

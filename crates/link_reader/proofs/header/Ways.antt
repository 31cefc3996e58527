-- The ways out of reading a header and its wanted list, one law for each `return` of the code, in the code's order. Assumes nothing.
use mathlib.Core.Bool.{Bool, true, false, ◌&&◌}
use mathlib.Core.List.{List, [], ◌∷◌}
use mathlib.Core.Path.{◌≡◌, refl, sym, ◌∙◌}
use Prim.Native.Nat.{ℕ, ◌+◌, ◌*◌, ◌≤◌, ◌<◌}
use native.Mathlib.Omega.{arith}
use lib.Dec.{ltb, eqb}
use lib.ListN.{length, drop, get_or, length-drop}
use lib.Seq.{drop-drop}
use borrow.Author.Tests.{ltb-false, eq-eqb, ne_eqb}
use Rattle.std.specs.Prelude.{Some, None}
use Rattle.table.specs.Refusals.{count_bad}
use Rattle.table.specs.Table.{most_nodes, most_wanted}
use Rattle.link_format.specs.Format.{all_nodes, header_bits}
use Rattle.link_format.specs.Reading.{forbidden_header, ◌>>◌, ◌>>=◌, refused, and_then, give, here, refuse_if, field, optional, read_nodes, read_wanted, read_header}
use Rattle.link_format.proofs.AllNodes.{length_count_up, all_count_up}
use Rattle.link_format.proofs.BitMaps.{MadeOf, made_of}
use Rattle.link_fields.specs.Fields.{Got, CutInside, byte_of}
use Rattle.link_fields.specs.declared.bit_maps.BitMap.{BitMap}
use Rattle.link_fields.specs.declared.fields.Read.{Read}
use Rattle.link_fields.proofs.fields.Parts.{first_byte, got_here, cut_here}
use Rattle.link_reader.specs.declared.header.Wanted.{Wanted}
use Rattle.link_reader.specs.Says.{NodesGot, WantedGot, HeaderGot, wanted_in}
use Rattle.link_reader.proofs.header.NodeRuns.{nodes_read, length_nodes_in}

-- no list: all nodes
pub wanted_absent : (file : List ℕ) (from n : ℕ) → from ≤ length file → n ≤ most_nodes
    → WantedGot file from false n (record { count = n; listed_at = None; all = true; next = from })
unfolding read_wanted give wanted_in
wanted_absent file from n fits few =
    record {
      is = refl;
      size = length_count_up 0 n;
      same = sym (all_count_up n);
      few = few;
      near = omega arith;
      inside = fits;
      ends = tt;
    }

module _ (file : List ℕ) (from n : ℕ) where
  pub wanted_cut_count : CutInside (field 2) file from 2 → read_wanted true n from (drop from file) ≡ refused 9 (length file)
  unfolding read_wanted ◌>>=◌ and_then
  wanted_cut_count cut = rw (cut_here cut)

  module _ {b : ℕ} {c : Read ℕ} (counted : Got (field 2) file from 2 b c) where
    pub wanted_many : ltb most_wanted c.value ≡ true → read_wanted true n from (drop from file) ≡ refused 5 most_wanted
    unfolding read_wanted ◌>>=◌ ◌>>◌ and_then refuse_if
    wanted_many many = rw (got_here counted, many)

    -- what follows the count
    module _ (few : ltb most_wanted c.value ≡ false) where
      pub nodes_refused : {k p : ℕ} → read_nodes c.value c.next (drop c.next file) ≡ refused k p → read_wanted true n from (drop from file) ≡ refused k p
      unfolding read_wanted ◌>>=◌ ◌>>◌ and_then refuse_if
      nodes_refused e = rw (got_here counted, few, e)

      pub wanted_got : {nodes : Read Bool} → NodesGot file c.next c.value nodes → {all : Bool} → all ≡ (eqb c.value n && nodes.value)
          → WantedGot file from true n (record { count = c.value; listed_at = Some c.next; all = all; next = nodes.next })
      unfolding read_wanted ◌>>=◌ ◌>>◌ and_then refuse_if wanted_in all_nodes
      wanted_got {nodes} got_nodes {all} same =
          let room : 2 * c.value ≤ length (drop c.next file) = rw (length-drop c.next file) (omega (arith, got_nodes.on, got_nodes.inside)) in
          let on : c.next + 2 * c.value ≡ nodes.next = omega (arith, got_nodes.on) in
          let low : c.value ≤ most_wanted = ltb-false most_wanted c.value few in
          record {
            is =
                rw (got_here counted, few, nodes_read c.value c.next (drop c.next file) room, drop-drop (2 * c.value) c.next file, on);
            size = length_nodes_in c.value _;
            same = same ∙ rw (length_nodes_in c.value (drop c.next file), got_nodes.up);
            few = low;
            near = omega (arith, got_nodes.on, counted.near);
            inside = got_nodes.inside;
            ends = on;
          }

pub header_empty : (file : List ℕ) → length file ≡ 0 → read_header 0 file ≡ refused 9 0
unfolding read_header ◌>>=◌ ◌>>◌ and_then here field
header_empty [] h = refl
header_empty (b ∷ bs) h = absurd (omega arith)

module _ (file : List ℕ) (some : 0 < length file) where
  pub header_forbidden : forbidden_header (get_or file 0 0) ≡ true → read_header 0 file ≡ refused 10 0
  unfolding read_header ◌>>=◌ ◌>>◌ and_then here refuse_if
  header_forbidden bad = rw (first_byte file 0 some, bad)

  module _ (map : BitMap) (mapped : (forbidden_header (get_or file 0 0) ≡ false) × (get_or file 0 0 ≡ byte_of map)) where
    m : MadeOf map.first map.second map.third
    m = made_of map.first map.second map.third

    pub cut_n : CutInside (field 2) file 1 2 → read_header 0 file ≡ refused 9 (length file)
    unfolding read_header ◌>>=◌ ◌>>◌ and_then here refuse_if
    cut_n cut = rw (first_byte file 0 some, mapped.0, cut_here cut)

    module _ {b : ℕ} {n : Read ℕ} (nodes : Got (field 2) file 1 2 b n) where
      pub bad_n : count_bad n.value ≡ true → read_header 0 file ≡ refused 1 0
      unfolding read_header ◌>>=◌ ◌>>◌ and_then here refuse_if
      bad_n bad = rw (first_byte file 0 some, mapped.0, got_here nodes, bad)

      module _ (fine : count_bad n.value ≡ false) where
        pub cut_origin : CutInside (optional map.second 2 0) file n.next 2 → read_header 0 file ≡ refused 9 (length file)
        unfolding read_header ◌>>=◌ ◌>>◌ and_then here refuse_if
        cut_origin cut = rw (first_byte file 0 some, mapped.0, mapped.1, got_here nodes, fine, m.second_bit, cut_here cut)

        module _ {b₂ : ℕ} {o : Read ℕ} (origin : Got (optional map.second 2 0) file n.next 2 b₂ o) where
          pub wanted_refused : {k p : ℕ} → read_wanted map.third n.value o.next (drop o.next file) ≡ refused k p → read_header 0 file ≡ refused k p
          unfolding read_header ◌>>=◌ ◌>>◌ and_then here refuse_if
          wanted_refused e = rw (first_byte file 0 some, mapped.0, mapped.1, got_here nodes, fine, m.second_bit, got_here origin, m.third_bit, e)

          module _ {w : Wanted} (wanted : WantedGot file o.next map.third n.value w) where
            abbrev bits : ℕ
            bits = header_bits n.value o.value (wanted_in file w.listed_at n.value w.count)

            pub header_needless : (byte_of map ≡ header_bits n.value o.value (wanted_in file w.listed_at n.value w.count) → ⊥) → read_header 0 file ≡ refused 12 0
            unfolding read_header ◌>>=◌ ◌>>◌ and_then here refuse_if
            header_needless other =
                rw (first_byte file 0 some, mapped.0, mapped.1, got_here nodes, fine, m.second_bit, got_here origin, m.third_bit, wanted.is, ne_eqb (byte_of map) bits other)

            pub header_got : n.value ≤ most_nodes → byte_of map ≡ header_bits n.value o.value (wanted_in file w.listed_at n.value w.count)
                → HeaderGot file (record { n = n.value; origin = o.value; wanted = w.count; listed_at = w.listed_at; next = w.next })
            unfolding read_header ◌>>=◌ ◌>>◌ and_then here refuse_if give
            header_got low same =
                record {
                  is =
                      rw (first_byte file 0 some, mapped.0, mapped.1, got_here nodes, fine, m.second_bit, got_here origin, m.third_bit, wanted.is, eq-eqb (byte_of map) bits same);
                  size = wanted.size;
                  nodes = low;
                  few = wanted.few;
                  short = omega (arith, nodes.near, origin.near, wanted.near);
                  inside = wanted.inside;
                  ends = wanted.ends;
                }

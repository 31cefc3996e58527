-- A run of nodes: what the reader says of it, and the loops over it. Assumes nothing.
use mathlib.Core.Bool.{Bool, ◌&&◌, and-true, and_assoc}
use mathlib.Core.List.{List, ◌∷◌}
use mathlib.Core.Path.{◌≡◌, refl, ap, sym, ◌∙◌}
use Prim.Native.Nat.{ℕ, zero, suc, ◌+◌, ◌-◌, ◌*◌, ◌≤◌, ◌<◌}
use native.Mathlib.Nat.{add-zero}
use native.Mathlib.Numerals.{add-one}
use native.Mathlib.Decide.{dec_lt}
use native.Mathlib.Omega.{arith}
use lib.Dec.{eqb}
use lib.ListN.{length, drop, length-drop}
use lib.Seq.{drop-drop}
use borrow.Author.Tests.{le-leb, lt-leb}
use Rattle.link_format.specs.Format.{counts_from}
use Rattle.link_format.specs.Reading.{◌>>=◌, got, refused, and_then, give, field, number, read_nodes}
use Rattle.link_reader.specs.Says.{nodes_in, NodesGot}

-- the reader, where all nodes are there
pub nodes_read : (k at : ℕ) (rest : List ℕ) → 2 * k ≤ length rest → read_nodes k at rest ≡ got (nodes_in k rest) (at + 2 * k) (drop (2 * k) rest)
unfolding read_nodes nodes_in give ◌>>=◌ and_then field
nodes_read zero at rest h = rw (add-zero at)
nodes_read (suc k) at rest h =
    let left : 2 * k ≤ length (drop 2 rest) = rw (length-drop 2 rest) (omega arith) in
    let on : at + 2 + 2 * k ≡ at + 2 * suc k = omega arith in
    let far : 2 + 2 * k ≡ 2 * suc k = omega arith in
    rw (le-leb 2 (length rest) (omega arith), nodes_read k (at + 2) (drop 2 rest) left, drop-drop (2 * k) 2 rest, on, far)

-- and where they are not
nodes_cut : (k at : ℕ) (rest : List ℕ) → length rest < 2 * k → read_nodes k at rest ≡ refused 9 (at + length rest)
unfolding read_nodes ◌>>=◌ and_then field
nodes_cut zero at rest h = absurd (omega arith)
nodes_cut (suc k) at rest h =
    elim (dec_lt (length rest) 2) [
      | yes s ↦ rw (lt-leb 2 (length rest) s)
      | no s ↦
          let short : length (drop 2 rest) < 2 * k = rw (length-drop 2 rest) (omega (arith, s)) in
          let end : at + 2 + length (drop 2 rest) ≡ at + length rest = rw (length-drop 2 rest) (omega (arith, s)) in
          rw (le-leb 2 (length rest) (omega (arith, s)), nodes_cut k (at + 2) (drop 2 rest) short, end)
    ]

-- the same of a run in the file
pub run_cut : (file : List ℕ) (from count : ℕ) → from ≤ length file → length file < from + 2 * count → read_nodes count from (drop from file) ≡ refused 9 (length file)
run_cut file from count fits short =
    let cut : length (drop from file) < 2 * count = rw (length-drop from file) (omega arith) in
    let end : from + length (drop from file) ≡ length file = rw (length-drop from file) (omega arith) in
    nodes_cut count from (drop from file) cut ∙ rw end

-- one node more
nodes_more : (k at : ℕ) (file : List ℕ) → nodes_in (suc k) (drop at file) ≡ number 2 (drop at file) ∷ nodes_in k (drop (at + 2) file)
unfolding nodes_in
nodes_more k at file = rw (drop-drop 2 at file)

-- Where a loop over a run of nodes stands: so many nodes were passed, each of two bytes, inside the file.
pub record Along (file : List ℕ) (from at i : ℕ) : Type 0 where
  pub here : at ≡ from + 2 * i
  pub inside : at ≤ length file

pub along_next : {file : List ℕ} {from at i : ℕ} → Along file from at i → {next : ℕ} → next ≡ at + 2 → next ≤ length file → Along file from next (i + 1)
along_next a e h = record { here = omega (arith, a.here); inside = h }

-- the nodes that are left: one, and those behind it
pub nodes_left : (file : List ℕ) (count at i : ℕ) → i < count → nodes_in (count - i) (drop at file) ≡ number 2 (drop at file) ∷ nodes_in (count - (i + 1)) (drop (at + 2) file)
nodes_left file count at i more =
    let one_less : count - i ≡ suc (count - (i + 1)) = omega arith in
    rw one_less (nodes_more (count - (i + 1)) at file)

-- The check of the nodes: those passed count up and those left do, where all do.
pub record Checking (file : List ℕ) (from count at : ℕ) (ascending : Bool) (i : ℕ) : Type 0 where
  pub along : Along file from at i
  pub same : (ascending && counts_from i (nodes_in (count - i) (drop at file))) ≡ counts_from 0 (nodes_in count (drop from file))

module _ {file : List ℕ} {from count at i : ℕ} {ascending : Bool} (c : Checking file from count at ascending i) where
  pub checking_next : i < count → {next : ℕ} → next ≡ at + 2 → next ≤ length file
      → Checking file from count next (ascending && eqb (number 2 (drop at file)) i) (i + 1)
  unfolding counts_from
  checking_next more {next} e h =
      record {
        along = along_next c.along e h;
        same =
            rw (e, and_assoc, add-one i)
            (rw (nodes_left file count at i more, add-one i) at c.same);
      }

  pub checking_done : i ≡ count → NodesGot file from count (record { value = ascending; next = at })
  unfolding counts_from nodes_in
  checking_done all =
      let none : count - i ≡ 0 = omega arith in
      record {
        on = omega (arith, c.along.here);
        inside = c.along.inside;
        up = sym (and-true ascending) ∙ (rw none at c.same);
      }

pub length_nodes_in : (k : ℕ) (bs : List ℕ) → length (nodes_in k bs) ≡ k
unfolding nodes_in
length_nodes_in zero bs = refl
length_nodes_in (suc k) bs = ap suc (length_nodes_in k (drop 2 bs))

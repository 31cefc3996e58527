-- The columns of the nodes: what is read off them, and what they are once a node is written. Assumes nothing.
use mathlib.Core.Path.{◌≡◌, refl, sym, ap, subst, ◌∙◌}
use mathlib.Core.List.{List, [], ◌∷◌, map}
use Prim.Native.Nat.{ℕ, zero, suc, ◌<◌}
use native.Mathlib.Omega.{arith}
use lib.ListN.{length, get_or, set, length-set}
use lib.Seq.{map-set, map-set_same}
use Rattle.table.specs.Table.{no_arc}
use Rattle.steps.specs.declared.state.Node.{Node}
use Rattle.steps.specs.declared.state.Status.{Status}
use Rattle.steps.specs.declared.state.Progress.{Progress}
use Rattle.forward_star.specs.declared.star.ForwardStar.{ForwardStar}
use Rattle.steps.specs.Seen.{seen, run_of, held, status_number, prices_in, bounds_in, kepts_in, statuses_in}
use Rattle.steps.specs.Memory.{nobody, node_at, Ready}

module _ {A : Type 0} (f : Node → A) where
  -- what is read of a node is its entry in the column
  pub entry : (ns : List Node) (v : ℕ) → get_or (map f ns) v (f nobody) ≡ f (node_at v ns)
  entry [] v = refl
  entry (n ∷ ns) zero = refl
  entry (n ∷ ns) (suc v) = entry ns v

  -- a column has as many entries as there are nodes
  pub as_many : (ns : List Node) → length (map f ns) ≡ length ns
  as_many [] = refl
  as_many (n ∷ ns) = ap suc (as_many ns)

  -- a node that is written is written in the column,
  pub written : (ns : List Node) (v : ℕ) (n : Node) → map f (set ns v n) ≡ set (map f ns) v (f n)
  written ns v n = map-set f ns v n

  -- which stays where the node has there what it had
  pub unwritten : (ns : List Node) (v : ℕ) (n : Node) → f n ≡ f (node_at v ns) → map f (set ns v n) ≡ map f ns
  unwritten ns v n e = map-set_same f ns v n nobody e

-- the column of the statuses holds their numbers
pub status_is : (ns : List Node) (v : ℕ) → get_or (statuses_in ns) v 0 ≡ status_number (node_at v ns).status
status_is ns v = entry (λ m. status_number m.status) ns v

-- A NODE GETS ANOTHER STATUS, or remembers another child, or gets another price: the other columns stay
module _ (path : List ℕ) (ns : List Node) (g : Progress) (v : ℕ) where
  abbrev n : Node
  n = node_at v ns

  pub held_with_status : (s : Status) →
      held (run_of path (set ns v (record n { status = s })) g)
      ≡ seen path (prices_in ns) (bounds_in ns) (kepts_in ns) (set (statuses_in ns) v (status_number s)) g
  held_with_status s =
      let m : Node = record n { status = s } in
      rw (unwritten (λ a. a.price) ns v m refl, unwritten (λ a. a.bound) ns v m refl, unwritten (λ a. a.kept) ns v m refl, written (λ a. status_number a.status) ns v m)

  pub held_with_memory : (j : ℕ) → held (run_of path (set ns v (record n { remembered = j })) g) ≡ held (run_of path ns g)
  held_with_memory j =
      let m : Node = record n { remembered = j } in
      rw (unwritten (λ a. a.price) ns v m refl, unwritten (λ a. a.bound) ns v m refl, unwritten (λ a. a.kept) ns v m refl, unwritten (λ a. status_number a.status) ns v m refl)

  pub held_with_price : (u : ℕ) →
      held (run_of path (set ns v (record n { price = u })) g)
      ≡ seen path (set (prices_in ns) v u) (bounds_in ns) (kepts_in ns) (statuses_in ns) g
  held_with_price u =
      let m : Node = record n { price = u } in
      rw (written (λ a. a.price) ns v m, unwritten (λ a. a.bound) ns v m refl, unwritten (λ a. a.kept) ns v m refl, unwritten (λ a. status_number a.status) ns v m refl)

-- what a step may rely on stays where no kept arc changes
pub still_ready : {star : ForwardStar} {ns : List Node} (v : ℕ) (n : Node) → n.kept ≡ (node_at v ns).kept → Ready star ns → Ready star (set ns v n)
still_ready {star} {ns} v n e r =
    let long = length-set ns v n in
    record {
      count = long ∙ r.count;
      kept_in = record {
        listed = λ u h.
            subst (λ (k : List ℕ). (get_or k u 0 ≡ no_arc → ⊥) → get_or k u 0 < length star.columns.tails.now) (sym (unwritten (λ a. a.kept) ns v n e))
            (r.kept_in.listed u (omega arith));
        tail_in = λ i h. omega (arith, r.kept_in.tail_in i h);
      };
    }

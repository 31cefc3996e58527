-- Nodes that forget their children, one after the other: the state that is held stays. Assumes nothing.
use mathlib.Core.Path.{◌≡◌, refl, ap, ◌∙◌}
use mathlib.Core.List.{List}
use mathlib.Core.Logic.{⊎_elim}
use Prim.Native.Nat.{ℕ, ◌+◌, ◌<◌}
use native.Mathlib.Omega.{arith}
use lib.ListN.{length, length-set}
use lib.Seq.{get_or-set_same, get_or-set_other}
use Rattle.std.proofs.lemmas.Bool.{cases_eq}
use Rattle.table.specs.Table.{no_node}
use Rattle.steps.specs.declared.state.Node.{Node}
use Rattle.steps.specs.declared.state.Progress.{Progress}
use Rattle.steps.specs.Seen.{run_of, held}
use Rattle.steps.specs.Memory.{nobody, node_at, forgetting}
use Rattle.steps.proofs.Nodes.{held_with_memory}

-- the nodes before an index have forgotten
pub record Forgotten (i : ℕ) (ns₀ ns : List Node) : Type 0 where
  pub long : length ns ≡ length ns₀
  pub none : (v : ℕ) → v < i → v < length ns → (node_at v ns).remembered ≡ no_node
  pub same : (path : List ℕ) (g : Progress) → held (run_of path ns g) ≡ held (run_of path ns₀ g)

pub none_yet : (ns : List Node) → Forgotten 0 ns ns
none_yet ns = record { long = refl; none = λ v h. absurd (omega arith); same = λ path g. refl }

pub one_more : {i : ℕ} {ns₀ ns : List Node} → Forgotten i ns₀ ns → i < length ns → Forgotten (i + 1) ns₀ (forgetting i ns)
one_more {i} {ns₀} {ns} f h =
    let n : Node = record (node_at i ns) { remembered = no_node } in
    let long = length-set ns i n in
    record {
      long = long ∙ f.long;
      none = λ v below inside.
          ⊎_elim
          (λ (e : v ≡ i). rw e (ap (λ (m : Node). m.remembered) (get_or-set_same ns i n nobody h)))
          (λ (d : v ≡ i → ⊥). ap (λ (m : Node). m.remembered) (get_or-set_other ns i v n nobody d) ∙ f.none v (omega arith) (omega (arith, long)))
          (cases_eq v i);
      same = λ path g. held_with_memory path ns g i no_node ∙ f.same path g;
    }

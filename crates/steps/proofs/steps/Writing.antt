-- What a deletion and a contraction write in the nodes. Assumes nothing.
use mathlib.Core.Path.{◌≡◌, refl, sym, ap, ◌∙◌}
use mathlib.Core.List.{List}
use Prim.Native.Nat.{ℕ, ◌+◌, ◌-◌, ◌≤◌}
use lib.ListN.{set}
use lib.Seq.{lt-length-set}
use Rattle.table.specs.Table.{Table, no_node}
use Rattle.auction.specs.Auction.{deletion, contraction}
use Rattle.steps.specs.declared.state.Status.TheVariants.{Deleted}
use Rattle.steps.specs.declared.state.Node.{Node}
use Rattle.steps.specs.declared.state.Progress.{Progress}
use Rattle.steps.specs.Seen.{run_of, status_number, prices_in, bounds_in, kepts_in, memory_in, statuses_in}
use Rattle.steps.specs.Memory.{node_at, forgetting, HasBefore}
use Rattle.steps.specs.Steps.{Becomes}
use Rattle.steps.proofs.Nodes.{written, unwritten, held_with_status, held_with_price, held_with_memory}
use Rattle.steps.proofs.steps.Stepping.{deleted_so, contracted_origin, contracted_other}

-- what a node that forgets leaves in the column of what is remembered
pub memory_forgets : (u : ℕ) (ns ms : List Node) → memory_in ns ≡ memory_in ms → memory_in (forgetting u ns) ≡ memory_in (forgetting u ms)
memory_forgets u ns ms e =
    written (λ m. m.remembered) ns u _ ∙ ap (λ l. set l u no_node) e ∙ sym (written (λ m. m.remembered) ms u _)

-- the node before the terminal one can be looked up still
pub before_still : {d : ℕ} {p : List ℕ} {ns : List Node} (v : ℕ) (m : Node) → HasBefore d p ns → HasBefore d p (set ns v m)
before_still {d} {p} {ns} v m h =
    record { some_node = h.some_node; on_path = h.on_path; inside = lt-length-set ns v m h.inside }

module _ (path : List ℕ) (ns : List Node) (g : Progress) (v u : ℕ) where
  -- the node v is deleted, after u has forgotten
  pub deleted_nodes : 1 ≤ g.depth →
      Becomes (deletion v) (run_of path ns g)
      (run_of path (set (forgetting u ns) v (record (node_at v (forgetting u ns)) { status = Deleted }))
      (record { depth = g.depth - 1; contractions = g.contractions; extensions = g.extensions; deletions = g.deletions + 1 }))
  deleted_nodes h =
      let m : Node = record (node_at u ns) { remembered = no_node } in
      held_with_status path (forgetting u ns) _ v Deleted
      ∙ rw (unwritten (λ a. a.price) ns u m refl, unwritten (λ a. a.bound) ns u m refl, unwritten (λ a. a.kept) ns u m refl, unwritten (λ a. status_number a.status) ns u m refl)
      (deleted_so path (prices_in ns) (bounds_in ns) (kepts_in ns) (statuses_in ns) g v h)

  module _ (value : ℕ) where
    -- the node v with a price
    abbrev pub priced : List Node
    priced = set ns v (record (node_at v ns) { price = value })

    pub memory_priced : memory_in priced ≡ memory_in ns
    memory_priced = unwritten (λ m. m.remembered) ns v _ refl

    -- the origin stays on the path,
    pub origin_priced : (t : Table) (o : ℕ) → t.origin ≡ o → v ≡ o →
        Becomes (contraction t v value) (run_of path ns g)
        (run_of path priced (record { depth = g.depth; contractions = g.contractions + 1; extensions = g.extensions; deletions = g.deletions }))
    origin_priced t o eo e =
        held_with_price path ns _ v value ∙ contracted_origin path (prices_in ns) (bounds_in ns) (kepts_in ns) (statuses_in ns) g t v o value eo e

    -- another node leaves it, and u forgets
    pub other_priced : (t : Table) (o : ℕ) → t.origin ≡ o → (v ≡ o → ⊥) → 1 ≤ g.depth →
        Becomes (contraction t v value) (run_of path ns g)
        (run_of path (forgetting u priced) (record { depth = g.depth - 1; contractions = g.contractions + 1; extensions = g.extensions; deletions = g.deletions }))
    other_priced t o eo d h =
        held_with_memory path priced _ u no_node
        ∙ held_with_price path ns _ v value ∙ contracted_other path (prices_in ns) (bounds_in ns) (kepts_in ns) (statuses_in ns) g t v o value eo d h

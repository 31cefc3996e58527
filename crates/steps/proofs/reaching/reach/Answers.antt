-- The status is stored first, as the definition has it, which changes no child. Assumes nothing.
use mathlib.Core.Path.{◌≡◌, refl, ap, subst, ◌∙◌}
use mathlib.Core.List.{List}
use Prim.Native.Nat.{ℕ, ◌<◌}
use native.Mathlib.Omega.{arith}
use lib.ListN.{length, get_or, set}
use Rattle.table.specs.Table.{arc_count}
use Rattle.auction.specs.Auction.{state, reach, offers, with_status}
use Rattle.steps.specs.declared.state.Status.TheVariants.{Reached}
use Rattle.steps.specs.declared.state.Node.{Node}
use Rattle.steps.specs.declared.state.Progress.{Progress}
use Rattle.steps.specs.Seen.{seen, run_of, held, status_number, prices_in, bounds_in, kepts_in, memory_in, statuses_in}
use Rattle.steps.specs.Memory.{node_at, Remembering, but}
use Rattle.steps.proofs.Nodes.{as_many, unwritten, held_with_status, still_ready}
use Rattle.steps.proofs.Remembering.{Alike, marked_alike, after_alike}
use Rattle.steps.proofs.reaching.reach.Goals as goal

-- the nodes with one marked
abbrev marked : (v : ℕ) → List Node → List Node
marked v ns = set ns v (record (node_at v ns) { status = Reached })

alike : (path : List ℕ) (ns : List Node) (g : Progress) (v : ℕ) → v < length ns → get_or (statuses_in ns) v 0 ≡ 0 →
    Alike (held (run_of path ns g)) (held (run_of path (marked v ns) g))
alike path ns g v h new =
    rw (held_with_status path ns g v Reached)
    (marked_alike path (prices_in ns) (bounds_in ns) (kepts_in ns) (statuses_in ns) g v (omega (arith, as_many (λ m. status_number m.status) ns)) new)

pub offer_arcs-requires-clause-ready : goal.offer_arcs-requires-clause-ready
offer_arcs-requires-clause-ready c = still_ready c.args.v _ refl c.requires.ready

pub returns-clause-reaches : goal.returns-clause-reaches
unfolding reach with_status seen state
returns-clause-reaches c = λ t path g of.
    c.offer_arcs.ensures.offers t path g of ∙ ap (offers (arc_count t) 0 t c.args.v) (held_with_status path c.args.nodes.now g c.args.v Reached)

pub returns-clause-remembers : goal.returns-clause-remembers
returns-clause-remembers c = λ path g new t of tails arcs.
    let a = c.args in
    let ready = c.requires.ready in
    after_alike (alike path a.nodes.now g a.v (omega (arith, ready.count, c.requires.v_in_bounds.0)) new) arcs
    (λ still.
    subst
    (λ (m : List ℕ). Remembering t (but a.v (held (run_of path a.nodes.now g))) m (memory_in c.offer_arcs.new.nodes)
    (held (run_of path (marked a.v a.nodes.now) g)) (held (run_of path c.offer_arcs.new.nodes g)))
    (unwritten (λ m. m.remembered) a.nodes.now a.v _ refl)
    (c.offer_arcs.ensures.remembers path g t of tails still))

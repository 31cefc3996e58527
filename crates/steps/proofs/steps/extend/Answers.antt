-- The child goes on the path; where it is unreached, reaching it is the definition's own last step. Assumes nothing.
use mathlib.Core.Path.{◌≡◌, sym, ◌∙◌}
use mathlib.Core.List.{List}
use Prim.Native.Nat.{ℕ}
use native.Mathlib.Omega.{arith}
use lib.ListN.{get_or, set}
use borrow.Author.Tests.{ltb-true, ltb-false}
use Rattle.steps.specs.Seen.{prices_in, bounds_in, kepts_in, statuses_in, status_number}
use Rattle.steps.proofs.Nodes.{entry}
use Rattle.steps.proofs.steps.Stepping.{grown, extended_known, extended_reached, reached_other}
use Rattle.steps.proofs.Remembering.{seen_alike, unchanged, after_alike, fewer}
use Rattle.steps.proofs.steps.extend.Goals as goal
use Rattle.steps.proofs.steps.extend.Goals.{Then-not-was_reached}

module _ (c : Then-not-was_reached) where
  abbrev status : List ℕ
  status = statuses_in c.args.nodes.now

  new : get_or status c.from-v.result 0 ≡ 0
  new =
      let s = entry (λ m. status_number m.status) c.args.nodes.now c.from-v.result in
      omega (arith, s, ltb-false _ _ (sym c.was_reached.ensures ∙ c.if-not-was_reached.true))

pub returns-then-not-was_reached-clause-extends : goal.returns-then-not-was_reached-clause-extends
returns-then-not-was_reached-clause-extends c = λ t of.
    let a = c.args in
    let ns = a.nodes.now in
    extended_reached a.path.now (prices_in ns) (bounds_in ns) (kepts_in ns) (statuses_in ns) a.g _ a.child c.from-v.result _ c.from-v.ensures
    c.requires.room.0 (new (goal.at.returns-then-not-was_reached-clause-extends c).Then-not-was_reached)
    (c.reach.ensures.reaches t (set a.path.now a.g.depth a.child) (grown a.g) of)

pub returns-then-not-was_reached-clause-remembers : goal.returns-then-not-was_reached-clause-remembers
returns-then-not-was_reached-clause-remembers c = λ t of tails arcs.
    let a = c.args in
    let ns = a.nodes.now in
    let unreached = new (goal.at.returns-then-not-was_reached-clause-remembers c).Then-not-was_reached in
    after_alike
    (seen_alike a.path.now (prices_in ns) (bounds_in ns) (set a.path.now a.g.depth a.child) (prices_in ns) (bounds_in ns) (kepts_in ns) (statuses_in ns) a.g (grown a.g))
    arcs
    (λ still.
    fewer (reached_other a.path.now (prices_in ns) (bounds_in ns) (kepts_in ns) (statuses_in ns) a.g c.from-v.result unreached)
    (c.reach.ensures.remembers (set a.path.now a.g.depth a.child) (grown a.g) unreached t of tails still))

pub returns-else-not-was_reached-clause-extends : goal.returns-else-not-was_reached-clause-extends
returns-else-not-was_reached-clause-extends c = λ t of.
    let a = c.args in
    let ns = a.nodes.now in
    let s = entry (λ m. status_number m.status) ns c.from-v.result in
    extended_known a.path.now (prices_in ns) (bounds_in ns) (kepts_in ns) (statuses_in ns) a.g _ a.child c.from-v.result c.from-v.ensures
    c.requires.room.0 (λ z. omega (arith, s, ltb-true _ _ (sym c.was_reached.ensures ∙ c.if-not-was_reached.false)))

pub returns-else-not-was_reached-clause-remembers : goal.returns-else-not-was_reached-clause-remembers
returns-else-not-was_reached-clause-remembers c = λ t of tails arcs.
    let a = c.args in
    let ns = a.nodes.now in
    unchanged
    (seen_alike a.path.now (prices_in ns) (bounds_in ns) (set a.path.now a.g.depth a.child) (prices_in ns) (bounds_in ns) (kepts_in ns) (statuses_in ns) a.g (grown a.g))

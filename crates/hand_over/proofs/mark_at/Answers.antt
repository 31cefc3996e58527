-- The arc's ends are nodes, and its mark is by what they have. Assumes nothing.
use mathlib.Core.Path.{◌≡◌, sym, ap, ◌∙◌}
use mathlib.Core.List.{List}
use Prim.Native.Nat.{ℕ}
use native.Mathlib.Omega.{arith}
use lib.Dec.{ltb}
use lib.ListN.{get_or}
use borrow.Author.Tests.{ne_eqb}
use Rattle.table.specs.Table.{down}
use Rattle.steps.specs.declared.state.Node.{Node}
use Rattle.steps.specs.Seen.{status_number, statuses_in, kepts_in}
use Rattle.steps.specs.Memory.{node_at}
use Rattle.steps.proofs.Nodes.{entry}
use Rattle.hand_over.proofs.mark_at.Goals as goal

pub bounds-nodes-from : goal.bounds-nodes-from
bounds-nodes-from c = omega (arith, c.from.ensures, c.arc-arc.ensures.head, c.requires.arc_ends.head_in c.args.i c.requires.i_in_bounds)

pub bounds-nodes-from-2 : goal.bounds-nodes-from-2
bounds-nodes-from-2 c = omega (arith, c.from-2.ensures, c.arc-arc.ensures.tail, c.requires.arc_ends.tail_in c.args.i c.requires.i_in_bounds)

-- whether a node has been reached, as its column says
reached_so : (nodes : List Node) (v w : ℕ) → v ≡ w → ltb 0 (status_number (node_at v nodes).status) ≡ ltb 0 (get_or (statuses_in nodes) w 0)
reached_so nodes v w e = ap (ltb 0) (sym (entry (λ m. status_number m.status) nodes v) ∙ ap (λ (u : ℕ). get_or (statuses_in nodes) u 0) e)

pub returns : goal.returns
returns c =
    let ns = c.args.nodes.now in
    let arc = c.arc-arc.ensures in
    let kept : c.from-3.result ≡ get_or (kepts_in ns) (get_or c.args.columns.heads.now c.args.i 0) 0 =
    c.from-3.ensures ∙ sym (entry (λ m. m.kept) ns c.from.result) ∙ ap (λ (u : ℕ). get_or (kepts_in ns) u 0) (c.from.ensures ∙ arc.head) in
    let up = ne_eqb (get_or c.args.columns.lengths.now c.args.i 0) down (rw arc.length at c.if-arc.false) in
    let head = reached_so ns c.from.result _ (c.from.ensures ∙ arc.head) in
    let tail = reached_so ns c.from-2.result _ (c.from-2.ensures ∙ arc.tail) in
    rw (up, ← head, ← tail, ← kept, ← c.was_reached.ensures, ← c.was_reached-2.ensures)
    c.mark.ensures

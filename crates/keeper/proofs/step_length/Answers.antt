-- The arcs from p on are left to compare; p rises along the node's list. Assumes nothing.
use mathlib.Core.Path.{◌≡◌, refl, sym, ap, ◌∙◌}
use Prim.Native.Nat.{◌<◌}
use native.Mathlib.Omega.{arith}
use lib.ListN.{length, get_or}
use borrow.Author.Tests.{lt-ltb}
use Rattle.std.proofs.lemmas.Bool.Decides.{nat_tests}
use Rattle.forward_star.proofs.Along.{Readable, readable_in}
use Rattle.forward_star.proofs.Columns.{good_table}
use Rattle.keeper.specs.Totals.{held}
use Rattle.keeper.proofs.Stepping.{begins, up, into, elsewhere, ends, none_met, one_met}
use Rattle.keeper.proofs.step_length.Goals as goal
use Rattle.keeper.proofs.step_length.Goals.{In-loop-p, then-columns-i, else-columns-i}

-- inside the loop the arc at p can be read
inside : (c : In-loop-p) →
    let s = c.args.linked.now.star in
    Readable s.columns.heads.now s.columns.lengths.now s.first.now s.next.now c.loop-p.p
inside c = readable_in c.args.linked.now.listed c.loop-p.invariant.on_list c.loop-p-test.true

pub loop-p-init : goal.loop-p-init
loop-p-init c =
    let s = c.args.linked.now.star in
    let of = c.args.linked.now.listed in
    let f : (c.args.from < length s.first.now) × (c.in_ok-p.field-0.now ≡ get_or s.first.now c.args.from 0) =
    grind (arith, nat_tests, c.in_ok-p.ensures.lookup) in
    rw f.1 (begins of c.args.from c.args.to (omega (arith, f.0, of.linked.first_count)))

pub bounds-columns-i : goal.bounds-columns-i
bounds-columns-i c = let r = inside (goal.at.bounds-columns-i c).In-loop-p in omega (arith, r.in_heads)

pub bounds-columns-i-then-columns-i : goal.bounds-columns-i-then-columns-i
bounds-columns-i-then-columns-i c = let r = inside (goal.at.bounds-columns-i-then-columns-i c).In-loop-p in omega (arith, r.in_lengths)

pub lesser-shortest-requires : goal.lesser-shortest-requires
lesser-shortest-requires c =
    let l = c.args.linked.now in up l.listed _ _ c.loop-p.invariant c.loop-p-test.true (good_table l.table) _ c.from-i.ensures

pub loop-p-smaller : goal.loop-p-smaller
loop-p-smaller c =
    let r = inside (goal.at.loop-p-smaller c).In-loop-p in rw c.from-i.ensures (omega (arith, r.rises, r.low))

pub loop-p-preserved : goal.loop-p-preserved
loop-p-preserved c =
    let here = c.args.linked.now.listed in
    let more = c.loop-p-test.true in
    elim c.if-columns-i.branch [
      | then-columns-i w ↦
          rw w.shortest-is (into here _ _ c.loop-p.invariant more _ c.from-i.ensures w.if-columns-i.true _ w.lesser-shortest.ensures)
      | else-columns-i w ↦
          rw w.shortest-is (elsewhere here _ _ c.loop-p.invariant more _ c.from-i.ensures w.if-columns-i.false)
    ]

pub returns-then-shortest : goal.returns-then-shortest
returns-then-shortest c =
    sym (ap held (none_met c.loop-p.shortest c.if-shortest.true)) ∙ ends c.args.linked.now.listed _ _ c.loop-p.invariant c.loop-p-test.false
    ∙ rw (lt-ltb _ _ c.loop-p.invariant.on_list.node) refl

pub returns : goal.returns
returns c =
    sym (ap held (one_met c.loop-p.shortest c.if-shortest.false)) ∙ ends c.args.linked.now.listed _ _ c.loop-p.invariant c.loop-p-test.false
    ∙ rw (lt-ltb _ _ c.loop-p.invariant.on_list.node) refl

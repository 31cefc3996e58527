-- The arcs before p have been offered; p rises along the node's list. Assumes nothing.
use mathlib.Core.Path.{◌≡◌, ap, ◌∙◌}
use Prim.Native.Nat.{◌+◌, ◌<◌}
use native.Mathlib.Omega.{arith}
use lib.ListN.{length, get_or}
use Rattle.table.specs.Table.{no_distance}
use Rattle.forward_star.proofs.Along.{Readable, readable}
use Rattle.steps.proofs.Nodes.{as_many}
use Rattle.steps.proofs.reaching.Offered.{now_offered}
use Rattle.steps.proofs.reaching.Walk.{begins, on_list, goes_on, ends, remembers}
use Rattle.steps.proofs.reaching.offer_arcs.Goals as goal
use Rattle.steps.proofs.reaching.offer_arcs.Goals.{In-loop-p, After-from-head, After-from-arc_length}

module _ (c : In-loop-p) where
  here : Readable c.args.star.now.columns.heads.now c.args.star.now.columns.lengths.now c.args.star.now.first.now c.args.star.now.next.now c.loop-p.p
  here = readable c.args.star.now.of_some_table (on_list c.args.star.now c.loop-p.invariant) c.loop-p-test.true

module _ (c : After-from-head) where
  head : c.from-head.result ≡ get_or c.args.star.now.columns.heads.now c.loop-p.p 0
  head = c.from-head.ensures ∙ ap (λ i. get_or c.args.star.now.columns.heads.now i 0) c.from-i.ensures

pub loop-p-init : goal.loop-p-init
loop-p-init c = begins c.args.star.now c.requires.ready c.requires.v_in_bounds.0 c.requires.distance.1

pub offset_bounds-heads-i : goal.offset_bounds-heads-i
offset_bounds-heads-i c = let r = here (goal.at.offset_bounds-heads-i c).In-loop-p in omega (arith, c.from-i.ensures, r.rises, r.low)

pub bounds-heads-i : goal.bounds-heads-i
bounds-heads-i c = omega (arith, c.from-i.ensures, (here (goal.at.bounds-heads-i c).In-loop-p).in_heads)

pub offset_bounds-lengths-i : goal.offset_bounds-lengths-i
offset_bounds-lengths-i c = let r = here (goal.at.offset_bounds-lengths-i c).In-loop-p in omega (arith, c.from-i.ensures, r.rises, r.low)

pub bounds-lengths-i : goal.bounds-lengths-i
bounds-lengths-i c = omega (arith, c.from-i.ensures, (here (goal.at.bounds-lengths-i c).In-loop-p).in_lengths)

pub offset_bounds-next-i : goal.offset_bounds-next-i
offset_bounds-next-i c = let r = here (goal.at.offset_bounds-next-i c).In-loop-p in omega (arith, c.from-i.ensures, r.rises, r.low)

pub bounds-next-i : goal.bounds-next-i
bounds-next-i c = omega (arith, c.from-i.ensures, (here (goal.at.bounds-next-i c).In-loop-p).in_next)

pub offer-requires : goal.offer-requires
offer-requires c =
    let places = goal.at.offer-requires c in
    let star = c.args.star.now in
    let r = here places.In-loop-p in
    let inv = c.loop-p.invariant in
    record {
      head_in_bounds = omega (arith, head places.After-from-head, r.head_in, inv.long, c.requires.ready.count);
      offered_lt_no_distance = omega (arith, c.requires.v_in_bounds.1, c.from-arc_length.ensures, c.type_inv.lengths c.from-i.result);
      kept_in = record {
        listed = λ u h. inv.forgetting.kept_in.listed u (omega (arith, as_many (λ m. m.kept) c.loop-p.nodes));
        tail_in = λ i h. omega (arith, c.requires.ready.kept_in.tail_in i h, inv.long);
      };
    }

pub loop-p-smaller : goal.loop-p-smaller
loop-p-smaller c =
    let r = here (goal.at.loop-p-smaller c).In-loop-p in
    let same : get_or c.args.star.now.next.now c.from-i.result 0 ≡ get_or c.args.star.now.next.now c.loop-p.p 0 =
    ap (λ i. get_or c.args.star.now.next.now i 0) c.from-i.ensures in
    omega (arith, same, r.rises, r.low)

module _ (c : After-from-arc_length) where
  long : c.from-arc_length.result ≡ get_or c.args.star.now.columns.lengths.now c.loop-p.p 0
  long = c.from-arc_length.ensures ∙ ap (λ i. get_or c.args.star.now.columns.lengths.now i 0) c.from-i.ensures

pub loop-p-preserved : goal.loop-p-preserved
loop-p-preserved c =
    let places = goal.at.loop-p-preserved c in
    let star = c.args.star.now in
    let r = here places.In-loop-p in
    let ready = c.requires.ready in
    let inv = c.loop-p.invariant in
    let at = head places.After-from-head in
    let inside : c.from-head.result < length c.loop-p.nodes = omega (arith, r.head_in, inv.long, ready.count) in
    let fits : c.args.distance + c.from-arc_length.result < no_distance =
    omega (arith, c.requires.v_in_bounds.1, c.from-arc_length.ensures, c.type_inv.lengths c.from-i.result) in
    let now = now_offered c.from-head.result c.loop-p.p (c.args.distance + c.from-arc_length.result) star.columns.tails.now c.loop-p.nodes inside fits
    (omega (arith, r.rises, r.low)) in
    goes_on star c.from-i.result c.from-head.result _ inv ready c.from-i.ensures at (ap (λ l. c.args.distance + l) (long places.After-from-arc_length))
    c.loop-p-test.true (omega (arith, c.requires.v_in_bounds.1)) c.requires.v_in_bounds.0 c.requires.distance.0 inside (omega (arith, r.in_heads, star.columns.heads_are)) (rw c.offer.ensures now)

pub returns-clause-offers : goal.returns-clause-offers
returns-clause-offers c = λ t path g. ends c.args.star.now c.loop-p.invariant path g c.loop-p-test.false t

pub returns-clause-remembers : goal.returns-clause-remembers
returns-clause-remembers c = λ path g. remembers c.args.star.now c.loop-p.invariant path g

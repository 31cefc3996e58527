-- The bids from p on are left to compare; p rises along the node's list. Assumes nothing.
use mathlib.Core.Path.{◌≡◌, ap, ◌∙◌}
use native.Mathlib.Omega.{arith}
use lib.ListN.{get_or}
use Rattle.forward_star.proofs.Along.{Readable, readable}
use Rattle.steps.proofs.bids.Bidding.{begins, goes_on, ends}
use Rattle.steps.proofs.bids.least_bid.Goals as goal
use Rattle.steps.proofs.bids.least_bid.Goals.{In-loop-p, After-from-head}

module _ (c : In-loop-p) where
  here : Readable c.args.star.now.columns.heads.now c.args.star.now.columns.lengths.now c.args.star.now.first.now c.args.star.now.next.now c.loop-p.p
  here = readable c.args.star.now.of_some_table (λ t of. (c.loop-p.invariant t of).on_list) c.loop-p-test.true

module _ (c : After-from-head) where
  head : c.from-head.result ≡ get_or c.args.star.now.columns.heads.now c.loop-p.p 0
  head = c.from-head.ensures ∙ ap (λ i. get_or c.args.star.now.columns.heads.now i 0) c.from-i.ensures

pub loop-p-init : goal.loop-p-init
loop-p-init c = λ t of. begins of (omega (arith, of.linked.first_count, c.requires.v_in_bounds.0))

pub offset_bounds-heads-i : goal.offset_bounds-heads-i
offset_bounds-heads-i c = let r = here (goal.at.offset_bounds-heads-i c).In-loop-p in omega (arith, c.from-i.ensures, r.rises, r.low)

pub bounds-heads-i : goal.bounds-heads-i
bounds-heads-i c = omega (arith, c.from-i.ensures, (here (goal.at.bounds-heads-i c).In-loop-p).in_heads)

pub offset_bounds-lengths-i : goal.offset_bounds-lengths-i
offset_bounds-lengths-i c = let r = here (goal.at.offset_bounds-lengths-i c).In-loop-p in omega (arith, c.from-i.ensures, r.rises, r.low)

pub bounds-lengths-i : goal.bounds-lengths-i
bounds-lengths-i c = omega (arith, c.from-i.ensures, (here (goal.at.bounds-lengths-i c).In-loop-p).in_lengths)

pub offset_bounds-next-i : goal.offset_bounds-next-i
offset_bounds-next-i c = let r = here (goal.at.offset_bounds-next-i c).In-loop-p in omega (arith, c.from-i.ensures, r.rises, r.low)

pub bounds-next-i : goal.bounds-next-i
bounds-next-i c = omega (arith, c.from-i.ensures, (here (goal.at.bounds-next-i c).In-loop-p).in_next)

pub lower_bid-least-requires : goal.lower_bid-least-requires
lower_bid-least-requires c =
    let places = goal.at.lower_bid-least-requires c in
    let r = here places.In-loop-p in
    record {
      head_bound = omega (arith, head places.After-from-head, r.head_in, c.requires.nodes_len);
      position_lt_no_arc = (omega (arith, r.rises, r.low), c.requires.v_in_bounds.1 c.from-head.result);
    }

pub loop-p-smaller : goal.loop-p-smaller
loop-p-smaller c =
    let r = here (goal.at.loop-p-smaller c).In-loop-p in
    let same : get_or c.args.star.now.next.now c.from-i.result 0 ≡ get_or c.args.star.now.next.now c.loop-p.p 0 =
    ap (λ i. get_or c.args.star.now.next.now i 0) c.from-i.ensures in
    omega (arith, same, r.rises, r.low)

pub loop-p-preserved : goal.loop-p-preserved
loop-p-preserved c = λ t of.
    goes_on of c.from-i.result c.from-head.result (c.loop-p.invariant t of) c.from-i.ensures (head (goal.at.loop-p-preserved c).After-from-head)
    c.loop-p-test.true (λ path g eh el. c.lower_bid-least.ensures t path g eh el)

pub returns : goal.returns
returns c = λ t path g of. ends of (c.loop-p.invariant t of) c.loop-p-test.false path g

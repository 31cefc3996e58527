-- A state of the run is held; each iteration is counted, and the auction's bound on them is the measure. Assumes nothing.
use mathlib.Core.Path.{◌≡◌, sym, ap, ◌∙◌}
use mathlib.Core.List.{List}
use Prim.Native.Nat.{ℕ, suc, ◌+◌, ◌-◌, ◌≤◌, ◌<◌}
use borrow.Author.Rules.{rules}
use native.Mathlib.Omega.{arith}
use lib.ListN.{get_or}
use Rattle.std.specs.Prelude.{Option, not}
use Rattle.table.specs.Table.{Table}
use Rattle.table.specs.Lent.{table_in}
use Rattle.forward_star.specs.declared.linked.LinkedTable.{LinkedTable}
use Rattle.forward_star.specs.Lent.{IsStarOf}
use Rattle.forward_star.proofs.Columns.{nodes_listed}
use Rattle.steps.specs.declared.state.Node.{Node}
use Rattle.auction.specs.Auction.{best, most_iterations}
use Rattle.steps.specs.declared.bids.LeastBid.{LeastBid}
use Rattle.steps.specs.declared.state.Progress.{Progress}
use Rattle.steps.specs.declared.state.RunState.{RunState}
use Rattle.steps.specs.Seen.{iterations_in, run_of, held, prices_in, memory_in}
use Rattle.steps.specs.Steps.{bid_in}
use Rattle.steps.specs.Memory.{node_at}
use Rattle.steps.proofs.Nodes.{entry}
use Rattle.solver.proofs.run.Ready.{InRun, few_in_all}
use Rattle.solver.proofs.run.Storing.{none_told, some_told, above_bid, not_above}
use Rattle.solver.proofs.run.Iterating.{Made, starts, now_ready, ready_nodes, node_before, few_scans, wanted_below, may_extend, may_step, by_memory, below_by_memory, by_scan, continues, looked_for, still_missing, still_below, counted, ends, stops, passes}
use Rattle.solver.proofs.run.iterate.Goals as goal
use Rattle.solver.proofs.run.iterate.Goals.{After-least_bid-least, After-step-g, After-from-v, At-loop-w, Joined-child, then-child, else-child+else-is_none+else-is_above, else-is_none-via-then-is_none+else-v-origin, else-is_none-via-else-is_none, else-is_above-via-then-is_above+else-depth-g, else-is_above-via-else-is_above}

-- THE PLACES on the way: at the loop's head; where the terminal node has been read.
module _ (c : At-loop-w) where
  abbrev now : RunState
  now = run_of c.loop-w.path c.loop-w.nodes c.loop-w.g

  ready : InRun c.args.linked.now.table.n now
  ready = now_ready c.args.linked.now c.loop-w.invariant

module _ (c : After-from-v) where
  terminal_in : c.from-v.result < c.args.linked.now.table.n
  terminal_in = omega (arith, c.from-v.ensures, (now_ready c.args.linked.now c.loop-w.invariant).terminal_in)

  -- what the terminal node remembers
  remembered : get_or (memory_in c.loop-w.nodes) c.from-v.result 0 ≡ (node_at c.from-v.result c.loop-w.nodes).remembered
  remembered = entry (λ m. m.remembered) c.loop-w.nodes c.from-v.result

-- what a scan finds, in the table at hand
found : (linked : LinkedTable) (v : ℕ) (least : Option LeastBid) (ns : List Node) → ((t : Table) (path : List ℕ) (g : Progress) → IsStarOf t linked.star → bid_in least ≡ best t v (held (run_of path ns g))) →
    (path : List ℕ) (g : Progress) → bid_in least ≡ best (table_in linked.table) v (held (run_of path ns g))
found linked v least ns of path g = of (table_in linked.table) path g linked.listed

module _ (c : After-least_bid-least) where
  bids : bid_in c.least_bid-least.result ≡ best (table_in c.args.linked.now.table) c.from-v.result (held (run_of c.loop-w.path c.loop-w.nodes c.loop-w.g))
  bids = found c.args.linked.now _ _ _ c.least_bid-least.ensures c.loop-w.path c.loop-w.g

pub first_unreached-w-requires : goal.first_unreached-w-requires
first_unreached-w-requires c = (search rules, wanted_below c.args.linked.now _ c.requires.long.1)

pub loop-w-init : goal.loop-w-init
loop-w-init c =
    let a = c.args in
    starts a.linked.now (run_of a.path.now a.nodes.now a.begun) c.requires.begun c.requires.long.0 c.requires.long.1 c.requires.forgotten c.first_unreached-w.ensures

pub overflow_sub-depth : goal.overflow_sub-depth
overflow_sub-depth c = (ready (goal.at.overflow_sub-depth c).At-loop-w).depth_some

pub offset_bounds-path-depth : goal.offset_bounds-path-depth
offset_bounds-path-depth c =
    let r = ready (goal.at.offset_bounds-path-depth c).At-loop-w in omega (arith, r.depth_short, r.few_nodes)

pub bounds-path-depth : goal.bounds-path-depth
bounds-path-depth c =
    let r = ready (goal.at.bounds-path-depth c).At-loop-w in omega (arith, r.depth_some, r.depth_short, c.loop-w.invariant.path_long)

pub bounds-nodes-v : goal.bounds-nodes-v
bounds-nodes-v c = omega (arith, terminal_in (goal.at.bounds-nodes-v c).After-from-v, c.loop-w.invariant.nodes_long)

pub extend-g-requires : goal.extend-g-requires
extend-g-requires c =
    let linked = c.args.linked.now in
    let may = may_extend linked c.loop-w.invariant c.from-v.result c.from-v.ensures _ (remembered (goal.at.extend-g-requires c).After-from-v) c.if-child.true c.loop-w-test.true in
    record { ready = ready_nodes linked c.loop-w.invariant; child_in_bounds = may.0; room = may.1 }

pub least_bid-least-requires-clause-nodes_len : goal.least_bid-least-requires-clause-nodes_len
least_bid-least-requires-clause-nodes_len c = c.loop-w.invariant.nodes_long ∙ sym (nodes_listed c.args.linked.now)

pub least_bid-least-requires-clause-v_in_bounds : goal.least_bid-least-requires-clause-v_in_bounds
least_bid-least-requires-clause-v_in_bounds c =
    let places = goal.at.least_bid-least-requires-clause-v_in_bounds c in
    (omega (arith, terminal_in places.After-from-v, nodes_listed c.args.linked.now), (ready places.At-loop-w).prices_low)

pub returns-then-v-origin : goal.returns-then-v-origin
returns-then-v-origin c =
    stops c.args.linked.now c.loop-w.invariant c.from-v.result c.least_bid-least.result c.loop-w-test.true c.from-v.ensures
    (bids (goal.at.returns-then-v-origin c).After-least_bid-least) (none_told _ (c.is_none.ensures ∙ ap not c.if-is_none.true)) (c.if-v-origin.true ∙ c.from-origin.ensures)

pub overflow_add-scans : goal.overflow_add-scans
overflow_add-scans c = omega (arith, few_scans c.args.linked.now c.loop-w.invariant)

pub step-g-requires : goal.step-g-requires
step-g-requires c =
    let places = goal.at.step-g-requires c in
    let linked = c.args.linked.now in
    let i = c.loop-w.invariant in
    let r = ready places.At-loop-w in
    let least = c.least_bid-least.result in
    record {
      ready = ready_nodes linked i;
      v_in_bounds = (
        omega (arith, terminal_in places.After-from-v, nodes_listed linked),
        (r.depth_some, omega (arith, r.few, few_in_all _ r.few_nodes)),
      );
      can_step =
          may_step linked i c.from-v.result c.from-v.ensures c.from-origin.result least c.loop-w-test.true (bids places.After-least_bid-least)
          (elim c.else-is_none.branch [
            | else-is_none-via-then-is_none+else-v-origin w ↦ λ none_there eo. w.if-v-origin.false eo
            | else-is_none-via-else-is_none w ↦ λ none_there eo. some_told least (c.is_none.ensures ∙ ap not w.if-is_none.false) none_there
          ]);
      has_before = λ d. node_before linked i c.from-v.result c.from-v.ensures (λ e. d (e ∙ sym c.from-origin.ensures));
    }

-- where an iteration has been made by a scan, from the origin or elsewhere
module _ (c : After-step-g) where
  made_by_scan : Made c.args.linked.now (held (run_of c.loop-w.path c.loop-w.nodes c.loop-w.g)) (run_of c.step-g.new.path c.step-g.new.nodes c.step-g.result)
      (c.loop-w.scans + 1)
  made_by_scan =
      by_scan c.args.linked.now c.loop-w.invariant c.from-v.result c.from-v.ensures c.from-origin.result c.from-origin.ensures
      (entry (λ m. m.remembered) c.loop-w.nodes c.from-v.result ∙ c.if-child.false) c.least_bid-least.result
      (found c.args.linked.now _ _ _ c.least_bid-least.ensures c.loop-w.path c.loop-w.g) (run_of c.step-g.new.path c.step-g.new.nodes c.step-g.result)
      c.step-g.ensures.steps c.step-g.ensures.remembers c.step-g.auto.path c.step-g.auto.nodes

pub returns-then-depth-g : goal.returns-then-depth-g
returns-then-depth-g c =
    let places = goal.at.returns-then-depth-g c in
    let above = above_bid c.args.limit c.least_bid-least.result (sym c.is_above.ensures ∙ c.if-is_above.true) in
    passes c.args.linked.now c.loop-w.invariant c.loop-w-test.true (made_by_scan places.After-step-g) c.from-v.result c.from-v.ensures c.least_bid-least.result
    (bids places.After-least_bid-least) above.0 above.1.0 above.1.1 c.if-depth-g.true

-- where an iteration has been made, by memory or by a scan
module _ (c : Joined-child) where
  abbrev after : RunState
  after = run_of c.if-child.path c.if-child.nodes c.if-child.g

  made : Made c.args.linked.now (held (run_of c.loop-w.path c.loop-w.nodes c.loop-w.g)) after c.if-child.scans
  made =
      let linked = c.args.linked.now in
      let i = c.loop-w.invariant in
      let v = c.from-v.result in
      let remembers = entry (λ m. m.remembered) c.loop-w.nodes v in
      elim c.if-child.branch [
        | then-child w ↦
            rw (w.path-is, w.nodes-is, w.g-is, w.scans-is)
            (by_memory linked i v c.from-v.ensures _ remembers w.if-child.true (run_of w.extend-g.new.path w.extend-g.new.nodes w.extend-g.result)
            (w.extend-g.ensures.extends (table_in linked.table) linked.listed) w.extend-g.ensures.remembers w.extend-g.auto.path w.extend-g.auto.nodes)
        | else-child+else-is_none+else-is_above w ↦
            rw (w.path-is, w.nodes-is, w.g-is, w.scans-is)
            (by_scan linked i v c.from-v.ensures c.from-origin.result c.from-origin.ensures (remembers ∙ w.if-child.false) w.least_bid-least.result
            (found linked _ _ _ w.least_bid-least.ensures c.loop-w.path c.loop-w.g) (run_of w.step-g.new.path w.step-g.new.nodes w.step-g.result)
            w.step-g.ensures.steps w.step-g.ensures.remembers w.step-g.auto.path w.step-g.auto.nodes)
      ]

  -- and the origin's price is not above the limit
  low : get_or (prices_in c.if-child.nodes) c.args.linked.now.table.origin 0 ≤ c.args.limit
  low =
      let linked = c.args.linked.now in
      let i = c.loop-w.invariant in
      let limit = c.args.limit in
      elim c.if-child.branch [
        | then-child w ↦ rw w.nodes-is (below_by_memory linked i c.from-v.result c.from-v.ensures _ _ (w.extend-g.ensures.extends (table_in linked.table) linked.listed))
        | else-child+else-is_none+else-is_above w ↦
            still_below linked i c.loop-w-test.true made c.from-v.result c.from-v.ensures w.least_bid-least.result
            (found linked _ _ _ w.least_bid-least.ensures c.loop-w.path c.loop-w.g)
            (elim w.else-is_above.branch [
              | else-is_above-via-then-is_above+else-depth-g q ↦ λ b is_bid above same. q.if-depth-g.false (same ∙ ap (λ (g : Progress). g.depth) w.g-is)
              | else-is_above-via-else-is_above q ↦ λ b is_bid above same.
                  not_above limit w.least_bid-least.result (sym w.is_above.ensures ∙ q.if-is_above.false) b is_bid above
            ])
      ]

  -- and one iteration more is counted
  less : suc (most_iterations c.args.linked.now.table.n) - iterations_in c.if-child.g
      < suc (most_iterations c.args.linked.now.table.n) - iterations_in c.loop-w.g
  less =
      let more = counted c.args.linked.now c.loop-w.invariant c.loop-w-test.true made in
      omega (arith, more, (now_ready c.args.linked.now c.loop-w.invariant).few)

pub first_unreached-w-requires-then-depth-g-2 : goal.first_unreached-w-requires-then-depth-g-2
first_unreached-w-requires-then-depth-g-2 c =
    let m = made (goal.at.first_unreached-w-requires-then-depth-g-2 c).Joined-child in
    (c.loop-w.invariant.low, wanted_below c.args.linked.now _ m.nodes_long)

pub loop-w-smaller-then-depth-g-2 : goal.loop-w-smaller-then-depth-g-2
loop-w-smaller-then-depth-g-2 c = less (goal.at.loop-w-smaller-then-depth-g-2 c).Joined-child

pub loop-w-preserved-then-depth-g-2 : goal.loop-w-preserved-then-depth-g-2
loop-w-preserved-then-depth-g-2 c =
    let j = (goal.at.loop-w-preserved-then-depth-g-2 c).Joined-child in
    let linked = c.args.linked.now in
    let i = c.loop-w.invariant in
    let more = c.loop-w-test.true in
    continues linked i more (made j) (low j) (looked_for linked i more (made j) c.first_unreached-w-then-depth-g-2.ensures)

pub loop-w-smaller : goal.loop-w-smaller
loop-w-smaller c = less (goal.at.loop-w-smaller c).Joined-child

pub loop-w-preserved : goal.loop-w-preserved
loop-w-preserved c =
    let j = (goal.at.loop-w-preserved c).Joined-child in
    let linked = c.args.linked.now in
    let i = c.loop-w.invariant in
    let more = c.loop-w-test.true in
    continues linked i more (made j) (low j) (still_missing linked i more (made j) c.if-depth-g-2.false)

pub returns : goal.returns
returns c = ends c.args.linked.now c.loop-w.invariant c.loop-w-test.false

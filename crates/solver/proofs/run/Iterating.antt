-- The run's loop: a state of the run is held, the index is that of the first wanted node missing there, the origin's price is not above the limit, and so
-- many iterations have scanned. Assumes nothing.
use mathlib.Core.Path.{◌≡◌, refl, sym, ap, subst, ◌∙◌}
use mathlib.Core.Bool.{false}
use mathlib.Core.List.{List}
use mathlib.Core.Logic.{⊎_elim}
use mathlib.Core.Option.{some}
use Prim.Native.Nat.{ℕ, suc, ◌+◌, ◌-◌, ◌≤◌, ◌<◌}
use native.Mathlib.Omega.{arith}
use lib.ListN.{length, get_or}
use lib.Dec.{ltb}
use borrow.Author.Tests.{lt-ltb, le-ltb}
use Rattle.std.specs.Prelude.{Option, Some, None}
use Rattle.std.proofs.lemmas.Bool.{cases_eq, or_from, or_left, or_right}
use Rattle.table.specs.Table.{Table, no_node}
use Rattle.table.specs.Lent.{table_in}
use Rattle.auction.specs.Auction.{State, Ended, state, ended, bid, best, next, terminal, price_at, kept_at, all_reached, iterations, iteration, start, extension}
use Rattle.auction.specs.Scans.{history, scan_count, scans}
use Rattle.auction.specs.HandOver.{first_missing}
use Rattle.auction.specs.Limit.{above, decided, limited}
use Rattle.auction.proofs.Good.{wanted_in}
use Rattle.auction.proofs.Steps.Effects.{reached_status, status_reached, kept_below}
use Rattle.auction.proofs.Steps.Keeps.{extension_keeps, start_path, lifts, moves_keep_price, reaches_none}
use Rattle.auction.proofs.Invariant.Sound.{terminal_status}
use Rattle.auction.proofs.Invariant.Starting.{started_iterations, started_price}
use Rattle.auction.proofs.Run.{Running, begins, goes_on, done, stuck, stepped}
use Rattle.auction.proofs.Remembering.{scans_within}
use Rattle.forward_star.specs.declared.linked.LinkedTable.{LinkedTable}
use Rattle.forward_star.proofs.Columns.{good_table, nodes_are, origin_is, tails_of_star}
use Rattle.steps.specs.declared.bids.LeastBid.{LeastBid}
use Rattle.steps.specs.declared.state.RunState.{RunState}
use Rattle.steps.specs.Seen.{iterations_in, seen, held, prices_in, bounds_in, memory_in, statuses_in, greatest_sum, too_many}
use Rattle.steps.specs.Memory.{HasBefore, Ready, AllForgotten, Remembers, Remembered, those_reached}
use Rattle.steps.specs.Steps.{bid_in, Becomes, CanStep, Steps}
use Rattle.solver.specs.Runs.{RanWithin, FirstFrom}
use Rattle.steps.proofs.Nodes.{as_many, entry}
use Rattle.steps.proofs.steps.Stepping.{is_stop}
use Rattle.solver.proofs.run.Wanted.{some_missing, none_missing, same_missing, jump}
use Rattle.solver.proofs.run.Holding.{Holding}
use Rattle.solver.proofs.run.Ready.{InRun, few_in_all, path_length, price_held, in_run, room_for, bound_low, next_is, can_step, kept_arcs, nodes_ready, has_before}
use Rattle.solver.proofs.run.Storing.{the_bid, stores}
use Rattle.solver.proofs.run.Recalling.{memory, holding_first, entry_kept, extends_by_entry, scans_no_more, holding_recalled, scans_once_more, holding_next}

-- THE LOOP
pub record Round (t : Table) (ws : List ℕ) (limit w c : ℕ) (l : List ℕ) (x : State) : Type 0 where
  -- x is a state of the run,
  pub running : Running t (decided t ws limit) x
  -- the index is that of the first wanted node that is missing there,
  pub missing : w ≡ first_missing 0 ws x
  -- so many iterations have scanned,
  pub scanned : c ≡ scans (iterations x) t
  -- and the nodes say which child each remembers
  pub holding : Holding t (memory (iterations x) t) l x

-- Y IS THE NEXT STATE after x
pub record Next (t : Table) (l' : List ℕ) (c' : ℕ) (x y : State) : Type 0 where
  pub is_next : next t x ≡ some y
  -- so many iterations have scanned then,
  pub scanned : c' ≡ scans (suc (iterations x)) t
  -- and the nodes say which child each remembers
  pub holding : Holding t (memory (suc (iterations x)) t) l' y

-- AN ITERATION HAS BEEN MADE from state x: the next one is held, by as many nodes
pub record Made (linked : LinkedTable) (x : State) (r : RunState) (c : ℕ) : Type 0 where
  pub to : Next (table_in linked.table) (memory_in r.nodes) c x (held r)
  pub path_long : length r.path ≡ linked.table.n
  pub nodes_long : length r.nodes ≡ linked.table.n

-- the index is that of the first wanted node that is missing in state x
pub record Missing (linked : LinkedTable) (w : ℕ) (x : State) : Type 0 where
  pub low : w ≤ length linked.table.wanted.now
  pub missing : w ≡ first_missing 0 linked.table.wanted.now x

-- AT THE LOOP'S HEAD
pub record Iterating (linked : LinkedTable) (limit : ℕ) (r : RunState) (w c : ℕ) : Type 0 where
  -- the index is that of a wanted node, or their number
  pub low : w ≤ length linked.table.wanted.now
  -- there is room on the path for each node, and an entry
  pub path_long : length r.path ≡ linked.table.n
  pub nodes_long : length r.nodes ≡ linked.table.n
  -- the origin's price is not above the limit
  pub below : get_or (prices_in r.nodes) linked.table.origin 0 ≤ limit
  -- and a state of the run is held
  pub round : Round (table_in linked.table) linked.table.wanted.now limit w c (memory_in r.nodes) (held r)

-- where the run ends in a state of it, all that is known there
ran : {t : Table} {ws : List ℕ} (limit : ℕ) {w c : ℕ} {x : State} → Running t (decided t ws limit) x → (limited t ws limit).last ≡ x → w ≡ first_missing 0 ws x →
    w ≤ length ws → c ≡ scans (iterations x) t → RanWithin t ws limit w c x
ran {t} limit {x = x} r last missing low scanned =
    record {
      last_so = last;
      first_so = missing;
      inside = low;
      bounded = λ v e z. omega (arith, reached_status x v e, r.invariant.sound.nodes.unbounded v z);
      few = omega (arith, r.few, few_in_all t.n r.good.few_nodes);
      scans_so = scanned;
    }

statuses_held : (r : RunState) → (held r).status ≡ statuses_in r.nodes
unfolding seen state
statuses_held r = refl

module _ (linked : LinkedTable) where
  abbrev t : Table
  t = table_in linked.table

  abbrev ws : List ℕ
  ws = linked.table.wanted.now

  pub wanted_below : (nodes : ℕ) → nodes ≡ linked.table.n → (j : ℕ) → j < length ws → get_or ws j 0 < nodes
  wanted_below nodes e j h = omega (arith, wanted_in t ws linked.table.good j h, nodes_are linked.table)

  -- the origin's price as the code reads it
  price_read : (r : RunState) → price_at (held r) t.origin ≡ get_or (prices_in r.nodes) linked.table.origin 0
  price_read r = price_held r t.origin ∙ ap (λ (v : ℕ). get_or (prices_in r.nodes) v 0) (origin_is linked.table)

  pub starts : (r : RunState) {limit w : ℕ} → held r ≡ start t → length r.path ≡ linked.table.n → length r.nodes ≡ linked.table.n → AllForgotten r.nodes →
      FirstFrom 0 ws (statuses_in r.nodes) w → Iterating linked limit r w 0
  unfolding scans history scan_count
  starts r {limit} {w} begun long many forgotten f =
      let good = good_table linked.table in
      let first_one : iterations (held r) ≡ 0 = ap iterations begun ∙ started_iterations t good in
      let nothing : (v : ℕ) → v < t.n → get_or (memory_in r.nodes) v 0 ≡ no_node =
      λ v h. entry (λ m. m.remembered) r.nodes v ∙ forgotten v (omega (arith, nodes_are linked.table)) in
      record {
        low = f.low;
        path_long = long;
        nodes_long = many;
        below = omega (arith, sym (price_read r) ∙ ap (λ (x : State). price_at x t.origin) begun, started_price t good);
        round = record {
          running = subst (λ (x : State). Running t (decided t ws limit) x) (sym begun) (begins good);
          missing = f.first (held r) (statuses_held r);
          scanned = subst (λ (a : ℕ). 0 ≡ scans a t) (sym first_one) refl;
          holding =
              subst (λ (a : ℕ). Holding t (memory a t) (memory_in r.nodes) (held r)) (sym first_one)
              (holding_first t (memory_in r.nodes) (held r) nothing (ap (λ (y : State). y.path) begun ∙ start_path t));
        };
      }

  module _ {limit : ℕ} {r : RunState} {w c : ℕ} (i : Iterating linked limit r w c) where
    abbrev x : State
    x = held r

    abbrev run : Running t (decided t ws limit) x
    run = i.round.running

    many : length r.nodes ≡ t.n
    many = i.nodes_long ∙ sym (nodes_are linked.table)

    undecided : w < length ws → decided t ws limit x ≡ false
    unfolding decided above
    undecided h =
        or_from (all_reached ws x) (ltb limit (price_at x t.origin)) (some_missing ws x (omega (arith, i.round.missing)))
        (le-ltb limit (price_at x t.origin) (omega (arith, price_read r, i.below)))

    -- what the loop's body needs
    pub now_ready : InRun linked.table.n r
    now_ready = in_run r run linked.table.n (nodes_are linked.table)

    pub few_scans : c < too_many
    few_scans =
        let low = (scans_within t run.good _ _ run.steps).1 in
        omega (arith, i.round.scanned, low, run.few, few_in_all t.n run.good.few_nodes)

    pub ready_nodes : Ready linked.star r.nodes
    ready_nodes = nodes_ready linked r run i.nodes_long

    module _ (v : ℕ) (ev : v ≡ get_or r.path (r.progress.depth - 1) 0) where
      at : terminal x ≡ v
      at = now_ready.terminal_is ∙ sym ev

      pub node_before : (v ≡ linked.table.origin → ⊥) → HasBefore r.progress.depth r.path r.nodes
      node_before = has_before linked r run i.nodes_long v at i.path_long

      pub may_step : (o : ℕ) (least : Option LeastBid) → w < length ws → bid_in least ≡ best t v x → (least ≡ None → v ≡ o → ⊥) → CanStep v o least linked.star r
      may_step o least h bids go = can_step linked r run i.nodes_long v least at bids (undecided h) o i.path_long go

      -- a node that remembers a child can go on to it
      entry_at : get_or (memory_in r.nodes) (terminal x) 0 ≡ get_or (memory_in r.nodes) v 0
      entry_at = ap (λ (a : ℕ). get_or (memory_in r.nodes) a 0) at

      module _ (child : ℕ) (ec : get_or (memory_in r.nodes) v 0 ≡ child) (some_child : child ≡ no_node → ⊥) where
        some_entry : get_or (memory_in r.nodes) (terminal x) 0 ≡ no_node → ⊥
        some_entry z = some_child (sym ec ∙ sym entry_at ∙ z)

        extends_to_entry : next t x ≡ some (extension t child x)
        extends_to_entry =
            extends_by_entry t run.good _ _ run.steps run.invariant (memory_in r.nodes) i.round.holding some_entry
            ∙ ap (λ (j : ℕ). some (extension t j x)) (entry_at ∙ ec)

        pub may_extend : (h : w < length ws) →
            ((child < length linked.star.first.now) × (get_or (bounds_in r.nodes) child 0 ≤ greatest_sum))
            × ((r.progress.depth < length r.path) × (r.progress.extensions < too_many))
        may_extend h =
            let kept = entry_kept t run.good _ _ run.steps run.invariant (memory_in r.nodes) i.round.holding some_entry in
            let kept_here = ap (kept_at x) (sym (entry_at ∙ ec)) ∙ kept.1 in
            let inside = kept_below child run.invariant.sound.nodes.sizes kept_here in (
              (omega (arith, inside, linked.listed.linked.first_count), bound_low r run child kept.0 kept_here many),
              (
                omega (arith, room_for r run (undecided h) child extends_to_entry, i.path_long, nodes_are linked.table),
                omega (arith, now_ready.few, few_in_all linked.table.n now_ready.few_nodes),
              ),
            )

    -- ONE ITERATION MORE: it is the auction's next, and what the nodes remember and the scans are as they are after it
    module _ (h : w < length ws) where
      pub continues : {r' : RunState} {w' c' : ℕ} → Made linked x r' c' → get_or (prices_in r'.nodes) linked.table.origin 0 ≤ limit → Missing linked w' (held r') →
          Iterating linked limit r' w' c'
      continues {r'} {w'} {c'} made low there =
          let n = made.to in
          let more = goes_on run (held r') (undecided h) n.is_next in
          record {
            low = there.low;
            path_long = made.path_long;
            nodes_long = made.nodes_long;
            below = low;
            round = record {
              running = more.0;
              missing = there.missing;
              scanned = n.scanned ∙ ap (λ (a : ℕ). scans a t) (sym more.1);
              holding = subst (λ (a : ℕ). Holding t (memory a t) (memory_in r'.nodes) (held r')) (sym more.1) n.holding;
            };
          }

      module _ {r' : RunState} {c' : ℕ} (made : Made linked x r' c') where
        abbrev y : State
        y = held r'

        -- the node that is missing then is looked for from the one before on; where the path is not longer it is that one
        pub looked_for : {w' : ℕ} → FirstFrom w ws (statuses_in r'.nodes) w' → Missing linked w' y
        looked_for f =
            let after = stepped t run.good x run.invariant y made.to.is_next in
            record {
              low = f.low;
              missing =
                  f.first y (statuses_held r')
                  ∙ jump w ws x y i.round.missing i.low (λ j q. status_reached y j (after.stays j (reached_status x j q)));
            }

        pub still_missing : r'.progress.depth ≤ r.progress.depth → Missing linked w y
        still_missing short =
            let here = status_reached x (terminal x) (omega (arith, terminal_status run.invariant.sound)) in
            record {
              low = i.low;
              missing =
                  i.round.missing
                  ∙ sym (same_missing 0 ws x y (reaches_none t x y made.to.is_next here (omega (arith, short, path_length r, path_length r'))));
            }

        -- where the path is as long as before the origin's price has become the least bid, and elsewhere it is as it was
        module _ (v : ℕ) (ev : v ≡ get_or r.path (r.progress.depth - 1) 0) (least : Option LeastBid) (bids : bid_in least ≡ best t v x) where
          lifted : r.progress.depth ≡ r'.progress.depth → (c : LeastBid) → least ≡ Some c → get_or (prices_in r'.nodes) linked.table.origin 0 ≡ c.value
          unfolding seen state bid
          lifted same c e =
              let long = path_length r' ∙ sym same ∙ sym (path_length r) in
              let to_bid =
              lifts t x y made.to.is_next run.within.path_some (omega (arith, run.good.origin_in, many, as_many (λ m. m.price) r.nodes)) long in
              let is_least : some (bid c.value c.arc) ≡ some to_bid.bid =
              ap bid_in (sym e) ∙ bids ∙ ap (λ (a : ℕ). best t a x) (sym (at v ev)) ∙ to_bid.is_best in
              let value : c.value ≡ to_bid.bid.value = cc in
              sym (price_read r') ∙ to_bid.price_so ∙ sym value

          pub still_below : ((c : LeastBid) → least ≡ Some c → limit < c.value → r.progress.depth ≡ r'.progress.depth → ⊥) →
              get_or (prices_in r'.nodes) linked.table.origin 0 ≤ limit
          still_below d =
              ⊎_elim
              (λ (same : r.progress.depth ≡ r'.progress.depth).
              let long = path_length r' ∙ sym same ∙ sym (path_length r) in
              let to_bid =
              lifts t x y made.to.is_next run.within.path_some (omega (arith, run.good.origin_in, many, as_many (λ m. m.price) r.nodes)) long in
              let c = the_bid least to_bid.bid (bids ∙ ap (λ (a : ℕ). best t a x) (sym (at v ev)) ∙ to_bid.is_best) in
              let low : limit < c.0.value → ⊥ = λ above. d c.0 c.1.0 above same in omega (arith, lifted same c.0 c.1.0, low))
              (λ (other : r.progress.depth ≡ r'.progress.depth → ⊥).
              let long : length y.path ≡ length x.path → ⊥ = λ e. other (sym (path_length r) ∙ sym e ∙ path_length r') in
              let same = moves_keep_price t x y made.to.is_next long in
              omega (arith, same, price_read r, price_read r', i.below))
              (cases_eq r.progress.depth r'.progress.depth)

        -- the iteration is counted
        pub counted : iterations_in r'.progress ≡ suc (iterations_in r.progress)
        unfolding iterations seen state
        counted = (goes_on run y (undecided h) made.to.is_next).1

    module _ (v : ℕ) (ev : v ≡ get_or r.path (r.progress.depth - 1) 0) where
      -- by the child that the node remembers
      pub by_memory : (child : ℕ) → get_or (memory_in r.nodes) v 0 ≡ child → (child ≡ no_node → ⊥) → (r' : RunState) →
          Becomes (extension t child) r r' → Remembers linked.star those_reached r r' → length r'.path ≡ length r.path →
          length r'.nodes ≡ length r.nodes → Made linked x r' c
      by_memory child ec some_child r' becomes remembers lp ln =
          let e = extends_to_entry v ev child ec some_child ∙ ap some (sym becomes) in
          let has_entry = some_entry v ev child ec some_child in
          let l = memory_in r.nodes in
          record {
            to = record {
              is_next = e;
              scanned = i.round.scanned ∙ sym (scans_no_more t run.good _ x run.steps run.invariant l i.round.holding has_entry);
              holding =
                  holding_recalled t run.good _ x run.steps run.invariant l i.round.holding has_entry
                  (held r') e (memory_in r'.nodes) (remembers t linked.listed (tails_of_star linked) (kept_arcs r run));
            };
            path_long = lp ∙ i.path_long;
            nodes_long = ln ∙ i.nodes_long;
          }

      -- which changes no price
      pub below_by_memory : (child : ℕ) (r' : RunState) → Becomes (extension t child) r r' → get_or (prices_in r'.nodes) linked.table.origin 0 ≤ limit
      unfolding seen state
      below_by_memory child r' becomes =
          let same : prices_in r'.nodes ≡ prices_in r.nodes = ap (λ (a : State). a.price) becomes ∙ (extension_keeps t child x).1 in
          rw same i.below

      -- by a scan, which found the least bid
      pub by_scan : (o : ℕ) → o ≡ linked.table.origin → get_or (memory_in r.nodes) v 0 ≡ no_node → (least : Option LeastBid) → bid_in least ≡ best t v x →
          (r' : RunState) → Steps v o least linked.star r r' → Remembered v o least linked.star r r' →
          length r'.path ≡ length r.path → length r'.nodes ≡ length r.nodes → Made linked x r' (c + 1)
      by_scan o eo no_child least bids r' steps remembered lp ln =
          let y = held r' in
          let l = memory_in r.nodes in
          let here = at v ev in
          let e = next_is r run v least here bids ∙ steps t linked.listed (origin_is linked.table ∙ sym eo) in
          let deep : (terminal x ≡ t.origin → ⊥) → 2 ≤ r.progress.depth = λ d. (node_before v ev (λ q. d (here ∙ q ∙ sym (origin_is linked.table)))).some_node in
          let stored = stores linked r r' (kept_arcs r run) v o eo least here deep bids remembered in
          let no_entry = entry_at v ev ∙ no_child in
          record {
            to = record {
              is_next = e;
              scanned = omega (arith, i.round.scanned, scans_once_more t run.good _ x run.steps run.invariant l i.round.holding no_entry);
              holding =
                  holding_next t run.good _ x run.steps run.invariant y e l (memory_in r'.nodes)
                  (as_many (λ m. m.remembered) r.nodes ∙ many) i.round.holding no_entry stored;
            };
            path_long = lp ∙ i.path_long;
            nodes_long = ln ∙ i.nodes_long;
          }

    -- THE ENDS: every wanted node has been reached,
    pub ends : length ws ≤ w → RanWithin t ws limit w c x
    unfolding limited decided above ended
    ends h =
        let all = or_left (all_reached ws x) (ltb limit (price_at x t.origin)) (none_missing ws x (omega (arith, i.round.missing))) in
        ran limit run (ap (λ (e : Ended). e.last) (done run all)) i.round.missing i.low i.round.scanned

    -- the origin has no children,
    pub stops : (v : ℕ) (least : Option LeastBid) → w < length ws → v ≡ get_or r.path (r.progress.depth - 1) 0 → bid_in least ≡ best t v x →
        least ≡ None → v ≡ linked.table.origin → RanWithin t ws limit w c x
    unfolding limited ended
    stops v least h ev bids none_there eo =
        let e = next_is r run v least (at v ev) bids ∙ ap (λ l. iteration (bid_in l) t v x) none_there ∙ is_stop t v x (eo ∙ sym (origin_is linked.table)) in
        ran limit run (ap (λ (e : Ended). e.last) (stuck run (undecided h) e)) i.round.missing i.low i.round.scanned

    -- or an iteration that leaves the path as long as it was has lifted the origin's price above the limit
    pub passes : {r' : RunState} {c' : ℕ} → w < length ws → Made linked x r' c' → (v : ℕ) → v ≡ get_or r.path (r.progress.depth - 1) 0 →
        (least : Option LeastBid) → bid_in least ≡ best t v x → (b : LeastBid) → least ≡ Some b → limit < b.value → r.progress.depth ≡ r'.progress.depth →
        RanWithin t ws limit w c' (held r')
    unfolding limited decided above ended
    passes {r'} h made v ev least bids b is_bid above same =
        let y = held r' in
        let n = made.to in
        let more = goes_on run y (undecided h) n.is_next in
        let high : limit < price_at y t.origin = omega (arith, above, lifted h made v ev least bids same b is_bid, price_read r') in
        let there = still_missing h made (omega (arith, same)) in
        let passed = or_right (all_reached ws y) (ltb limit (price_at y t.origin)) (lt-ltb limit (price_at y t.origin) high) in
        ran limit more.0 (ap (λ (e : Ended). e.last) (done more.0 passed)) there.missing there.low
        (n.scanned ∙ ap (λ (a : ℕ). scans a t) (sym more.1))

-- What the code may rely on in a state of the run, read off the path and the nodes. Assumes nothing.
use mathlib.Core.Path.{◌≡◌, refl, sym, ap, subst, ◌∙◌}
use mathlib.Core.Bool.{Bool, false}
use mathlib.Core.List.{List, [], ◌∷◌}
use mathlib.Core.Logic.{⊎_elim}
use mathlib.Core.Option.{some}
use Prim.Native.Nat.{ℕ, zero, suc, ◌*◌, ◌-◌, ◌≤◌, ◌<◌}
use native.Mathlib.Omega.{arith}
use native.Mathlib.Nat.{mul-le-mul_left}
use lib.ListN.{length, get_or}
use Rattle.std.specs.Prelude.{Option, Some, None}
use Rattle.std.proofs.lemmas.Bool.{cases_eq}
use Rattle.table.specs.Table.{Table, arc_count, tail_at, head_at, no_arc, no_distance, most_nodes}
use Rattle.table.specs.Lent.{table_in}
use Rattle.auction.specs.Auction.{State, state, bid, best, next, iteration, terminal, price_at, kept_at, iterations, most_iterations, extension}
use Rattle.auction.proofs.Steps.Effects.{status_in, kept_below, known_distance}
use Rattle.auction.proofs.Steps.Bids.{Best, best_bid}
use Rattle.auction.proofs.Steps.Keeps.{extension_keeps}
use Rattle.auction.proofs.Invariant.Sound.{Chain}
use Rattle.auction.proofs.Run.{Running, goes_on}
use Rattle.forward_star.specs.declared.linked.LinkedTable.{LinkedTable}
use Rattle.forward_star.proofs.Columns.{nodes_are, origin_is, nodes_listed, star_tails_below, tails_of_star}
use Rattle.steps.specs.declared.bids.LeastBid.{LeastBid}
use Rattle.steps.specs.declared.state.RunState.{RunState}
use Rattle.steps.specs.Seen.{iterations_in, bound_of, nodes_of, seen, held, prices_in, bounds_in, kepts_in, statuses_in, greatest_sum, too_many}
use Rattle.steps.specs.Memory.{HasBefore, Ready, KeptArcs}
use Rattle.steps.specs.Steps.{bid_in, CanStep}
use Rattle.steps.proofs.Arrays.{seen_price, seen_bound, seen_kept, some_arc, some_bound, no_bound}
use Rattle.steps.proofs.Nodes.{as_many}
use Rattle.steps.proofs.steps.Stepping
use Rattle.steps.proofs.steps.Stepping.{last_entry, is_extension}

-- the bound in numbers
pub few_in_all : (n : ℕ) → n ≤ most_nodes → most_iterations n < too_many
unfolding most_iterations
few_in_all n h =
    let a : n * n ≤ n * most_nodes = mul-le-mul_left n h in
    let b : n * n * n ≤ n * n * most_nodes = mul-le-mul_left (n * n) h in
    omega arith

pub bound_value : (a d : ℕ) → bound_of a ≡ some d → a ≡ d
bound_value a d e =
    ⊎_elim (λ (z : a ≡ no_distance). let q = no_bound a z in let r : ◌≡◌ {A = ℕ} 0 1 = cc in absurd (omega arith))
    (λ (z : a ≡ no_distance → ⊥). let q = some_bound a z in cc) (cases_eq a no_distance)

-- WHAT THE CODE MAY RELY ON in a state of the run with n nodes
pub record InRun (n : ℕ) (r : RunState) : Type 0 where
  pub depth_some : 1 ≤ r.progress.depth
  pub depth_short : r.progress.depth ≤ n
  pub terminal_is : terminal (held r) ≡ get_or r.path (r.progress.depth - 1) 0
  pub terminal_in : get_or r.path (r.progress.depth - 1) 0 < n
  pub prices_low : (v : ℕ) → get_or (prices_in r.nodes) v 0 ≤ greatest_sum
  pub few : iterations_in r.progress ≤ most_iterations n
  pub few_nodes : n ≤ most_nodes

pub path_length : (r : RunState) → length (held r).path ≡ r.progress.depth
unfolding seen state
path_length r = Stepping.as_many r.progress.depth r.path

pub price_held : (r : RunState) (v : ℕ) → price_at (held r) v ≡ get_or (prices_in r.nodes) v 0
price_held r v = seen_price r.path (prices_in r.nodes) (bounds_in r.nodes) (kepts_in r.nodes) (statuses_in r.nodes) r.progress v

-- the node before the terminal one on the path, which there is where the terminal node is not the origin
second_entry : (d : ℕ) (p : List ℕ) → 2 ≤ d → get_or (nodes_of d p) 1 0 ≡ get_or p (d - 2) 0
unfolding nodes_of
second_entry zero p h = absurd (omega arith)
second_entry (suc zero) p h = absurd (omega arith)
second_entry (suc (suc d)) p h = let z : d ≡ suc (suc d) - 2 = omega arith in ap (λ k. get_or p k 0) z

pub second_read : (r : RunState) → 2 ≤ r.progress.depth → get_or (held r).path 1 0 ≡ get_or r.path (r.progress.depth - 2) 0
unfolding seen state
second_read r h = second_entry r.progress.depth r.path h

two_nodes : (t : Table) (x : State) (p : List ℕ) → Chain t x p → (get_or p 0 0 ≡ t.origin → ⊥) → 1 < length p
unfolding Chain
two_nodes t x [] c d = absurd c
two_nodes t x (v ∷ []) c d = absurd (d c)
two_nodes t x (v ∷ u ∷ more) c d = omega arith

module _ {t : Table} {stop : State → Bool} (rs : RunState) (r : Running t stop (held rs)) where
  abbrev x : State
  x = held rs

  terminal_read : 1 ≤ rs.progress.depth → terminal x ≡ get_or rs.path (rs.progress.depth - 1) 0
  unfolding terminal seen state
  terminal_read h = last_entry rs.progress.depth rs.path h

  count_read : iterations x ≡ iterations_in rs.progress
  unfolding iterations seen state
  count_read = refl

  pub in_run : (n : ℕ) → t.n ≡ n → InRun n rs
  unfolding terminal
  in_run n en =
      let w = r.within in
      let many = path_length rs in
      let some_node : 1 ≤ rs.progress.depth = omega (arith, many, w.path_some) in
      let at = terminal_read some_node in
      let below = w.path_in 0 (omega (arith, many)) in
      record {
        depth_some = some_node;
        depth_short = omega (arith, many, w.path_short);
        terminal_is = at;
        terminal_in = omega (arith, at, below);
        prices_low = λ v. omega (arith, w.price_small v, price_held rs v, r.good.few_nodes);
        few =
            subst (λ (m : ℕ). iterations_in rs.progress ≤ most_iterations m) en
            (subst (λ (m : ℕ). m ≤ most_iterations t.n) count_read r.few);
        few_nodes = omega (arith, r.good.few_nodes);
      }

  -- where the path is extended by a node there is room for it, and a node that keeps an arc has a bound
  pub room_for : stop x ≡ false → (j : ℕ) → next t x ≡ some (extension t j x) → rs.progress.depth < t.n
  room_for more j e =
      let after = (goes_on r (extension t j x) more e).0.within.path_short in
      omega (arith, path_length rs, ap length (extension_keeps t j x).0, after)

  pub bound_low : (j i : ℕ) → kept_at x j ≡ some i → length rs.nodes ≡ t.n → get_or (bounds_in rs.nodes) j 0 ≤ greatest_sum
  bound_low j i e long =
      let here = r.invariant.sound.nodes.kept j i e in
      let inside : j < length (bounds_in rs.nodes) = omega (arith, kept_below j r.invariant.sound.nodes.sizes e, long, as_many (λ m. m.bound) rs.nodes) in
      let same = sym (seen_bound rs.path (prices_in rs.nodes) (bounds_in rs.nodes) (kepts_in rs.nodes) (statuses_in rs.nodes) rs.progress j inside) ∙ here.bound in
      let d = known_distance x j _ here.bound in
      omega (arith, bound_value _ _ same, d, r.within.distance_small j, r.good.few_nodes)

  pub kept_arcs : KeptArcs t x
  kept_arcs v i e =
      let a = r.invariant.sound.nodes.kept v i e in
      record { listed = a.listed; into = a.into; leaves = status_in (tail_at t i) r.invariant.sound.nodes.sizes a.from_reached }

  -- the next iteration at the terminal node, whose least bid is given
  pub next_is : (v : ℕ) (least : Option LeastBid) → terminal x ≡ v → bid_in least ≡ best t v x → next t x ≡ iteration (bid_in least) t v x
  unfolding next
  next_is v least at bids = rw (at, bids)

-- the same in a table with its forward star
module _ (linked : LinkedTable) {stop : State → Bool} (rs : RunState) (r : Running (table_in linked.table) stop (held rs)) (many : length rs.nodes ≡ linked.table.n) where
  abbrev t : Table
  t = table_in linked.table

  kept_read : (v : ℕ) → v < length (kepts_in rs.nodes) → (get_or (kepts_in rs.nodes) v 0 ≡ no_arc → ⊥) →
      kept_at (held rs) v ≡ some (get_or (kepts_in rs.nodes) v 0)
  kept_read v h d =
      seen_kept rs.path (prices_in rs.nodes) (bounds_in rs.nodes) (kepts_in rs.nodes) (statuses_in rs.nodes) rs.progress v h ∙ some_arc _ d

  pub nodes_ready : Ready linked.star rs.nodes
  nodes_ready =
      record {
        count = many ∙ sym (nodes_listed linked);
        kept_in =
            record {
              listed = λ v h d.
                  omega
                  (arith, r.within.kept_in v (get_or (kepts_in rs.nodes) v 0) (kept_read v (omega (arith, as_many (λ m. m.kept) rs.nodes)) d), (tails_of_star linked).count);
              tail_in = λ i h. omega (arith, star_tails_below linked i h, many);
            };
      }

  -- the node before the terminal one
  pub has_before : (v : ℕ) → terminal (held rs) ≡ v → length rs.path ≡ linked.table.n → (v ≡ linked.table.origin → ⊥) → HasBefore rs.progress.depth rs.path rs.nodes
  unfolding terminal
  has_before v at long d =
      let deep_path = path_length rs in
      let two = two_nodes t (held rs) (held rs).path r.invariant.sound.chain (λ e. d (sym at ∙ e ∙ origin_is linked.table)) in
      let deep : 2 ≤ rs.progress.depth = omega (arith, deep_path, two) in
      record {
        some_node = deep;
        on_path = omega (arith, deep_path, r.within.path_short, long, nodes_are linked.table);
        inside = omega (arith, second_read rs deep, r.within.path_in 1 two, many, nodes_are linked.table);
      }

  module _ (v : ℕ) (least : Option LeastBid) (at : terminal (held rs) ≡ v) (bids : bid_in least ≡ best t v (held rs)) (more : stop (held rs) ≡ false) where
    top : (c : LeastBid) → least ≡ Some c → Best t v (held rs) (bid c.value c.arc)
    top c e = best_bid t v (held rs) (bid c.value c.arc) (sym bids ∙ ap bid_in e)

    listed : (c : LeastBid) → least ≡ Some c → c.arc < arc_count t
    unfolding bid
    listed c e = (top c e).listed

    bound_there : (c : LeastBid) → least ≡ Some c → get_or (bounds_in rs.nodes) (head_at t c.arc) 0 ≤ greatest_sum
    unfolding bid
    bound_there c e = bound_low rs r (head_at t c.arc) c.arc (top c e).child.kept (many ∙ sym (nodes_are linked.table))

    pub can_step : (o : ℕ) → length rs.path ≡ linked.table.n → (least ≡ None → v ≡ o → ⊥) → CanStep v o least linked.star rs
    can_step o long go =
        let here = linked.listed in
        record {
          no_stop = go;
          listed = λ c e. omega (arith, listed c e, here.head_count);
          room = λ c e h.
              let step = next_is rs r v least at bids ∙ ap (λ l. iteration (bid_in l) t v (held rs)) e
              ∙ is_extension t v (held rs) c.value c.arc (subst (λ (m : ℕ). c.value ≤ m) (sym (price_held rs v)) h) in
              omega (arith, room_for rs r more (head_at t c.arc) step, long, nodes_are linked.table);
          bounded = λ c e. subst (λ (j : ℕ). get_or (bounds_in rs.nodes) j 0 ≤ greatest_sum) (sym (here.head c.arc (listed c e))) (bound_there c e);
        }

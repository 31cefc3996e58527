-- From the run to the hand-over, and from the refusals to the run. Assumes nothing.
use mathlib.Core.Path.{◌≡◌, sym, ap, subst, ◌∙◌}
use mathlib.Core.Bool.{true, false}
use mathlib.Core.List.{List}
use mathlib.Core.Logic.{⊎_elim}
use Prim.Native.Nat.{ℕ, ◌*◌, ◌^◌, ◌≤◌, ◌<◌}
use native.Mathlib.Omega.{arith}
use lib.Dec.{eqb}
use lib.ListN.{length, get_or, take}
use lib.Seq.{length-take-le}
use borrow.Author.Tests.{lt-ltb, eq-eqb, ne_eqb}
use Rattle.std.proofs.lemmas.Bool.{cases_Bool, cases_eq}
use Rattle.table.specs.Table.{Table, table_of, is_table, most_nodes, longest, Below, most_wanted}
use Rattle.table.specs.Refusals.{Refusal, refusal}
use Rattle.auction.specs.Auction.{State, Ended, fresh, was_reached, all_reached, auction}
use Rattle.auction.specs.HandOver.{Answer, answer}
use Rattle.auction.specs.Promises.{last_state, EndsByItself}
use Rattle.auction.specs.Limit.{Unlimited}
use Rattle.table.proofs.Basics.{inside}
use Rattle.auction.proofs.Good.{good, parts}
use Rattle.auction.proofs.Promised.{ends_by_itself}
use Rattle.auction.proofs.Limit.{unlimited}
use Rattle.auction.proofs.Made.{rooms_so, unrefused}
use Rattle.table.specs.declared.links.LinkTable.{LinkTable}
use Rattle.table.specs.Lent.{table_in}
use Rattle.forward_star.proofs.Columns.{good_table, nodes_are, origin_is}
use Rattle.forward_star.proofs.Columns.{arcs_are, head_held, tail_held, length_held, heads_below, tails_below}
use Rattle.steps.specs.declared.state.Node.{Node}
use Rattle.steps.specs.declared.state.RunState.{RunState}
use Rattle.steps.specs.Seen.{held, first_of, status_number, prices_in, bounds_in, kepts_in, statuses_in}
use Rattle.steps.specs.Steps.{Ran}
use Rattle.steps.proofs.Arrays.{seen_bound, seen_status, no_bound}
use Rattle.solver.specs.Runs.{RanWithin}
use Rattle.solver.proofs.run.Wanted.{some_missing, none_missing}
use Rattle.steps.proofs.Nodes.{as_many}
use Rattle.auction.specs.Plan.{plan_refusal, plan, routes_of, refused_plan}
use Rattle.hand_over.specs.declared.Buffers.{Buffers}
use Rattle.hand_over.specs.declared.Planned.{Planned}
use Rattle.hand_over.specs.Answered.{answered, answered_in}
use Rattle.hand_over.specs.ReadOff.{Known, ArcEnds, Fitting, ArcsHeld}

-- AFTER THE RUN: whether a wanted node is missing
pub all_found : {t : Table} {ws : List ℕ} {e : Ended} {m c : ℕ} {x : State} → Ran t ws e m c x → all_reached ws x ≡ eqb m (length ws)
all_found {ws = ws} {m = m} {x = x} ran =
    ⊎_elim
    (λ (z : m ≡ length ws). none_missing ws x (omega (arith, z, ran.first_so)) ∙ sym (eq-eqb m (length ws) z))
    (λ (z : m ≡ length ws → ⊥). some_missing ws x (omega (arith, z, ran.first_so, ran.inside)) ∙ sym (ne_eqb m (length ws) z))
    (cases_eq m (length ws))

-- without a limit it is the plan's
module _ {t : Table} {ws : List ℕ} (ok : is_table t ws ≡ true) where
  pub ran_unlimited : (limit : ℕ) {m c : ℕ} {x : State} → most_nodes * longest ≤ limit → RanWithin t ws limit m c x → Ran t ws (auction t ws) m c x
  unfolding Unlimited
  ran_unlimited limit {m} {c} {x} h ran =
      subst (λ (e : Ended). Ran t ws e m c x) (unlimited t ws limit ok (omega (arith, h, (good t ws ok).few_nodes))) ran

  pub routed_so : {m c : ℕ} {x : State} → Ran t ws (auction t ws) m c x → (auction t ws).routed ≡ eqb m (length ws)
  unfolding EndsByItself last_state
  routed_so ran =
      let end = ends_by_itself t ws ok in
      let found = ap (all_reached ws) ran.last_so ∙ all_found ran in
      ⊎_elim (λ (r : (auction t ws).routed ≡ true). r ∙ sym (end.found r) ∙ found)
      (λ (r : (auction t ws).routed ≡ false). r ∙ sym (end.missing r) ∙ found)
      (cases_Bool (auction t ws).routed)

-- and the nodes can be handed over
module _ (t : Table) (ws : List ℕ) (e : Ended) (m c : ℕ) (r : RunState) (ran : Ran t ws e m c (held r)) where
  reached_so : (v : ℕ) → 0 < get_or (statuses_in r.nodes) v 0 → was_reached (held r) v ≡ true
  unfolding was_reached
  reached_so v h =
      rw (seen_status r.path (prices_in r.nodes) (bounds_in r.nodes) (kepts_in r.nodes) (statuses_in r.nodes) r.progress v)
      (lt-ltb 0 (get_or (statuses_in r.nodes) v 0) h)

  pub known_so : Known r.nodes
  known_so v h e =
      let here = inside (statuses_in r.nodes) v (omega arith) in
      let low : v < length (bounds_in r.nodes) =
      omega (arith, here, as_many (λ n. status_number n.status) r.nodes, as_many (λ n. n.bound) r.nodes) in
      ran.bounded v (reached_so v h)
      (seen_bound r.path (prices_in r.nodes) (bounds_in r.nodes) (kepts_in r.nodes) (statuses_in r.nodes) r.progress v low ∙ no_bound _ e)

pub place_low : (l : LinkTable) (m : ℕ) → m ≤ length l.wanted.now → m ≤ most_wanted
place_low l m h = omega (arith, (parts (table_in l) l.wanted.now l.good).few_wanted)

-- the ends of a table's arcs are nodes
pub ends_so : (l : LinkTable) (nodes : List Node) → length nodes ≡ l.n → ArcEnds l.columns nodes
ends_so l nodes e =
    record {
      head_in = λ i h. omega (arith, heads_below l i (omega (arith, l.columns.heads_are)), e);
      tail_in = λ i h. omega (arith, tails_below l i (omega (arith, l.columns.heads_are)), e);
    }

-- and its columns hold its arcs
pub arcs_held : (l : LinkTable) → ArcsHeld (table_in l) l.columns
arcs_held l =
    let count = arcs_are l in
    record {
      count = count ∙ l.columns.heads_are;
      head = λ i h. head_held l i (omega (arith, count));
      tail = λ i h. tail_held l i (omega (arith, count));
      arc_length = λ i h. length_held l i (omega (arith, count));
    }

pub origin_low : (l : LinkTable) → l.origin < l.n
origin_low l = omega (arith, (good_table l).origin_in, nodes_are l, origin_is l)

-- a part of an array that is long enough
pub part_long : {A : Type 0} (l : List A) (n : ℕ) → length l ≡ most_nodes → n ≤ most_nodes → length (take n l) ≡ n
part_long l n e h = length-take-le n l (omega arith)

-- THE FRESH STATE, as far as it is lent
pub lent_fresh : (l : LinkTable) (r : RunState) →
    ((t : Table) → t.origin ≡ l.origin → t.origin < t.n → t.n ≤ l.n → held (first_of t.n r) ≡ fresh t) → held (first_of l.n r) ≡ fresh (table_in l)
lent_fresh l r is_fresh =
    let n = nodes_are l in
    let o = origin_is l in
    subst (λ (m : ℕ). held (first_of m r) ≡ fresh (table_in l)) n
    (is_fresh (table_in l) o (omega (arith, origin_low l)) (omega (arith, n)))

-- THE TABLE that is not refused is that of the arguments
pub record Given (l : LinkTable) (n o : ℕ) (ts hs ls ws : List ℕ) : Type 0 where
  pub nodes : (l.n ≡ n) × (l.origin ≡ o) × (l.wanted.now ≡ ws)
  pub columns : (l.columns.tails.now ≡ ts) × (l.columns.heads.now ≡ hs) × (l.columns.lengths.now ≡ ls)

pub table_so : {l : LinkTable} {n o : ℕ} {ts hs ls ws : List ℕ} → Given l n o ts hs ls ws → table_in l ≡ table_of n o ts hs ls
table_so g = rw (g.nodes.0, g.nodes.1, g.columns.0, g.columns.1, g.columns.2)

-- THE REFUSALS
module _ (n o : ℕ) (ts hs ls ws ds ps tr ms : List ℕ) where
  pub refused : (f : Refusal) → f ≡ plan_refusal n o ts hs ls ws ds ps tr ms → (f.number ≡ 0 → ⊥) →
      answer f.number f.place 0 0 0 0 0 0 0 ds ps tr ms ≡ plan n o ts hs ls ws ds ps tr ms
  unfolding plan refused_plan refusal
  refused f e d = rw (← e, ne_eqb f.number 0 d)

  pub planned : (f : Refusal) (a : Answer) → f ≡ plan_refusal n o ts hs ls ws ds ps tr ms → f.number ≡ 0 → a ≡ routes_of (table_of n o ts hs ls) ws →
      a ≡ plan n o ts hs ls ws ds ps tr ms
  unfolding plan refusal
  planned f a e z r = rw (← e, eq-eqb f.number 0 z) r

-- where none applies the buffers fit
pub fine : (n o : ℕ) (ts hs ls ws : List ℕ) (b : Buffers) → Below (2 ^ 32) ls →
    (plan_refusal n o ts hs ls ws b.distances.now b.prices.now b.tree.now b.marks.now).number ≡ 0 → Fitting n (length hs) b
unfolding plan_refusal
fine n o ts hs ls ws b low e =
    let u = unrefused n o ts hs ls ws _ low e in
    let fit = rooms_so n (length ts) (length b.distances.now) (length b.prices.now) (length b.tree.now) (length b.marks.now) u.rooms_good in
    record {
      few_nodes = u.few_nodes;
      few_arcs = omega (arith, u.few_arcs, u.heads_count);
      distances_long = fit.0;
      prices_long = fit.1;
      tree_long = fit.2;
      marks_long = fit.3 ∙ u.heads_count;
    }

-- the answer with what is held when the buffers are given back
pub given_back : {ds ps tr ms : List ℕ} {a : Answer} (r : Planned) (b : Buffers) → answered_in r b ≡ a →
    ds ≡ b.distances.now → ps ≡ b.prices.now → tr ≡ b.tree.now → ms ≡ b.marks.now → answered r ds ps tr ms ≡ a
given_back r b e ds ps tr ms = rw (ds, ps, tr, ms) e

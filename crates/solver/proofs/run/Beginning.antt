-- From the fresh state to the start: the origin has the bound 0, and reaching it is the start. Assumes nothing.
use mathlib.Core.Path.{◌≡◌, sym, ap, ◌∙◌}
use mathlib.Core.Option.{none}
use Prim.Native.Nat.{ℕ, ◌≤◌, ◌<◌}
use native.Mathlib.Omega.{arith}
use lib.ListN.{length, get_or}
use Rattle.table.specs.Table.{Table}
use Rattle.table.specs.Lent.{table_in}
use Rattle.auction.specs.Auction.{State, bound_at, kept_at, status_at, reach, fresh, start}
use Rattle.table.proofs.Basics.{some_none}
use Rattle.auction.proofs.Invariant.Starting.{fresh_status, fresh_kept, fresh_origin}
use Rattle.forward_star.specs.declared.linked.LinkedTable.{LinkedTable}
use Rattle.forward_star.proofs.Columns.{good_table, nodes_are, origin_is, nodes_listed, star_tails_below, tails_of_star}
use Rattle.steps.specs.declared.state.RunState.{RunState}
use Rattle.steps.specs.Seen.{held, prices_in, bounds_in, kepts_in, statuses_in, greatest_sum}
use Rattle.steps.specs.Memory.{AllForgotten, Ready, KeptArcs, Remembers, but}
use Rattle.steps.specs.Steps.{Becomes}
use Rattle.steps.proofs.Arrays.{seen_bound, seen_kept, seen_status, some_arc}
use Rattle.steps.proofs.Nodes.{as_many, entry}
use Rattle.solver.proofs.run.Ready.{bound_value}

module _ (linked : LinkedTable) (r : RunState) (begun : held r ≡ fresh (table_in linked.table)) (many : length r.nodes ≡ linked.table.n) where
  abbrev t : Table
  t = table_in linked.table

  abbrev o : ℕ
  o = linked.table.origin

  pub origin_below : o < linked.table.n
  origin_below = omega (arith, (good_table linked.table).origin_in, origin_is linked.table, nodes_are linked.table)

  pub origin_bound : get_or (bounds_in r.nodes) o 0 ≤ greatest_sum
  origin_bound =
      let inside : o < length (bounds_in r.nodes) = omega (arith, origin_below, many, as_many (λ m. m.bound) r.nodes) in
      let e = sym (seen_bound r.path (prices_in r.nodes) (bounds_in r.nodes) (kepts_in r.nodes) (statuses_in r.nodes) r.progress o inside)
      ∙ ap (λ (x : State). bound_at x o) begun ∙ ap (bound_at (fresh t)) (sym (origin_is linked.table)) ∙ fresh_origin t (good_table linked.table) in
      omega (arith, bound_value _ 0 e)

  -- no node has been reached, and none keeps an arc
  pub origin_unreached : get_or (statuses_in r.nodes) o 0 ≡ 0
  origin_unreached =
      sym (seen_status r.path (prices_in r.nodes) (bounds_in r.nodes) (kepts_in r.nodes) (statuses_in r.nodes) r.progress o)
      ∙ ap (λ (x : State). status_at x o) begun ∙ fresh_status t (good_table linked.table) o

  unkept : (v : ℕ) → kept_at (held r) v ≡ none
  unkept v = ap (λ (x : State). kept_at x v) begun ∙ fresh_kept t (good_table linked.table) v

  pub none_kept : KeptArcs t (held r)
  none_kept v i e = absurd (some_none e (unkept v))

  pub nodes_ready : Ready linked.star r.nodes
  nodes_ready =
      record {
        count = many ∙ sym (nodes_listed linked);
        kept_in =
            record {
              listed = λ v h d.
                  let inside : v < length (kepts_in r.nodes) = omega (arith, as_many (λ m. m.kept) r.nodes) in
                  let read = seen_kept r.path (prices_in r.nodes) (bounds_in r.nodes) (kepts_in r.nodes) (statuses_in r.nodes) r.progress v inside in
                  absurd (some_none (read ∙ some_arc (get_or (kepts_in r.nodes) v 0) d) (unkept v));
              tail_in = λ i h. omega (arith, star_tails_below linked i h, many);
            };
      }

  -- so reaching the origin is the start, and makes none remember a child
  module _ (r' : RunState) (v : ℕ) (ev : v ≡ o) where
    pub started : Becomes (reach t v) r r' → held r' ≡ start t
    unfolding start
    started e = e ∙ ap (λ (w : ℕ). reach t w (held r)) (ev ∙ sym (origin_is linked.table)) ∙ ap (reach t t.origin) begun

    pub still_forgotten : AllForgotten r.nodes → length r'.nodes ≡ length r.nodes → Remembers linked.star (but v) r r' → AllForgotten r'.nodes
    still_forgotten none_there long remembers w h =
        sym (entry (λ m. m.remembered) r'.nodes w)
        ∙ (remembers t linked.listed (tails_of_star linked) none_kept).nothing w (entry (λ m. m.remembered) r.nodes w ∙ none_there w (omega arith))

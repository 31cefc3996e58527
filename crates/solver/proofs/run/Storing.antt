-- What an iteration that scans leaves of the remembered children, in the auction's words. Assumes nothing.
use mathlib.Core.Path.{◌≡◌, refl, sym, ap, subst, ◌∙◌}
use mathlib.Core.List.{List}
use mathlib.Core.Option.{none, some}
use mathlib.Core.Bool.{true, false}
use Prim.Native.Nat.{ℕ, ◌≤◌, ◌<◌}
use borrow.Author.Tests.{ltb-true, ltb-false, both_ways}
use Rattle.solver.specs.Runs.{is_above}
use native.Mathlib.Omega.{arith}
use lib.ListN.{get_or, set}
use Rattle.std.specs.Prelude.{Option, Some, None, is_some}
use Rattle.table.specs.Table.{Table, head_at, no_node}
use Rattle.table.specs.Lent.{table_in}
use Rattle.auction.specs.Auction.{State, Bid, bid, best, terminal, price_at}
use Rattle.table.proofs.Basics.{some_none, some_same}
use Rattle.auction.proofs.Steps.Bids.{best_bid}
use Rattle.forward_star.specs.declared.linked.LinkedTable.{LinkedTable}
use Rattle.forward_star.proofs.Columns.{origin_is, tails_of_star}
use Rattle.steps.specs.declared.bids.LeastBid.{LeastBid}
use Rattle.steps.specs.declared.state.Node.{Node}
use Rattle.steps.specs.declared.state.RunState.{RunState}
use Rattle.steps.specs.Seen.{held, memory_in}
use Rattle.steps.specs.Memory.{before, forgetting, remembering, child_of, KeptArcs, Remembering, Remembered, those_reached}
use Rattle.steps.specs.Steps.{bid_in}
use Rattle.steps.proofs.Nodes.{written, held_with_memory}
use Rattle.solver.proofs.run.Ready.{second_read, price_held}
use Rattle.solver.proofs.run.Recalling.{Stored}

-- the bid that the code holds
no_bid : (least : Option LeastBid) → bid_in least ≡ none → least ≡ None
no_bid None e = refl
no_bid (Some c) e = absurd (some_none refl e)

pub the_bid : (least : Option LeastBid) (b : Bid) → bid_in least ≡ some b → (c : LeastBid) × ((least ≡ Some c) × (bid c.value c.arc ≡ b))
the_bid None b e = absurd (some_none e refl)
the_bid (Some c) b e = (c, (refl, some_same refl e))

pub none_told : (least : Option LeastBid) → is_some least ≡ false → least ≡ None
none_told None e = refl
none_told (Some c) e = absurd (both_ways true e refl)

pub some_told : (least : Option LeastBid) → is_some least ≡ true → least ≡ None → ⊥
some_told None e z = both_ways false refl e
some_told (Some c) e z = cc

-- where it is above a limit
pub above_bid : (limit : ℕ) (least : Option LeastBid) → is_above limit least ≡ true → (c : LeastBid) × ((least ≡ Some c) × (limit < c.value))
above_bid limit None e = absurd (both_ways false refl e)
above_bid limit (Some c) e = (c, (refl, ltb-true limit c.value e))

pub not_above : (limit : ℕ) (least : Option LeastBid) → is_above limit least ≡ false → (c : LeastBid) → least ≡ Some c → limit < c.value → ⊥
not_above limit None e c z h = cc
not_above limit (Some d) e c z h = let same : d.value ≡ c.value = cc in omega (arith, ltb-false limit d.value e)

module _ (linked : LinkedTable) (rs rs' : RunState) (kept : KeptArcs (table_in linked.table) (held rs)) (v o : ℕ) (eo : o ≡ linked.table.origin)
    (least : Option LeastBid) (at : terminal (held rs) ≡ v) (deep : (terminal (held rs) ≡ (table_in linked.table).origin → ⊥) → 2 ≤ rs.progress.depth)
    (bids : bid_in least ≡ best (table_in linked.table) v (held rs)) (rem : Remembered v o least linked.star rs rs') where
  abbrev t : Table
  t = table_in linked.table

  abbrev now : State
  now = held rs

  -- the best bid, as the code holds it
  module _ (a : Bid) (e : best t (terminal now) now ≡ some a) where
    held_bid : (c : LeastBid) × ((least ≡ Some c) × (bid c.value c.arc ≡ a))
    held_bid = the_bid least a (bids ∙ ap (λ (w : ℕ). best t w now) (sym at) ∙ e)

    child_so : child_of linked.star held_bid.0 ≡ head_at t a.by_arc
    unfolding bid
    child_so =
        let arc : held_bid.0.arc ≡ a.by_arc = ap (λ (c : Bid). c.by_arc) held_bid.1.1 in
        let listed = (best_bid t (terminal now) now a e).listed in
        linked.listed.head held_bid.0.arc (omega (arith, arc, listed)) ∙ ap (head_at t) arc

    value_so : held_bid.0.value ≡ a.value
    unfolding bid
    value_so = ap (λ (c : Bid). c.value) held_bid.1.1

    price_so : price_at now (terminal now) ≡ price_at now v
    price_so = ap (price_at now) at

    remembered_so : memory_in (remembering v (child_of linked.star held_bid.0) rs).nodes ≡ set (memory_in rs.nodes) (terminal now) (head_at t a.by_arc)
    remembered_so =
        written (λ m. m.remembered) rs.nodes v _
        ∙ ap (λ (w : ℕ). set (memory_in rs.nodes) w (child_of linked.star held_bid.0)) (sym at) ∙ ap (set (memory_in rs.nodes) (terminal now)) child_so

  -- the node before the terminal one forgets
  forgets_so : (ns : List Node) → (terminal now ≡ t.origin → ⊥) →
      memory_in (forgetting (before rs.progress.depth rs.path) ns) ≡ set (memory_in ns) (get_or now.path 1 0) no_node
  forgets_so ns d =
      written (λ m. m.remembered) ns (before rs.progress.depth rs.path) _ ∙ ap (λ (w : ℕ). set (memory_in ns) w no_node) (sym (second_read rs (deep d)))

  pub stores : Stored t now (held rs') (memory_in rs.nodes) (memory_in rs'.nodes)
  stores =
      record {
        deleted = λ d e. rem.deletes (no_bid least (bids ∙ ap (λ (w : ℕ). best t w now) (sym at) ∙ e)) ∙ forgets_so rs.nodes d;
        contracted = λ a e less d.
            let c = (held_bid a e).0 in
            rem.contracts c (held_bid a e).1.0 (omega (arith, price_so a e, price_held rs v, value_so a e, less)) (λ q. d (at ∙ q ∙ eo ∙ sym (origin_is linked.table)))
            ∙ forgets_so (remembering v (child_of linked.star c) rs).nodes d ∙ ap (λ (m : List ℕ). set m (get_or now.path 1 0) no_node) (remembered_so a e);
        at_origin = λ a e less q.
            rem.at_origin (held_bid a e).0 (held_bid a e).1.0 (omega (arith, price_so a e, price_held rs v, value_so a e, less)) (sym at ∙ q ∙ origin_is linked.table ∙ sym eo)
            ∙ remembered_so a e;
        extended = λ a e equal.
            let c = (held_bid a e).0 in
            let same : held (remembering v (child_of linked.star c) rs) ≡ now = held_with_memory rs.path rs.nodes rs.progress v (child_of linked.star c) in
            subst (λ (m : List ℕ). Remembering t (those_reached now) m (memory_in rs'.nodes) now (held rs')) (remembered_so a e)
            (subst
            (λ (y : State). Remembering t (those_reached y) (memory_in (remembering v (child_of linked.star c) rs).nodes) (memory_in rs'.nodes) y (held rs')) same
            (rem.extends c (held_bid a e).1.0 (omega (arith, price_so a e, price_held rs v, value_so a e, equal)) t linked.listed (tails_of_star linked)
            (subst (KeptArcs t) (sym same) kept)));
      }

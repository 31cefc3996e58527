-- The bid picks the kind of iteration, as in the definition. Assumes nothing.
use mathlib.Core.Path.{◌≡◌, refl, sym, ap, subst, ◌∙◌}
use mathlib.Core.List.{List}
use mathlib.Core.Option.{some}
use Prim.Native.Nat.{ℕ, ◌<◌}
use native.Mathlib.Omega.{arith}
use lib.ListN.{length, get_or}
use Rattle.std.specs.Prelude.{Some}
use Rattle.table.specs.Table.{Table, head_at}
use Rattle.auction.specs.Auction.{price_at, contraction, extension}
use Rattle.forward_star.specs.Lent.{IsStarOf}
use Rattle.forward_star.proofs.Along.{head_inside}
use Rattle.steps.specs.declared.bids.LeastBid.{LeastBid}
use Rattle.steps.specs.declared.state.Node.{Node}
use Rattle.steps.specs.Memory.{node_at, child_of, remembering, Remembers, those_reached}
use Rattle.steps.specs.declared.state.Progress.{Progress}
use Rattle.steps.specs.Seen.{run_of, held, prices_in, bounds_in, kepts_in, statuses_in}
use Rattle.steps.proofs.Arrays.{seen_price}
use Rattle.steps.proofs.Nodes.{entry, unwritten, held_with_memory, still_ready}
use Rattle.steps.proofs.steps.Stepping.{is_deletion, is_contraction, is_extension}
use Rattle.steps.proofs.steps.step.Goals as goal
use Rattle.steps.proofs.steps.step.Goals.{In-Some}

-- the price of a node in the state that is held
price_read : (path : List ℕ) (ns : List Node) (g : Progress) (v : ℕ) → price_at (held (run_of path ns g)) v ≡ get_or (prices_in ns) v 0
price_read path ns g v = seen_price path (prices_in ns) (bounds_in ns) (kepts_in ns) (statuses_in ns) g v

pub returns-in_default-clause-steps : goal.returns-in_default-clause-steps
returns-in_default-clause-steps c = λ t of eo.
    let a = c.args in
    rw c.in_default.is
    (is_deletion t a.v (held (run_of a.path.now a.nodes.now a.g)) (λ z. c.requires.can_step.no_stop c.in_default.is (z ∙ eo))
    ∙ ap some (sym c.delete.ensures.deletes))

module _ (c : In-Some) where
  -- the child that the bid is for, which is remembered
  abbrev child : ℕ
  child = child_of c.args.star.now c.in-Some.bid

  child_read : (arc : ℕ) → arc ≡ c.in-Some.bid.arc → get_or c.args.star.now.columns.heads.now arc 0 ≡ child
  child_read arc e = ap (λ i. get_or c.args.star.now.columns.heads.now i 0) e

  listed : c.in-Some.bid.arc < length c.args.star.now.columns.heads.now
  listed = c.requires.can_step.listed c.in-Some.bid c.in-Some.is

  head_so : (t : Table) → IsStarOf t c.args.star.now → head_at t c.in-Some.bid.arc ≡ child
  head_so t of = sym (of.head c.in-Some.bid.arc (omega (arith, listed, of.head_count)))

  price_so : price_at (held (run_of c.args.path.now c.args.nodes.now c.args.g)) c.args.v ≡ (node_at c.args.v c.args.nodes.now).price
  price_so = price_read c.args.path.now c.args.nodes.now c.args.g c.args.v ∙ entry (λ m. m.price) c.args.nodes.now c.args.v

pub returns-then-price-bid-clause-steps : goal.returns-then-price-bid-clause-steps
returns-then-price-bid-clause-steps c = λ t of eo.
    let a = c.args in
    let some_bid = (goal.at.returns-then-price-bid-clause-steps c).In-Some in
    rw c.in-Some.is
    (is_contraction t a.v (held (run_of a.path.now a.nodes.now a.g)) c.in-Some.bid.value c.in-Some.bid.arc (omega (arith, price_so some_bid, c.if-price-bid.true))
    ∙ ap some
    (sym
    (c.contract.ensures.contracts t eo
    ∙ ap (contraction t a.v c.in-Some.bid.value) (held_with_memory a.path.now a.nodes.now a.g a.v (get_or a.star.now.columns.heads.now c.from.result 0)))))

pub extend-requires-clause-ready : goal.extend-requires-clause-ready
extend-requires-clause-ready c = still_ready c.args.v _ refl c.requires.ready

pub extend-requires-clause-child_in_bounds : goal.extend-requires-clause-child_in_bounds
extend-requires-clause-child_in_bounds c =
    let a = c.args in
    let some_bid = (goal.at.extend-requires-clause-child_in_bounds c).In-Some in
    let n : Node = record (node_at a.v a.nodes.now) { remembered = get_or a.star.now.columns.heads.now c.from.result 0 } in
    let same = child_read some_bid c.from.result c.from.ensures in (
      head_inside _ _ _ _ a.star.now.of_some_table c.from.result (omega (arith, c.from.ensures, listed some_bid)),
      rw (unwritten (λ m. m.bound) a.nodes.now a.v n refl, same) (c.requires.can_step.bounded c.in-Some.bid c.in-Some.is),
    )

pub returns-clause-steps : goal.returns-clause-steps
returns-clause-steps c = λ t of eo.
    let a = c.args in
    let some_bid = (goal.at.returns-clause-steps c).In-Some in
    let x = held (run_of a.path.now a.nodes.now a.g) in
    let read = get_or a.star.now.columns.heads.now c.from.result 0 in
    let same : head_at t c.in-Some.bid.arc ≡ read = head_so some_bid t of ∙ sym (child_read some_bid c.from.result c.from.ensures) in
    rw c.in-Some.is
    (is_extension t a.v x c.in-Some.bid.value c.in-Some.bid.arc (omega (arith, price_so some_bid, c.if-price-bid.false))
    ∙ ap (λ j. some (extension t j x)) same
    ∙ ap some (sym (c.extend.ensures.extends t of ∙ ap (extension t read) (held_with_memory a.path.now a.nodes.now a.g a.v read))))

pub returns-clause-remembers : goal.returns-clause-remembers
returns-clause-remembers c =
    let a = c.args in
    let some_bid = (goal.at.returns-clause-remembers c).In-Some in
    let price = entry (λ m. m.price) a.nodes.now a.v in
    let same : (d : LeastBid) → a.least ≡ Some d → c.in-Some.bid ≡ d = λ d e. cc in
    record {
      deletes = λ z. cc;
      contracts = λ d e h. let v = ap (λ b. b.value) (same d e) in absurd (omega (arith, price, c.if-price-bid.false));
      at_origin = λ d e h. let v = ap (λ b. b.value) (same d e) in absurd (omega (arith, price, c.if-price-bid.false));
      extends = λ d e h.
          let read : get_or a.star.now.columns.heads.now c.from.result 0 ≡ child_of a.star.now d =
          child_read some_bid c.from.result c.from.ensures ∙ ap (child_of a.star.now) (same d e) in
          subst
          (λ (j : ℕ). Remembers a.star.now those_reached (remembering a.v j (run_of a.path.now a.nodes.now a.g))
          (run_of c.extend.new.path c.extend.new.nodes c.extend.result)) read
          c.extend.ensures.remembers;
    }

-- The arc leads to a child, or the least bid stays. Assumes nothing.
use mathlib.Core.Path.{sym, ◌∙◌}
use mathlib.Core.Logic.{inl, inr}
use Rattle.steps.proofs.bids.Bidding.{no_child_there, bid_there, stays, not_lower, lower, first_bid}
use Rattle.steps.proofs.bids.lower_bid.Goals as goal
use Rattle.steps.proofs.bids.lower_bid.Goals.{then-node-position-via-then-node-position, then-node-position-via-else-node-position+then-is_deleted}

pub returns-then-node-position : goal.returns-then-node-position
returns-then-node-position c = λ t path g at long.
    let a = c.args in
    stays a.least _ _
    (no_child_there t a.position a.head path a.nodes.now g at c.requires.head_bound
    (elim c.then-node-position.branch [
      | then-node-position-via-then-node-position w ↦ inl w.if-node-position.true
      | then-node-position-via-else-node-position+then-is_deleted w ↦ inr (sym w.is_deleted.ensures ∙ w.if-is_deleted.true)
    ]))

pub returns-in-None : goal.returns-in-None
returns-in-None c = λ t path g at long.
    let a = c.args in
    first_bid a.least _ _ _
    (bid_there t a.position a.head path a.nodes.now g at c.requires.head_bound c.if-node-position.false c.requires.position_lt_no_arc.0
    (sym c.is_deleted.ensures ∙ c.if-is_deleted.false) a.arc_length c.from.result long c.from.ensures) c.in-None.is

pub returns-in-Some : goal.returns-in-Some
returns-in-Some c = λ t path g at long.
    let a = c.args in
    not_lower a.least _ _ _
    (bid_there t a.position a.head path a.nodes.now g at c.requires.head_bound c.if-node-position.false c.requires.position_lt_no_arc.0
    (sym c.is_deleted.ensures ∙ c.if-is_deleted.false) a.arc_length c.from.result long c.from.ensures) c.in-Some.lower c.in-Some.is c.if-lower-bid.true

pub returns-in-Some-2 : goal.returns-in-Some-2
returns-in-Some-2 c = λ t path g at long.
    let a = c.args in
    lower a.least _ _ _
    (bid_there t a.position a.head path a.nodes.now g at c.requires.head_bound c.if-node-position.false c.requires.position_lt_no_arc.0
    (sym c.is_deleted.ensures ∙ c.if-is_deleted.false) a.arc_length c.from.result long c.from.ensures) c.in-Some.lower c.in-Some.is c.if-lower-bid.false

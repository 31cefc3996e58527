-- What has been added and the total of what is left are together the list's. Assumes nothing.
use mathlib.Core.Path.{◌≡◌, ap, ◌∙◌, sym}
use Prim.Native.Nat.{◌<◌}
use native.Mathlib.Omega.{arith}
use lib.ListN.{length}
use Rattle.std.proofs.lemmas.Grind.{common_steps}
use Rattle.std.proofs.lemmas.Option.{gets}
use Rattle.keeping.proofs.Choices.{lent_few}
use Rattle.keeper.specs.Totals.{held}
use Rattle.keeper.proofs.Totalling.{lent_none, lent_many, begins, window, stops, goes_on, ends, ends_outside}
use Rattle.keeper.proofs.total.Goals as goal

pub returns-in_err-last : goal.returns-in_err-last
returns-in_err-last c =
    let empty : length c.args.list.now ≡ 0 = grind (arith, common_steps, gets, c.in_err-last.ensures.value) in
    ap held c.from_residual.ensures ∙ lent_none _ _ empty

pub returns-then-list-gt-MOST_NODES : goal.returns-then-list-gt-MOST_NODES
returns-then-list-gt-MOST_NODES c = lent_many _ _ c.if-list-gt-MOST_NODES.true

pub loop-step-init : goal.loop-step-init
loop-step-init c =
    let some_node : 0 < length c.args.list.now = grind (arith, common_steps, gets, c.in_ok-last.ensures.value) in
    rw c.into_iter-step-iterator.ensures.into_iter_gives
    (record { pairs = c.windows-step-items.ensures.size; adding = rw c.windows-step-items.ensures.rest (begins _ _ some_node) })

pub returns-in_err-step_length : goal.returns-in_err-step_length
returns-in_err-step_length c =
    let s = c.in-Some.ensures.steps.1 in
    let p = window _ _ _ c.loop-step.invariant.pairs s.0 s.1 in
    ap held c.from_residual-in_err-step_length.ensures
    ∙ stops _ _ _ _ c.loop-step.invariant.adding p.0 (rw (p.1, p.2) at c.in_err-step_length.ensures)
    ∙ sym (lent_few _ _ c.if-list-gt-MOST_NODES.false)

pub loop-step-preserved : goal.loop-step-preserved
loop-step-preserved c =
    let s = c.in-Some.ensures.steps.1 in
    let p = window _ _ _ c.loop-step.invariant.pairs s.0 s.1 in
    record {
      pairs = c.in-Some.ensures.steps.0 ∙ c.loop-step.invariant.pairs;
      adding =
          rw (s.2, c.from.ensures)
          (goes_on _ _ _ _ c.loop-step.invariant.adding p.0 _ (omega arith) (rw (p.1, p.2) at c.in_ok-step_length.ensures));
    }

pub returns-then-from-linked : goal.returns-then-from-linked
returns-then-from-linked c =
    ends _ _ _ _ c.loop-step.invariant.adding (omega (arith, c.in-None.ensures.steps)) _ c.in_ok-last.ensures.value
    (omega (arith, c.args.linked.now.listed.linked.first_count))
    ∙ sym (lent_few _ _ c.if-list-gt-MOST_NODES.false)

pub returns-else-from-linked : goal.returns-else-from-linked
returns-else-from-linked c =
    ends_outside _ _ _ _ c.loop-step.invariant.adding (omega (arith, c.in-None.ensures.steps)) _ c.in_ok-last.ensures.value
    (omega (arith, c.args.linked.now.listed.linked.first_count))
    ∙ sym (lent_few _ _ c.if-list-gt-MOST_NODES.false)

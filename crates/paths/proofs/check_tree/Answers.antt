-- Each test of the code is that of the definition. Assumes nothing.
use native.Mathlib.Omega.{arith}
use Rattle.std.proofs.lemmas.Bool.Decides.{nat_tests}
use Rattle.std.proofs.lemmas.Grind.{common_steps}
use Rattle.table.specs.Refusals.{refusal, no_refusal, count_bad, columns_bad}
use Rattle.table.proofs.Telling.{handed_out}
use Rattle.listing.specs.Listing.{early_number}
use Rattle.paths.proofs.check_tree.Goals as goal

pub returns-in_err-check_count-clause-told : goal.returns-in_err-check_count-clause-told
unfolding early_number refusal no_refusal
returns-in_err-check_count-clause-told c =
    grind (arith, nat_tests, common_steps, handed_out _ _ c.from_residual.ensures.1, c.in_err-check_count.ensures)

pub returns-then-bad_columns-clause-told : goal.returns-then-bad_columns-clause-told
unfolding early_number refusal no_refusal count_bad columns_bad
returns-then-bad_columns-clause-told c = grind (arith, nat_tests, common_steps, c.in_ok-check_count.ensures)

pub returns-in_err-check_node-clause-told : goal.returns-in_err-check_node-clause-told
unfolding early_number refusal no_refusal count_bad columns_bad
returns-in_err-check_node-clause-told c =
    grind (
      arith,
      nat_tests,
      common_steps,
      handed_out _ _ c.from_residual-in_err-check_node.ensures.1,
      c.in_ok-check_count.ensures,
      c.in_err-check_node.ensures,
    )

pub returns-in_err-check_node-2-clause-told : goal.returns-in_err-check_node-2-clause-told
unfolding early_number refusal no_refusal count_bad columns_bad
returns-in_err-check_node-2-clause-told c =
    grind (
      arith,
      nat_tests,
      common_steps,
      handed_out _ _ c.from_residual-in_err-check_node-2.ensures.1,
      c.in_ok-check_count.ensures,
      c.in_ok-check_node.ensures,
      c.in_err-check_node-2.ensures,
    )

pub invariant_of-result : goal.invariant_of-result
unfolding refusal no_refusal count_bad columns_bad
invariant_of-result c = record {
  heads_are = grind (arith, nat_tests, common_steps);
  few = grind (arith, nat_tests, common_steps, c.in_ok-check_count.ensures);
}

pub returns-clause-told : goal.returns-clause-told
unfolding early_number refusal no_refusal count_bad columns_bad
returns-clause-told c =
    grind (arith, nat_tests, common_steps, c.in_ok-check_count.ensures, c.in_ok-check_node.ensures, c.in_ok-check_node-2.ensures)

pub returns-clause-node : goal.returns-clause-node
unfolding refusal no_refusal
returns-clause-node c = grind (arith, nat_tests, common_steps, c.in_ok-check_node-2.ensures)

-- Each test of the code is that of the definition. Assumes nothing.
use native.Mathlib.Omega.{arith}
use Rattle.std.proofs.lemmas.Bool.Decides.{nat_tests}
use Rattle.std.proofs.lemmas.Grind.{common_steps}
use Rattle.std.proofs.lemmas.List.{get_or_default}
use Rattle.listing.specs.Listing.{entry, leads_back, node_before}
use Rattle.paths.proofs.tree.Tree.node_before.Goals as goal

pub returns-in_err-before : goal.returns-in_err-before
unfolding entry leads_back node_before
returns-in_err-before c = grind (arith, nat_tests, common_steps, get_or_default, c.in_err-before.ensures)

pub returns-then-from-self : goal.returns-then-from-self
unfolding entry leads_back node_before
returns-then-from-self c = grind (arith, nat_tests, common_steps, get_or_default, c.in_ok-before.ensures)

pub returns-else-self-entry : goal.returns-else-self-entry
unfolding entry leads_back node_before
returns-else-self-entry c = grind (arith, nat_tests, common_steps, get_or_default, c.in_ok-before.ensures)

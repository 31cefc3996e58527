-- `header::is_all` meets its contract: each of n nodes is compared with its index. Assumes nothing.
use Rattle.std.proofs.Common.{arith, ◌∙◌, eq-eqb}
use Rattle.std.proofs.lemmas.Bool.Decides.{nat_tests}
use Rattle.link_format.specs.Format.{all_nodes}
use Rattle.link_writer.proofs.header.Bytes.{each_in_place}
use Rattle.link_writer.proofs.header.is_all.Goals as goal

pub returns-then-wanted-n : goal.returns-then-wanted-n
unfolding all_nodes
returns-then-wanted-n c = c.counts_up.ensures ∙ each_in_place 0 c.args.wanted.now ∙ rw (eq-eqb _ _ c.if-wanted-n.true)

pub returns-else-wanted-n : goal.returns-else-wanted-n
unfolding all_nodes
returns-else-wanted-n c = grind (arith, nat_tests)

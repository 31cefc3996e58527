-- `header::read_wanted` meets its contract: each `return` is one way out of reading the wanted list. Assumes nothing.
use Rattle.std.proofs.Common.{arith, ◌≡◌, false, ltb}
use borrow.Author.Tests.{ltb-false}
use Rattle.std.proofs.lemmas.Bool.Decides.{nat_tests}
use Rattle.table.specs.Table.{most_wanted}
use Rattle.table.proofs.Telling.{failed, passed, passed_on}
use Rattle.link_reader.proofs.Refused.{refused_as}
use Rattle.link_reader.proofs.header.Ways.{wanted_absent, wanted_cut_count, wanted_many, nodes_refused, wanted_got}
use Rattle.link_reader.proofs.header.read_wanted.Goals as goal
use Rattle.link_reader.proofs.header.read_wanted.Goals.{In_ok-check_wanted_count}

-- the nodes are few enough
module _ (c : In_ok-check_wanted_count) where
  few : ltb most_wanted c.in-Some.count.value ≡ false
  few = passed _ 5 most_wanted (omega arith) c.in_ok-check_wanted_count.ensures

pub returns-then-not-listed : goal.returns-then-not-listed
returns-then-not-listed c = rw c.if-not-listed.true (wanted_absent _ _ _ c.requires.inside c.requires.few)

pub returns-in_default : goal.returns-in_default
returns-in_default c = refused_as _ c.at.ensures (rw c.if-not-listed.false (wanted_cut_count _ _ _ c.in_default.ensures))

pub returns-in_err-check_wanted_count : goal.returns-in_err-check_wanted_count
returns-in_err-check_wanted_count c =
    let many = failed _ _ 5 most_wanted c.in_err-check_wanted_count.ensures in
    rw (passed_on _ _ c.from_residual.ensures.1)
    (refused_as _ many.1 (rw c.if-not-listed.false (wanted_many _ _ _ c.in-Some.ensures many.0)))

pub check_nodes-requires-clause-few : goal.check_nodes-requires-clause-few
check_nodes-requires-clause-few c = ltb-false _ _ (few (goal.at.check_nodes-requires-clause-few c).In_ok-check_wanted_count)

pub returns-in_err-ascending : goal.returns-in_err-ascending
returns-in_err-ascending c =
    rw (passed_on _ _ c.from_residual-in_err-ascending.ensures.1)
    (rw c.if-not-listed.false (nodes_refused _ _ _ c.in-Some.ensures (few (goal.at.returns-in_err-ascending c).In_ok-check_wanted_count) c.in_err-ascending.ensures))

pub returns-then-count-n : goal.returns-then-count-n
returns-then-count-n c =
    rw c.if-not-listed.false (wanted_got _ _ _ c.in-Some.ensures (few (goal.at.returns-then-count-n c).In_ok-check_wanted_count) c.in_ok-ascending.ensures (grind (arith, nat_tests)))

pub returns-else-count-n : goal.returns-else-count-n
returns-else-count-n c =
    rw c.if-not-listed.false (wanted_got _ _ _ c.in-Some.ensures (few (goal.at.returns-else-count-n c).In_ok-check_wanted_count) c.in_ok-ascending.ensures (grind (arith, nat_tests)))

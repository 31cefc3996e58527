-- `header::check_nodes` meets its contract: the loop's invariant is `Checking`. Assumes nothing.
use Rattle.std.proofs.Common.{arith}
use Rattle.link_fields.proofs.fields.Parts.{field_value}
use Rattle.link_reader.proofs.Refused.{refused_as}
use Rattle.link_reader.proofs.header.NodeRuns.{run_cut, checking_next, checking_done}
use Rattle.link_reader.proofs.header.check_nodes.Goals as goal

pub returns-in_default : goal.returns-in_default
returns-in_default c =
    refused_as _ c.at.ensures (run_cut _ _ _ c.requires.inside (omega (arith, c.in_default.ensures.near, c.loop-i.invariant.along.here)))

pub loop-i-preserved : goal.loop-i-preserved
loop-i-preserved c =
    let node = field_value c.in-Some.ensures in
    rw node.0 (checking_next c.loop-i.invariant c.loop-i-test.true node.1 c.in-Some.ensures.inside)

pub returns : goal.returns
returns c = checking_done c.loop-i.invariant (omega arith)

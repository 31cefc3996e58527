-- What is left to test from i on decides. Assumes nothing.
use mathlib.Core.Path.{refl, ◌∙◌}
use Rattle.table.specs.Refusals.{arcs_refusal}
use Rattle.table.proofs.Columns.{arcs_more, arcs_none}
use Rattle.refusals.proofs.Refusing.{arc_good, arc_bad, arcs_done}
use Rattle.refusals.proofs.check_arcs.Goals as goal

pub loop-i-init : goal.loop-i-init
unfolding arcs_refusal
loop-i-init c = refl

pub returns-in-Some : goal.returns-in-Some
returns-in-Some c =
    let a = c.arc.ensures in
    let more = arcs_more c.args.columns c.loop-i.i c.arc.result c.loop-i-test.true a.tail a.head a.length in
    c.at.ensures ∙ arc_bad _ _ more c.in-Some.fault c.in-Some.ensures ∙ c.loop-i.invariant

pub loop-i-preserved : goal.loop-i-preserved
loop-i-preserved c =
    let a = c.arc.ensures in
    let more = arcs_more c.args.columns c.loop-i.i c.arc.result c.loop-i-test.true a.tail a.head a.length in
    arc_good _ _ more c.in_default.ensures ∙ c.loop-i.invariant

pub returns : goal.returns
returns c = arcs_done _ _ (arcs_none c.args.columns _ c.loop-i-test.false) ∙ c.loop-i.invariant

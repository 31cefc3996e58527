-- `printer::plan::FinishedPlan::next_with_distance` meets its contract: the nodes passed have no distance. Assumes nothing.
use mathlib.Core.Path.{◌≡◌}
use mathlib.Core.Bool.{true, false}
use Rattle.std.proofs.Common.{rules, tests}
use Rattle.std.proofs.lemmas.Iterator.{first_from_Range}
use Rattle.printer.proofs.lines.Passing.{read, first_passing}
use Rattle.printer.proofs.plan.FinishedPlan.next_with_distance.Goals as goal

pub returns : goal.returns
returns c =
    let ds = c.args.self.now.distances.now in
    let n = c.min-n.result in
    first_passing ds c.args.from n c.min-n.ensures c.find.result
    (first_from_Range (record { start = c.args.from; end = n }) _ _ _ (λ v. read ds v ≡ true) (λ v. read ds v ≡ false) c.find.ensures.ran
    (λ v q called. search (rules, tests)) (λ v q called. search (rules, tests)))

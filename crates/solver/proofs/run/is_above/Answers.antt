-- Where there is a bid, its value is held against the limit. Assumes nothing.
use mathlib.Core.Path.{sym, ap}
use Rattle.solver.specs.Runs.{is_above}
use Rattle.solver.proofs.run.is_above.Goals as goal

pub returns-in-Some : goal.returns-in-Some
returns-in-Some c = sym (ap (is_above c.args.limit) c.in-Some.is)

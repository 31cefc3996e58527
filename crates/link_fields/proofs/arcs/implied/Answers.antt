-- `arcs::implied` meets its contract: by cases on the record before. Assumes nothing.
use Rattle.std.proofs.Common.{arith, rules}
use Rattle.table.specs.Table.{arc}
use Rattle.link_format.specs.Reading.{implied}
use Rattle.link_fields.proofs.arcs.implied.Goals as goal

pub returns-in-None : goal.returns-in-None
unfolding implied
returns-in-None c = record { is = rw c.in-None.is; tail_fits = omega arith; length_fits = omega arith }

pub returns-in-Some : goal.returns-in-Some
unfolding implied arc
returns-in-Some c = record { is = rw (c.in-Some.is, c.from.ensures, c.from-in-Some.ensures); tail_fits = rw c.from.ensures (search rules); length_fits = search rules }

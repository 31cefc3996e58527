-- `header::fill_all` meets its contract: the nodes that are left stand behind those that were put. Assumes nothing.
use Rattle.std.proofs.Common.{◌-◌}
use Rattle.link_format.specs.Format.{count_up}
use Rattle.table.proofs.Storing.{Column}
use Rattle.link_reader.proofs.header.fill_all.Given as goal

abbrev pub invariant-loop-i : goal.invariant-loop-i
invariant-loop-i l = Column l.initial.node-items 0 (count_up 0 l.n) l.node-items l.i (count_up l.i (l.n - l.i))

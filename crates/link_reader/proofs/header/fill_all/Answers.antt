-- `header::fill_all` meets its contract: the nodes that are left stand behind those that were put. Assumes nothing.
use Rattle.std.proofs.Common.{arith, ◌≡◌, ◌+◌, ◌-◌, suc, add-one}
use lib.Seq.{length-take-le}
use Rattle.link_format.specs.Format.{count_up}
use Rattle.link_format.proofs.AllNodes.{length_count_up}
use Rattle.table.proofs.Storing.{column_next, start_done}
use Rattle.link_reader.proofs.header.fill_all.Goals as goal

pub loop-i-preserved : goal.loop-i-preserved
unfolding count_up
loop-i-preserved c =
    let one_less : c.args.n - c.loop-i.i ≡ suc (c.args.n - (c.loop-i.i + 1)) = omega (arith, length-take-le c.args.n c.args.wanted.now (omega arith)) in
    simp add-one (simp add-one at (column_next (rw one_less at c.loop-i.invariant)))

pub returns : goal.returns
unfolding count_up
returns c =
    let none_left : c.args.n - c.loop-i.i ≡ 0 = omega (arith, length-take-le c.args.n c.args.wanted.now (omega arith)) in
    start_done c.args.wanted.now c.args.n (rw none_left at c.loop-i.invariant) (omega arith) (length_count_up 0 c.args.n)

-- `sheet_lines::text::Line::spaced` meets its contract: the line has the numbers passed, and each took at most 21 bytes. Assumes nothing.
use native.Mathlib.Omega.{arith}
use Rattle.sheet_lines.proofs.text.Spaced.{none_spaced, one_spaced}
use Rattle.sheet_lines.proofs.text.Line.spaced.Goals as goal

pub loop-node-init : goal.loop-node-init
loop-node-init c = record { puts = none_spaced c.args.self.now; short = omega arith }

pub loop-node-preserved : goal.loop-node-preserved
loop-node-preserved c =
    let l = c.loop-node in
    record {
      puts =
          one_spaced c.args.nodes.now l.node-index c.args.self.now l.self c.field.new.self c.loop-node-test.true l.invariant.puts
          (rw (← c.from.ensures) c.field.ensures.puts);
      short = omega (arith, l.invariant.short, c.field.ensures.long);
    }

-- `sheet_lines::text::Line::spaced` meets its contract: the line has the numbers passed, and each took at most 21 bytes. Assumes nothing.
use Prim.Native.Nat.{◌+◌, ◌*◌, ◌≤◌}
use lib.ListN.{take}
use Rattle.sheet_lines.specs.Buffers.{PutsSpaced}
use Rattle.sheet_lines.proofs.text.Line.spaced.Given as goal

abbrev pub invariant-loop-node : goal.invariant-loop-node
invariant-loop-node l =
    record { puts : PutsSpaced (take l.node-index l.nodes) l.initial.self l.self; short : l.self.end ≤ l.initial.self.end + 21 * l.node-index }

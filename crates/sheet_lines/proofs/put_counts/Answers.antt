-- `sheet_lines::put_counts` meets its contract: the line has each text put so far, and the buffer what is left in it. Assumes nothing.
use mathlib.Core.List.{[]}
use Rattle.std.proofs.Common.{rules}
use Rattle.sheet.specs.Sheet.{counts_line}
use Rattle.sheet_lines.proofs.text.Begins.{begins_nothing, left_in}
use Rattle.sheet_lines.proofs.put_counts.Goals as goal

pub returns : goal.returns
unfolding counts_line
returns c =
    left_in
    (c.text.ensures.puts.begins _ _
    (c.field-3.ensures.puts.begins _ _
    (c.field-2.ensures.puts.begins _ _ (c.field.ensures.puts.begins [] _ (begins_nothing c.args.out.now)))))
    (search rules)

-- `sheet_lines::put_path` meets its contract: the line has each text put so far, and the buffer what is left in it. Assumes nothing.
use mathlib.Core.List.{[]}
use Rattle.std.proofs.Common.{rules}
use Rattle.sheet.specs.Sheet.{path_line}
use Rattle.sheet_lines.proofs.text.Begins.{begins_nothing, left_in}
use Rattle.sheet_lines.proofs.put_path.Goals as goal

pub returns : goal.returns
unfolding path_line
returns c =
    left_in
    (c.text-2.ensures.puts.begins _ _
    (c.spaced.ensures.puts.begins _ _
    (c.text.ensures.puts.begins _ _ (c.field.ensures.puts.begins [] _ (begins_nothing c.args.out.now)))))
    (search rules)

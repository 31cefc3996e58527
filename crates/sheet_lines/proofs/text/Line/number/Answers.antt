-- `sheet_lines::text::Line::number` meets its contract: `io::decimal` gives the number's digits, at most 20. Assumes nothing.
use Rattle.sheet_lines.proofs.text.Decimal.{fewest_decimal}
use Rattle.sheet_lines.proofs.text.Line.number.Goals as goal

pub returns-clause-puts : goal.returns-clause-puts
returns-clause-puts c =
    let d = c.decimal-k in
    rw (← fewest_decimal c.args.n d.result d.ensures.len c.ranges.n.fits, ← d.ensures.digits) c.text.ensures.puts

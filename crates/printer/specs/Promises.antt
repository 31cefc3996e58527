-- What is promised of the pieces of a sheet, one after the other. The proof stands in proofs/Promised.antt. Assumes nothing.
use Rattle.std.specs.Prelude.{◌≡◌, List, ℕ}
use Rattle.sheet.specs.Sheet.{Finished, sheet}
use Rattle.sheet.specs.Printed.{joined, printed}
use Rattle.printer.specs.declared.plan.Cursor.TheVariants.{Start}
use Rattle.printer.specs.Pieces.{Pieces}

-- THE PIECES ARE WHAT IS PRINTED. Where the sheet of a plan is what is printed of an input, as plan_input's contract says of what it leaves, the plan's pieces
-- from the start to the end, one after the other, are the lines that are printed of that input.
unfoldable pub PiecesPrinted : Type 0
PiecesPrinted =
    (input : List ℕ) (p : Finished) (pieces : List (List ℕ)) → sheet p ≡ printed input → Pieces p Start pieces → joined pieces ≡ joined (printed input)

-- The pieces one after the other are the lines of the sheet, and so what is printed of the input. Assumes nothing.
use mathlib.Core.Path.{◌≡◌, sym, ap, ◌∙◌}
use mathlib.Core.List.{List, [], ◌∷◌, ◌++◌}
use Prim.Native.Nat.{ℕ}
use Rattle.sheet.specs.Sheet.{Finished}
use Rattle.sheet.specs.Printed.{joined}
use Rattle.printer.specs.declared.plan.Cursor.{Cursor}
use Rattle.printer.specs.declared.plan.Cursor.TheVariants.{Start}
use Rattle.printer.specs.Lines.{rest}
use Rattle.printer.specs.Pieces.{Pieces}
use Rattle.printer.specs.Promises.{PiecesPrinted}

pieces_joined : (p : Finished) (from : Cursor) (pieces : List (List ℕ)) → Pieces p from pieces → joined pieces ≡ joined (rest p from)
unfolding Pieces joined
pieces_joined p from [] e = ap joined (sym e)
pieces_joined p from (piece ∷ more) s = ap (λ (l : List ℕ). piece ++ l) (pieces_joined p s.0 more s.2) ∙ sym s.1

pub pieces_printed : PiecesPrinted
unfolding PiecesPrinted rest
pieces_printed input p pieces shown s = pieces_joined p Start pieces s ∙ ap joined shown

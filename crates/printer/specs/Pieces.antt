-- A piece of a sheet: as many whole lines as fit into a buffer. Assumes nothing: these are definitions.
use Rattle.std.specs.Prelude.{◌≡◌, List, [], ◌∷◌, ◌++◌, ℕ, ◌≤◌, ◌<◌, Option, None, Some, length, take}
use Rattle.sheet.specs.Sheet.{Finished}
use Rattle.sheet.specs.Printed.{joined}
use Rattle.printer.specs.declared.plan.Cursor.{Cursor}
use Rattle.printer.specs.declared.plan.Piece.{Piece}
use Rattle.printer.specs.Lines.{rest}

-- a piece, followed by the lines from the next cursor on, is the lines from this cursor on, and there are fewer of them
pub record Begun (p : Finished) (from : Cursor) (piece : Piece) (out : List ℕ) : Type 0 where
  pub some : 0 < piece.count
  pub inside : piece.count ≤ length out
  pub joins : joined (rest p from) ≡ take piece.count out ++ joined (rest p piece.next)
  pub fewer : length (rest p piece.next) < length (rest p from)

-- THE CONTRACT of next_piece: a piece, or no line is to come any more
abbrev pub Continues : (p : Finished) (from : Cursor) → Option Piece → (out : List ℕ) → Type 0
Continues p from None out = rest p from ≡ []
Continues p from (Some piece) out = Begun p from piece out

-- THE PIECES one after the other, from a cursor to the end: what a loop of next_piece and write hands to write
unfoldable pub Pieces : Finished → Cursor → List (List ℕ) → Type 0
Pieces p from [] = rest p from ≡ []
Pieces p from (piece ∷ more) =
    (next : Cursor) × (joined (rest p from) ≡ piece ++ joined (rest p next)) × Pieces p next more

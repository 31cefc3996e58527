-- SLICES, as a contract names them: the pair of a slice that is lent as it is at the call and as it is at the return. Assumes nothing: these are
-- definitions.
use Rattle.std.specs.Prelude.{List, ◌++◌, ℕ, length, drop}
use Rattle.std.specs.Borrow.{Bor, MutBor}
use denote.Triple.Both.{Both}

-- one that is lent to be read, and what it holds
abbrev pub Slice : Type 0
Slice = Both (Bor (List ℕ)) (Bor (List ℕ))

abbrev pub was : Slice → List ℕ
was s = s.entry.now

-- one that is lent to be written, what it held at the call, and what is left in it at the return
abbrev pub Buffer : Type 0
Buffer = Both (MutBor (List ℕ)) (MutBor (List ℕ))

abbrev pub had : Buffer → List ℕ
had b = b.entry.now

abbrev pub left : Buffer → List ℕ
left b = b.exit.now

-- a buffer with a list at its start and the rest as it was
unfoldable pub over : (list buffer : List ℕ) → List ℕ
over xs buffer = xs ++ drop (length xs) buffer

-- What it means that a buffer begins with a text, and that a text is put there. Assumes nothing: these are definitions.
use Rattle.std.specs.Prelude.{◌≡◌, List, ◌++◌, ℕ, length, drop}
use Rattle.table.specs.Slices.{Buffer, had, left}
use Rattle.sheet.specs.Text.{spaced}
use Rattle.sheet_lines.specs.declared.text.Line.{Line}

-- a buffer begins with a text, of which `count` says how long it is; the rest is as it was before
pub record Begins (with before after : List ℕ) (count : ℕ) : Type 0 where
  pub counted : count ≡ length with
  pub holds : after ≡ with ++ drop (length with) before

-- A LINE IS PUT at the start of a buffer that is lent, and its length is answered.
abbrev pub PutsLine : (line : List ℕ) → (out : Buffer) → (count : ℕ) → Type 0
PutsLine line out count = Begins line (had out) (left out) count

-- A LINE IS MADE LONGER, in the same buffer: whatever it is, it is then what `longer` makes of that.
pub record Extends (longer : List ℕ → List ℕ) (old new : Line) : Type 0 where
  pub same : new.out.ghost_name ≡ old.out.ghost_name
  pub long : length new.out.now ≡ length old.out.now
  pub begins : (with before : List ℕ) → Begins with before old.out.now old.end → Begins (longer with) before new.out.now new.end

-- by a text behind it
abbrev pub Puts : (text : List ℕ) → (old new : Line) → Type 0
Puts text = Extends (λ with. with ++ text)

-- by numbers, each after a space
abbrev pub PutsSpaced : (numbers : List ℕ) → (old new : Line) → Type 0
PutsSpaced numbers = Extends (λ with. spaced with numbers)

-- A buffer that begins with a text, and has another put behind it, begins with both. Assumes nothing.
use mathlib.Core.Path.{◌≡◌, refl, sym, subst}
use mathlib.Core.List.{List, []}
use Prim.Native.Nat.{ℕ}
use Rattle.sheet_lines.specs.Buffers.{Begins}

pub begins_nothing : (out : List ℕ) → Begins [] out out 0
begins_nothing out = record { counted = refl; holds = refl }

-- what a buffer that was lent holds when it is given back
pub left_in : {line before last after : List ℕ} {count : ℕ} → Begins line before last count → after ≡ last → Begins line before after count
left_in {line} {before} {last} {after} {count} b e = subst (λ (l : List ℕ). Begins line before l count) (sym e) b

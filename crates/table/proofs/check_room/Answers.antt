-- The refusal is 3's where a column is short. Assumes nothing.
use mathlib.Core.Path.{refl, sym, ◌∙◌}
use Rattle.table.proofs.check_room.Goals as goal

pub returns-then-short_columns : goal.returns-then-short_columns
returns-then-short_columns c = c.at.ensures ∙ rw (sym c.short_columns.ensures ∙ c.if-short_columns.true) refl

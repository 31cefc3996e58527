-- The refusal is 1's where the count is bad. Assumes nothing.
use mathlib.Core.Path.{refl, sym, ◌∙◌}
use Rattle.table.proofs.check_count.Goals as goal

pub returns-then-bad_count : goal.returns-then-bad_count
returns-then-bad_count c = c.at.ensures ∙ rw (sym c.bad_count.ensures ∙ c.if-bad_count.true) refl

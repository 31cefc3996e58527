-- The refusal is 16's where the range is bad; what is not refused has a node count and a largest length. Assumes nothing.
use mathlib.Core.Path.{refl, sym, ◌∙◌}
use Rattle.load_maker.proofs.Making.{some_largest}
use Rattle.load_maker.proofs.check_range.Goals as goal

pub returns-then-bad_range-clause-told : goal.returns-then-bad_range-clause-told
returns-then-bad_range-clause-told c = c.at.ensures ∙ rw (sym c.bad_range.ensures ∙ c.if-bad_range.true) refl

pub invariant_of-result : goal.invariant_of-result
invariant_of-result c = record { few_nodes = c.requires; some_length = some_largest _ _ (sym c.if-bad_range.ensures) }

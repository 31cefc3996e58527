-- One of the lists is given, whole, or the refusal is told. Assumes nothing.
use mathlib.Core.Path.{◌∙◌}
use native.Mathlib.Omega.{arith}
use Rattle.keeping.specs.Keeping.{kept}
use Rattle.keeper.proofs.Answering.{few, made_so}
use Rattle.keeper.proofs.decide.Goals as goal

pub overflow_cast-result : goal.overflow_cast-result
overflow_cast-result c = let h = few _ _ _ _ _ _ _ c.in-Ok-true.ensures in omega (arith, rw c.in-Ok-true.field-0-test at h)

pub overflow_cast-result-in-Ok-false : goal.overflow_cast-result-in-Ok-false
overflow_cast-result-in-Ok-false c = let h = few _ _ _ _ _ _ _ c.in-Ok-false.ensures in omega (arith, rw c.in-Ok-false.field-0-test at h)

pub returns-in-Ok-true : goal.returns-in-Ok-true
unfolding kept
returns-in-Ok-true c = rw c.in-Ok-true.field-0-test at c.in-Ok-true.ensures

pub returns-in-Ok-false : goal.returns-in-Ok-false
unfolding kept
returns-in-Ok-false c = rw c.in-Ok-false.field-0-test at c.in-Ok-false.ensures

pub returns-in-Err : goal.returns-in-Err
returns-in-Err c = let k = c.from.ensures in made_so _ _ k.0 k.1 k.2 k.3 ∙ c.in-Err.ensures

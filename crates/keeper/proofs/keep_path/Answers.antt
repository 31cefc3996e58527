-- One of the lists is given, whole, or the refusal is told beside an empty part of the fresh one. Assumes nothing.
use mathlib.Core.Path.{refl}
use Rattle.keeper.proofs.Answering.{whole, nothing_told, told_so, nothing_given}
use Rattle.keeper.proofs.keep_path.Goals as goal

pub returns-in-Ok-true-clause-part : goal.returns-in-Ok-true-clause-part
returns-in-Ok-true-clause-part c = rw c.in-Ok-true.field-0-test at (whole _ c.args.standing c.args.fresh _ c.in-Ok-true.ensures)

pub returns-in-Ok-true-clause-told : goal.returns-in-Ok-true-clause-told
returns-in-Ok-true-clause-told c = nothing_told _ _ _ _ c.in-Ok-true.ensures

pub returns-in-Ok-false-clause-part : goal.returns-in-Ok-false-clause-part
returns-in-Ok-false-clause-part c = rw c.in-Ok-false.field-0-test at (whole _ c.args.standing c.args.fresh _ c.in-Ok-false.ensures)

pub returns-in-Ok-false-clause-told : goal.returns-in-Ok-false-clause-told
returns-in-Ok-false-clause-told c = nothing_told _ _ _ _ c.in-Ok-false.ensures

pub returns-in-Err-clause-part : goal.returns-in-Err-clause-part
returns-in-Err-clause-part c = nothing_given c.in-Err.refusal c.args.standing c.args.fresh _ _ c.in-Err.ensures refl refl

pub returns-in-Err-clause-told : goal.returns-in-Err-clause-told
returns-in-Err-clause-told c = told_so _ _ c.in-Err.ensures

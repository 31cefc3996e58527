-- The fresh list has no total, or one of the lists is given. Assumes nothing.
use mathlib.Core.Path.{◌≡◌, sym, ap, ◌∙◌}
use native.Mathlib.Omega.{arith}
use Rattle.std.specs.Prelude.{Some, None}
use Rattle.table.specs.Told.{tells}
use Rattle.keeper.specs.Totals.{held}
use Rattle.keeper.proofs.Answering.{handed_on, no_walk, either}
use Rattle.keeper.proofs.choose.Goals as goal

pub returns-in_err-most : goal.returns-in_err-most
returns-in_err-most c =
    let none : c.total.result ≡ None = grind (arith, c.in_err-most.ensures.value) in
    let same_error : c.in_err-most.field-0.0 ≡ c.at.result = grind (arith, c.in_err-most.ensures.value) in
    handed_on _ _ _ _ c.from_residual.ensures.1
    ∙ no_walk _ _ _ (sym (ap held none) ∙ c.total.ensures) _ (ap tells same_error ∙ c.at.ensures)

pub returns : goal.returns
returns c =
    let some : c.total.result ≡ Some c.in_ok-most.most = grind (arith, c.in_ok-most.ensures.value) in
    either _ _ _ _ (sym (ap held some) ∙ c.total.ensures) _ c.stays.ensures

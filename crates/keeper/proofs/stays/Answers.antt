-- The ends are compared, then the totals. Assumes nothing.
use mathlib.Core.Path.{◌≡◌, sym, ◌∙◌}
use mathlib.Core.Option.{some}
use native.Mathlib.Omega.{arith}
use Rattle.std.proofs.lemmas.Bool.Decides.{nat_tests}
use Rattle.std.proofs.lemmas.Grind.{common_steps}
use Rattle.keeping.specs.Keeping.{no_greater}
use Rattle.keeper.specs.Totals.{held}
use Rattle.keeper.proofs.Choosing.{same_read, other_read, other_first, other_last, by_total}
use Rattle.keeper.proofs.stays.Goals as goal
use Rattle.keeper.proofs.stays.Goals.{then-ne-via-then-ne, then-ne-via-else-ne+then-ne-2}

pub returns-then-ne : goal.returns-then-ne
returns-then-ne c =
    elim c.then-ne.branch [
      | then-ne-via-then-ne w ↦
          other_first _ _ _ _ c.requires
          (other_read _ _ c.first.ensures.value c.first-2.ensures.value (sym c.ne.ensures ∙ w.if-ne.true))
      | then-ne-via-else-ne+then-ne-2 w ↦
          other_last _ _ _ _ c.requires
          (other_read _ _ w.last.ensures.value w.last-else-ne.ensures.value (sym w.ne-else-ne.ensures ∙ w.if-ne-2.true))
    ]

pub returns : goal.returns
unfolding no_greater
returns c =
    let less : c.is_some_and.result ≡ no_greater (held c.total.result) (some c.args.most) =
    grind (arith, nat_tests, common_steps, c.is_some_and.ensures) in
    less
    ∙ by_total _ _ _ _ c.requires
    (same_read _ _ c.first.ensures.value c.first-2.ensures.value (sym c.ne.ensures ∙ c.if-ne.false))
    (same_read _ _ c.last.ensures.value c.last-else-ne.ensures.value (sym c.ne-else-ne.ensures ∙ c.if-ne-2.false))
    _ c.total.ensures

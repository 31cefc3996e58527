-- Equal bounds go by the position; an arc that is not kept has none that is lower. Assumes nothing.
use Rattle.steps.proofs.reaching.Offering.{equal_before, equal_after, unequal}
use Rattle.steps.proofs.reaching.improves.Goals as goal

pub returns-then-position-kept : goal.returns-then-position-kept
returns-then-position-kept c =
    let a = c.args in equal_before a.offered a.position a.bound a.kept c.requires c.if-offered-bound.true c.if-position-kept.true

pub returns-else-position-kept : goal.returns-else-position-kept
returns-else-position-kept c =
    let a = c.args in equal_after a.offered a.position a.bound a.kept c.requires c.if-offered-bound.true c.if-position-kept.false

pub returns : goal.returns
returns c =
    let a = c.args in unequal a.offered a.position a.bound a.kept c.requires c.if-offered-bound.false

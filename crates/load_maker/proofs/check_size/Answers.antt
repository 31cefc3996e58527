-- There are no more arcs than pairs, and few enough of these to be counted; where there are too many arcs the refusal is 17's. Assumes nothing.
use mathlib.Core.Path.{refl, ap, ◌∙◌}
use mathlib.Core.Logic.{inl}
use native.Mathlib.Omega.{arith}
use lib.ListN.{length}
use borrow.Author.Tests.{lt-ltb, le-ltb}
use Rattle.table.specs.Table.{most_arcs}
use Rattle.load_maker.specs.Says.{load_of}
use Rattle.load_maker.proofs.Making.{counted, countable}
use Rattle.load_maker.proofs.check_size.Goals as goal

pub count-count-requires-clause-fits : goal.count-count-requires-clause-fits
count-count-requires-clause-fits c =
    let r = c.args.recipe in
    inl (omega (arith, ap length c.arcs.ensures, countable r.n r.seed r.chance r.largest r.few_nodes))

pub returns-then-count-gt-MOST_ARCS-clause-told : goal.returns-then-count-gt-MOST_ARCS-clause-told
returns-then-count-gt-MOST_ARCS-clause-told c =
    let count = counted _ _ c.arcs.ensures c.count-count.ensures.ran in
    c.at.ensures ∙ rw (lt-ltb most_arcs (length (load_of c.args.recipe)) (omega (arith, count, c.if-count-gt-MOST_ARCS.true))) refl

pub returns-clause-told : goal.returns-clause-told
returns-clause-told c =
    let count = counted _ _ c.arcs.ensures c.count-count.ensures.ran in
    rw (le-ltb most_arcs (length (load_of c.args.recipe)) (omega (arith, count, c.if-count-gt-MOST_ARCS.false))) refl

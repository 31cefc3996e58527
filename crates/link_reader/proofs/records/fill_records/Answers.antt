-- `records::fill_records` meets its contract: an accepted file has no refused record, and each record's arc goes to the columns' next
-- element. Assumes nothing.
use Rattle.std.proofs.Common.{arith}
use Rattle.std.proofs.lemmas.List.{take_rest}
use Rattle.link_reader.proofs.records.Filling.{filling_next, tails_done, heads_done, lengths_done, all_passed, never_refused}
use Rattle.link_reader.proofs.records.fill_records.Goals as goal
use Rattle.link_reader.proofs.records.fill_records.Goals.{In_default}

-- no record is refused
never : (c : In_default) → ⊥
never c =
    let f = c.loop-i.invariant in
    never_refused _ _ _ _ f.good (omega (arith, f.stands.inside)) c.loop-i-test.true _ _ (rw take_rest at c.in_default.ensures)

pub returns-then-at-file-clause-tails : goal.returns-then-at-file-clause-tails
returns-then-at-file-clause-tails c = tails_done c.loop-i.invariant (omega arith)

pub returns-then-at-file-clause-heads : goal.returns-then-at-file-clause-heads
returns-then-at-file-clause-heads c = heads_done c.loop-i.invariant (omega arith)

pub returns-then-at-file-clause-lengths : goal.returns-then-at-file-clause-lengths
returns-then-at-file-clause-lengths c = lengths_done c.loop-i.invariant (omega arith)

pub returns-in_default-clause-tails : goal.returns-in_default-clause-tails
returns-in_default-clause-tails c = absurd (never c)

pub returns-in_default-clause-heads : goal.returns-in_default-clause-heads
returns-in_default-clause-heads c = absurd (never c)

pub returns-in_default-clause-lengths : goal.returns-in_default-clause-lengths
returns-in_default-clause-lengths c = absurd (never c)

pub loop-i-preserved : goal.loop-i-preserved
loop-i-preserved c =
    let f = c.loop-i.invariant in
    filling_next f (omega (arith, f.stands.inside)) c.loop-i-test.true (rw take_rest at c.in-Ok.ensures)

pub returns-clause-tails : goal.returns-clause-tails
returns-clause-tails c = tails_done c.loop-i.invariant (all_passed _ _ _ _ c.loop-i.invariant.good c.loop-i-test.false c.loop-i.auto.i-end)

pub returns-clause-heads : goal.returns-clause-heads
returns-clause-heads c = heads_done c.loop-i.invariant (all_passed _ _ _ _ c.loop-i.invariant.good c.loop-i-test.false c.loop-i.auto.i-end)

pub returns-clause-lengths : goal.returns-clause-lengths
returns-clause-lengths c = lengths_done c.loop-i.invariant (all_passed _ _ _ _ c.loop-i.invariant.good c.loop-i-test.false c.loop-i.auto.i-end)

-- `records::count_records` meets its contract: one law of `Runs` for each way on and out. Assumes nothing.
use Rattle.std.proofs.Common.{sym, ap, ◌∙◌, arith}
use Rattle.std.proofs.lemmas.List.{take_rest}
use Rattle.link_reader.proofs.records.Runs.{standing_next, run_more, count_of, count_more, all_counted, one_refused, one_too_many}
use Rattle.link_reader.proofs.Refused.{refused_as}
use Rattle.link_reader.proofs.records.count_records.Goals as goal

pub returns-then-at-file : goal.returns-then-at-file
returns-then-at-file c = let all = all_counted _ _ _ _ _ c.loop-count.invariant.same (omega arith) in record { good = all.0; is = all.1 }

pub returns-in-Err : goal.returns-in-Err
returns-in-Err c =
    let stands = c.loop-count.invariant.stands in
    (one_refused _ _ _ _ _ c.loop-count.invariant.same (omega (arith, stands.inside)) c.loop-count-test.true (rw take_rest at c.in-Err.ensures))

pub loop-count-preserved : goal.loop-count-preserved
loop-count-preserved c =
    let stands = c.loop-count.invariant.stands in
    let record_got = rw take_rest at c.in-Ok.ensures in
    record {
      stands = standing_next stands _ _ record_got;
      same =
          sym (count_more _ _ _)
          ∙ ap (count_of c.loop-count.count) (sym (run_more _ _ _ _ (omega (arith, stands.inside)) c.loop-count-test.true record_got))
          ∙ c.loop-count.invariant.same;
    }

pub returns-then-at-file-2 : goal.returns-then-at-file-2
returns-then-at-file-2 c = refused_as _ c.at.ensures (one_too_many _ _ _ _ _ c.loop-count.invariant.same c.if-at-file-2.true (omega arith))

pub returns : goal.returns
returns c = let all = all_counted _ _ _ _ _ c.loop-count.invariant.same (omega arith) in record { good = all.0; is = omega (arith, all.1) }

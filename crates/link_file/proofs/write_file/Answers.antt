-- `write_file` meets its contract: each `return` is one way out of writing a file. Assumes nothing.
use Rattle.std.proofs.Common.{sym, rules, ◌∙◌, arith, ◌≡◌, ◌+◌, false, ltb, length}
use borrow.Author.Tests.{ltb-false}
use Rattle.table.specs.Table.{most_wanted}
use Rattle.table.specs.Refusals.{count_bad}
use Rattle.link_format.specs.Buffers.{file_of}
use Rattle.table.proofs.Telling.{failed, passed, passed_on}
use Rattle.link_fields.proofs.fields.Putting.{kept, put_then}
use Rattle.link_file.proofs.WriterWays.{file_size, none_written, refuses_count, refuses_columns, refuses_wanted, refuses_room, all_written}
use Rattle.link_file.proofs.write_file.Goals as goal
use Rattle.link_file.proofs.write_file.Goals.{In_ok-check_wanted_count, After-records_size}

-- not too many nodes are wanted
module _ (c : In_ok-check_wanted_count) where
  few : ltb most_wanted (length c.args.wanted.now) ≡ false
  few = passed _ 5 most_wanted (omega arith) c.in_ok-check_wanted_count.ensures

-- where the size is known: it is the file's
module _ (c : After-records_size) where
  size_is : c.size.result + c.records_size.result ≡ length (file_of c.args.n c.args.origin c.args.tails.now c.args.heads.now c.args.lengths.now c.args.wanted.now)
  size_is =
      let a = c.args in
      let header = c.new-header.ensures in
      let columns = c.in_ok-columns.ensures.same in
      omega (
        arith,
        file_size a.n a.origin a.tails.now a.heads.now a.lengths.now a.wanted.now a.output.now,
        rw (header.nodes, header.origin, header.wanted) at c.size.ensures.same,
        rw (columns.0, columns.1, columns.2) at c.records_size.ensures.same,
      )

pub returns-in_err-check_count-clause-answer : goal.returns-in_err-check_count-clause-answer
returns-in_err-check_count-clause-answer c =
    let bad = failed _ _ 1 0 c.in_err-check_count.ensures in
    rw (passed_on _ _ c.from_residual.ensures.1) (none_written _ _ _ _ _ _ _ _ (refuses_count _ _ _ _ _ _ _ bad.0 ∙ sym bad.1))

pub returns-in_err-columns-clause-answer : goal.returns-in_err-columns-clause-answer
returns-in_err-columns-clause-answer c =
    let fine = passed _ 1 0 (omega arith) c.in_ok-check_count.ensures in
    let bad = failed _ _ 2 0 c.in_err-columns.ensures.told in
    rw (passed_on _ _ c.from_residual-in_err-columns.ensures.1) (none_written _ _ _ _ _ _ _ _ (refuses_columns _ _ _ _ _ _ _ fine bad.0 ∙ sym bad.1))

pub returns-in_err-check_wanted_count-clause-answer : goal.returns-in_err-check_wanted_count-clause-answer
returns-in_err-check_wanted_count-clause-answer c =
    let fine = passed _ 1 0 (omega arith) c.in_ok-check_count.ensures in
    let equal = passed _ 2 0 (omega arith) c.in_ok-columns.ensures.told in
    let bad = failed _ _ 5 most_wanted c.in_err-check_wanted_count.ensures in
    rw (passed_on _ _ c.from_residual-in_err-check_wanted_count.ensures.1)
    (none_written _ _ _ _ _ _ _ _ (refuses_wanted _ _ _ _ _ _ _ fine equal bad.0 ∙ sym bad.1))

pub size-requires : goal.size-requires
size-requires c = rw c.new-header.ensures.wanted (ltb-false _ _ (few (goal.at.size-requires c).In_ok-check_wanted_count))

pub returns-then-output-size-clause-answer : goal.returns-then-output-size-clause-answer
returns-then-output-size-clause-answer c =
    let fine = passed _ 1 0 (omega arith) c.in_ok-check_count.ensures in
    let equal = passed _ 2 0 (omega arith) c.in_ok-columns.ensures.told in
    let here = goal.at.returns-then-output-size-clause-answer c in
    let size = size_is here.After-records_size in
    none_written _ _ _ _ _ _ _ _
    (refuses_room _ _ _ _ _ _ _ fine equal (few here.In_ok-check_wanted_count) (omega (arith, size, c.if-output-size.true)) ∙ sym c.at.ensures)

-- where the header was put
pub write_records-requires : goal.write_records-requires
write_records-requires c = omega (arith, kept c.write.ensures)

-- where the records were put
pub returns-clause-answer : goal.returns-clause-answer
returns-clause-answer c =
    let fine = passed (count_bad c.args.n) 1 0 (omega arith) c.in_ok-check_count.ensures in
    let equal = passed _ 2 0 (omega arith) c.in_ok-columns.ensures.told in
    let here = goal.at.returns-clause-answer c in
    let size = size_is here.After-records_size in
    let header = c.new-header.ensures in
    let columns = c.in_ok-columns.ensures.same in
    all_written _ _ _ _ _ _ _ fine equal (few here.In_ok-check_wanted_count) size (omega (arith, size, c.if-output-size.false))
    (rw (header.nodes, header.origin, header.wanted, columns.0, columns.1, columns.2) at (put_then c.write.ensures c.write_records.ensures).is)
    (search rules)

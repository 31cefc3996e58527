-- `read_table` meets its contract: what the header and the records give is what the file gives. Assumes nothing.
use Rattle.std.proofs.Common.{arith, sym, ◌∙◌}
use Rattle.link_format.proofs.Counts.{roomy}
use Rattle.link_format.proofs.Outcomes.{reading_short, reading_roomy}
use Rattle.table.proofs.Telling.{passed_on}
use Rattle.link_reader.proofs.Refused.{refused_as}
use Rattle.link_file.proofs.ReaderWays.{none_read, header_refuses, records_refuse, count_few, read_whole}
use Rattle.link_file.proofs.read_table.Goals as goal

pub returns-then-short-clause-answer : goal.returns-then-short-clause-answer
returns-then-short-clause-answer c = none_read _ _ (refused_as _ c.at.ensures (reading_short _ _ _ _ _ (sym c.if-short.ensures)))

pub returns-in_err-header-clause-answer : goal.returns-in_err-header-clause-answer
returns-in_err-header-clause-answer c =
    rw (passed_on _ _ c.from_residual.ensures.1) (none_read _ _ (reading_roomy _ _ _ _ _ (sym c.if-short.ensures) ∙ header_refuses _ c.in_err-header.ensures))

pub returns-in_err-arcs-clause-answer : goal.returns-in_err-arcs-clause-answer
returns-in_err-arcs-clause-answer c =
    rw (passed_on _ _ c.from_residual-in_err-arcs.ensures.1)
    (none_read _ _ (reading_roomy _ _ _ _ _ (sym c.if-short.ensures) ∙ records_refuse _ _ c.in_ok-header.ensures c.in_err-arcs.ensures))

pub fill_wanted-requires : goal.fill_wanted-requires
fill_wanted-requires c =
    (c.in_ok-header.ensures, omega (arith, c.in_ok-header.ensures.few, (roomy _ _ _ _ (sym c.if-short.ensures)).wanted_room))

pub fill_records-requires : goal.fill_records-requires
fill_records-requires c =
    let room = roomy _ _ _ _ (sym c.if-short.ensures) in
    record {
      inside = c.in_ok-header.ensures.inside;
      short = c.in_ok-header.ensures.short;
      good = c.in_ok-arcs.ensures.good;
      tails_room = room.tails_room;
      heads_room = room.heads_room;
      lengths_room = room.lengths_room;
    }

pub returns-clause-answer : goal.returns-clause-answer
returns-clause-answer c =
    let filled = c.fill_records.ensures in
    read_whole _ _ c.in_ok-header.ensures c.in_ok-arcs.ensures (reading_roomy _ _ _ _ _ (sym c.if-short.ensures)) (roomy _ _ _ _ (sym c.if-short.ensures))
    filled.tails filled.heads filled.lengths c.fill_wanted.ensures

pub returns-clause-few : goal.returns-clause-few
returns-clause-few c = (c.in_ok-header.ensures.nodes, c.in_ok-header.ensures.few, count_few _ _ c.in_ok-header.ensures c.in_ok-arcs.ensures)

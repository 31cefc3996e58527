-- `records::count_records` meets its contract: the count so far with what is left to read gives the count of all. Assumes nothing.
use Rattle.std.proofs.Common.{◌≡◌}
use Rattle.link_fields.specs.Fields.{arc_before}
use Rattle.link_reader.specs.Says.{records_from}
use Rattle.link_reader.proofs.records.Runs.{remaining, count_of, Standing}
use Rattle.link_reader.proofs.records.count_records.Given as goal

abbrev pub invariant-loop-count : goal.invariant-loop-count
invariant-loop-count l = record {
  stands : Standing l.file l.at l.count;
  same : count_of l.count (remaining l.file l.at l.count (arc_before l.previous)) ≡ count_of 0 (records_from l.file l.start);
}

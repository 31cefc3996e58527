-- `header::read_header` meets its contract: each `return` is one way out of reading a header. Assumes nothing.
use Rattle.std.proofs.Common.{arith, ◌≡◌, ◌<◌, false, length, sym, ◌∙◌}
use Rattle.std.proofs.lemmas.Bool.Decides.{nat_tests}
use Rattle.table.specs.Refusals.{count_bad}
use Rattle.table.proofs.Counts.{few_nodes}
use Rattle.table.proofs.Telling.{failed, passed, passed_on}
use Rattle.link_fields.proofs.bit_maps.Bytes.{same_byte, other_byte}
use Rattle.link_reader.proofs.Refused.{refused_as}
use Rattle.link_reader.proofs.header.Ways.{header_empty, header_forbidden, cut_n, bad_n, cut_origin, wanted_refused, header_needless, header_got}
use Rattle.link_reader.proofs.header.read_header.Goals as goal
use Rattle.link_reader.proofs.header.read_header.Goals.{Else-is_empty, In_ok-check_count}

-- there is a first byte
module _ (c : Else-is_empty) where
  some : 0 < length c.args.file.now
  some = grind (arith, nat_tests)

-- the node count is in range
module _ (c : In_ok-check_count) where
  fine : count_bad c.in-Some-read_field.n.value ≡ false
  fine = passed _ 1 0 (omega arith) c.in_ok-check_count.ensures

pub returns-then-is_empty : goal.returns-then-is_empty
returns-then-is_empty c = refused_as _ c.at.ensures (header_empty _ (grind (arith, nat_tests)))

pub returns-in_default : goal.returns-in_default
returns-in_default c = refused_as _ c.at-in_default.ensures (header_forbidden _ (some (goal.at.returns-in_default c).Else-is_empty) c.in_default.ensures)

pub returns-in_default-read_field : goal.returns-in_default-read_field
returns-in_default-read_field c =
    refused_as _ c.at-in_default-read_field.ensures (cut_n _ (some (goal.at.returns-in_default-read_field c).Else-is_empty) _ c.in-Some.ensures c.in_default-read_field.ensures)

pub returns-in_err-check_count : goal.returns-in_err-check_count
returns-in_err-check_count c =
    let bad = failed _ _ 1 0 c.in_err-check_count.ensures in
    rw (passed_on _ _ c.from_residual.ensures.1)
    (refused_as _ bad.1 (bad_n _ (some (goal.at.returns-in_err-check_count c).Else-is_empty) _ c.in-Some.ensures c.in-Some-read_field.ensures bad.0))

pub returns-in_default-read_optional : goal.returns-in_default-read_optional
returns-in_default-read_optional c =
    let here = goal.at.returns-in_default-read_optional c in
    refused_as _ c.at-in_default-read_optional.ensures
    (cut_origin _ (some here.Else-is_empty) _ c.in-Some.ensures c.in-Some-read_field.ensures (fine here.In_ok-check_count) c.in_default-read_optional.ensures)

pub read_wanted-requires-clause-few : goal.read_wanted-requires-clause-few
read_wanted-requires-clause-few c = few_nodes (fine (goal.at.read_wanted-requires-clause-few c).In_ok-check_count)

pub returns-in_err-wanted : goal.returns-in_err-wanted
returns-in_err-wanted c =
    let here = goal.at.returns-in_err-wanted c in
    rw (passed_on _ _ c.from_residual-in_err-wanted.ensures.1)
    (wanted_refused _ (some here.Else-is_empty) _ c.in-Some.ensures c.in-Some-read_field.ensures (fine here.In_ok-check_count) c.in-Some-read_optional.ensures c.in_err-wanted.ensures)

pub returns-then-ne : goal.returns-then-ne
returns-then-ne c =
    let here = goal.at.returns-then-ne c in
    refused_as _ c.at-then-ne.ensures
    (header_needless _ (some here.Else-is_empty) _ c.in-Some.ensures c.in-Some-read_field.ensures (fine here.In_ok-check_count) c.in-Some-read_optional.ensures c.in_ok-wanted.ensures
    λ same. other_byte _ _ c.if-ne.ensures (same ∙ sym (c.of_header-canonical.ensures _ _ c.in_ok-wanted.ensures.same)))

pub returns : goal.returns
returns c =
    let here = goal.at.returns c in
    header_got _ (some here.Else-is_empty) _ c.in-Some.ensures c.in-Some-read_field.ensures (fine here.In_ok-check_count) c.in-Some-read_optional.ensures c.in_ok-wanted.ensures (few_nodes (fine here.In_ok-check_count))
    (same_byte _ _ c.if-ne.ensures ∙ c.of_header-canonical.ensures _ _ c.in_ok-wanted.ensures.same)

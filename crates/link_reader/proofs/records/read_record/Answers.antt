-- `records::read_record` meets its contract: each `return` is one way out of reading a record. Assumes nothing.
use Rattle.std.proofs.Common.{arith, sym, ◌∙◌}
use Rattle.link_reader.proofs.Refused.{refused_as}
use Rattle.link_fields.proofs.bit_maps.Bytes.{same_byte, other_byte}
use Rattle.link_reader.proofs.records.Ways.{refused_bits, cut_tail, cut_head, cut_length, refused_head, refused_needless, got_record}
use Rattle.link_reader.proofs.records.read_record.Goals as goal

pub returns-in_default : goal.returns-in_default
returns-in_default c = refused_as _ c.at.ensures (refused_bits _ _ _ c.requires.0 c.in_default.ensures)

pub returns-in_default-read_optional : goal.returns-in_default-read_optional
returns-in_default-read_optional c = refused_as _ c.at-in_default-read_optional.ensures
    (cut_tail _ _ _ c.requires.0 _ c.in-Some.ensures c.implied-absent.ensures c.in_default-read_optional.ensures)

pub returns-in_default-read_optional-2 : goal.returns-in_default-read_optional-2
returns-in_default-read_optional-2 c = refused_as _ c.at-in_default-read_optional-2.ensures
    (cut_head _ _ _ c.requires.0 _ c.in-Some.ensures c.implied-absent.ensures c.in-Some-read_optional.ensures c.in_default-read_optional-2.ensures)

pub returns-in_default-read_optional-3 : goal.returns-in_default-read_optional-3
returns-in_default-read_optional-3 c = refused_as _ c.at-in_default-read_optional-3.ensures
    (cut_length _ _ _ c.requires.0 _ c.in-Some.ensures c.implied-absent.ensures c.in-Some-read_optional.ensures c.in-Some-read_optional-2.ensures c.in_default-read_optional-3.ensures)

pub returns-in_default-try_from : goal.returns-in_default-try_from
returns-in_default-try_from c = refused_as _ c.at-in_default-try_from.ensures
    (refused_head _ _ _ c.requires.0 _ c.in-Some.ensures c.implied-absent.ensures c.in-Some-read_optional.ensures c.in-Some-read_optional-2.ensures c.in-Some-read_optional-3.ensures
    (omega (arith, c.in_default-try_from.ensures)))

pub returns-then-ne : goal.returns-then-ne
returns-then-ne c = refused_as _ c.at-then-ne.ensures
    (refused_needless _ _ _ c.requires.0 _ c.in-Some.ensures c.implied-absent.ensures c.in-Some-read_optional.ensures c.in-Some-read_optional-2.ensures c.in-Some-read_optional-3.ensures
    (omega (arith, c.in-Ok.ensures)) λ same. other_byte _ _ c.if-ne.ensures (same ∙ sym (rw c.in-Ok.ensures.1 at c.of_record.ensures)))

pub returns : goal.returns
returns c = rw c.in-Ok.ensures.1
    (got_record _ _ _ c.requires.0 _ c.in-Some.ensures c.implied-absent.ensures c.in-Some-read_optional.ensures c.in-Some-read_optional-2.ensures c.in-Some-read_optional-3.ensures
    (omega (arith, c.in-Ok.ensures)) (same_byte _ _ c.if-ne.ensures ∙ (rw c.in-Ok.ensures.1 at c.of_record.ensures)))

-- `fields::read_optional` meets its contract: the field's own answer, or the value that its absence says. Assumes nothing.
use Rattle.std.proofs.Common.{arith}
use Rattle.link_format.specs.Reading.{optional}
use Rattle.link_fields.proofs.fields.Parts.{field_wider, absent_got}
use Rattle.link_fields.proofs.fields.read_optional.Goals as goal

pub returns-then-stands : goal.returns-then-stands
unfolding optional
returns-then-stands c = rw c.if-stands.true (field_wider c.read_field.result _ _ _ _ _ _ (omega arith) c.read_field.ensures)

pub returns : goal.returns
unfolding optional
returns c = let a = c.args in rw c.if-stands.false (absent_got a.part.now a.from a.width a.absent _ c.requires.0 (omega arith))

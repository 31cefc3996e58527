-- `Output::optional` meets its contract: the field, or nothing. Assumes nothing.
use mathlib.Core.Path.{refl, sym}
use native.Mathlib.Nat.{add-zero}
use native.Mathlib.Omega.{arith}
use Rattle.link_format.specs.Format.{field_bytes}
use Rattle.link_format.proofs.Numbers.{length_bytes}
use Rattle.link_fields.proofs.fields.Output.optional.Goals as goal

pub field-requires : goal.field-requires
unfolding field_bytes
field-requires c = omega (arith, rw c.if-stands.true at c.requires, length_bytes c.args.width c.args.value)

pub returns-then-stands : goal.returns-then-stands
unfolding field_bytes
returns-then-stands c = rw c.if-stands.true c.field.ensures

pub returns-else-stands : goal.returns-else-stands
unfolding field_bytes
returns-else-stands c = rw c.if-stands.false (record { same = refl; on = sym (add-zero c.args.self.now.end); is = refl })

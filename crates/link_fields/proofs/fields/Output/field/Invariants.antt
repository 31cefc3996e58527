-- `fields::Output::field` meets its contract: the bytes that are left to put stand behind those that were. Assumes nothing.
use Prim.Native.Nat.{◌-◌}
use Rattle.link_format.specs.Format.{bytes}
use Rattle.table.proofs.Storing.{Column}
use Rattle.link_fields.proofs.fields.Output.field.Given as goal

abbrev pub invariant-loop-byte : goal.invariant-loop-byte
invariant-loop-byte l = Column l.initial.byte-items 0 (bytes l.width l.value) l.byte-items l.byte-index (bytes (l.width - l.byte-index) l.left)

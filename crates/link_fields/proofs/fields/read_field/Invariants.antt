-- `fields::read_field` meets its contract. The loop goes from the highest byte down; its value is the number in the bytes passed. Assumes nothing.
use lib.ListN.{drop}
use Rattle.link_fields.proofs.fields.Parts.{Passed}
use Rattle.link_fields.proofs.fields.read_field.Given as goal

abbrev pub invariant-loop-byte : goal.invariant-loop-byte
invariant-loop-byte l = Passed l.width (drop l.from l.part) l.value l.byte-iterator.iter.rest.now

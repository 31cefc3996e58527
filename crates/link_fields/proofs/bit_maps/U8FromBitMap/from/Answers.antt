-- `u8::from` a bit map meets its contract: the sum of the weights of its bits. Assumes nothing.
use Rattle.std.proofs.Common.{arith}
use Rattle.std.proofs.lemmas.Bool.Decides.{nat_tests}
use Rattle.link_format.specs.Format.{bit_map}
use Rattle.link_fields.proofs.bit_maps.U8FromBitMap.from.Goals as goal

pub returns : goal.returns
unfolding bit_map
returns c = grind (arith, nat_tests)

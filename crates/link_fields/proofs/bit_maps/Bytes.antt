-- Where `!=` finds two bit maps equal their bytes are, and where not they are not. Assumes nothing.
use Rattle.std.proofs.Common.{◌≡◌, true, false, ◌&&◌, sym, ◌∙◌, ap, arith}
use mathlib.Core.Bool.{beq, not}
use Rattle.std.proofs.lemmas.Bool.Decides.{nat_tests}
use Rattle.link_format.specs.Format.{has}
use Rattle.link_format.proofs.BitMaps.{made_of}
use Rattle.link_fields.specs.Fields.{byte_of}
use Rattle.link_fields.specs.declared.bit_maps.BitMap.{BitMap}

module _ (a b : BitMap) where
  pub same_byte : false ≡ not (beq a.first b.first && (beq a.second b.second && beq a.third b.third)) → byte_of a ≡ byte_of b
  same_byte e = grind (arith, nat_tests)

  pub other_byte : true ≡ not (beq a.first b.first && (beq a.second b.second && beq a.third b.third)) → byte_of a ≡ byte_of b → ⊥
  other_byte e same =
      let x : a.first ≡ b.first = sym (made_of a.first a.second a.third).first_bit ∙ ap (has 1) same ∙ (made_of b.first b.second b.third).first_bit in
      let y : a.second ≡ b.second = sym (made_of a.first a.second a.third).second_bit ∙ ap (has 2) same ∙ (made_of b.first b.second b.third).second_bit in
      let z : a.third ≡ b.third = sym (made_of a.first a.second a.third).third_bit ∙ ap (has 4) same ∙ (made_of b.first b.second b.third).third_bit in
      grind (arith, nat_tests)

-- No head is left, and every tail. Assumes nothing.
use mathlib.Core.Path.{refl}
use native.Mathlib.Numerals.{unary_clauses}
use Rattle.test_load.specs.Load.{pairs_of, pairs}
use Rattle.load_maker.proofs.pairs.Pairs.new.Goals as goal

pub returns : goal.returns
unfolding pairs_of pairs
returns c = simp unary_clauses refl

-- All pairs are left, from the seed on. Assumes nothing.
use mathlib.Core.Path.{ap}
use Rattle.test_load.specs.Load.{drawn, load}
use Rattle.load_maker.proofs.arcs.Recipe.arcs.Goals as goal

pub returns : goal.returns
unfolding load
returns c = let s = c.args.self in ap (λ ps. drawn s.chance s.largest ps s.seed) c.new.ensures

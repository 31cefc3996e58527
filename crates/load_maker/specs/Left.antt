-- What is left of a load: the lists that the code's own iterators hold. Assumes nothing: these are definitions.
use Rattle.std.specs.Prelude.{List, ◌++◌, ◌-◌}
use Rattle.table.specs.Table.{Arc}
use Rattle.test_load.specs.Load as load
use Rattle.test_load.specs.Load.{pair, pairs_of, pairs_from, drawn}
use Rattle.load_maker.specs.declared.pairs.Pair.{Pair}
use Rattle.load_maker.specs.declared.pairs.Pairs.{Pairs}
use Rattle.load_maker.specs.declared.arcs.Arcs.{Arcs}

-- a pair
abbrev pub pair_of : Pair → load.Pair
pair_of p = pair p.tail p.head

-- the pairs that are left
abbrev pub pairs_left : Pairs → List load.Pair
pairs_left p = pairs_of p.tail p.heads.start (p.heads.end - p.heads.start) ++ pairs_from p.n p.tails.start (p.tails.end - p.tails.start)

-- the arcs that are left
abbrev pub arcs_left : Arcs → List Arc
arcs_left a = drawn a.chance a.largest (pairs_left a.pairs) a.state

-- The forward star that the code's own struct holds. Assumes nothing: these are definitions.
use Rattle.table.specs.Table.{Table}
use Rattle.forward_star.specs.declared.star.ForwardStar.{ForwardStar}
use Rattle.forward_star.specs.Lists.{Star, star, Outgoing}

abbrev pub star_in : ForwardStar → Star
star_in s = star s.columns.heads.now s.columns.lengths.now s.first.now s.next.now

-- it is that of a table
abbrev pub IsStarOf : Table → ForwardStar → Type 0
IsStarOf t s = Outgoing t (star_in s)

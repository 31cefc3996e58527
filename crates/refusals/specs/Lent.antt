-- The buffers' lengths that the code's own struct holds. Assumes nothing: this is a definition.
use Rattle.std.specs.Prelude.{List, ℕ}
use Rattle.table.specs.Refusals.{Room}
use Rattle.auction.specs.Plan.{rooms}
use Rattle.refusals.specs.declared.Rooms.{Rooms}

-- each with the one that a table of so many nodes and arcs needs
abbrev pub lent_rooms : (n arcs : ℕ) → Rooms → List Room
lent_rooms n m r = rooms n m r.distances r.prices r.tree r.marks

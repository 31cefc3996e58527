-- What a plan to a collector answers and leaves in the four buffers, for every input: the plan of the columns with tails and heads exchanged. The collector
-- stands for the origin and the senders for the wanted nodes; positions, and so the tree and the marks, are the table's own. Assumes nothing: these are
-- definitions.
use Rattle.std.specs.Prelude.{List, ℕ}
use Rattle.auction.specs.HandOver.{Answer}
use Rattle.auction.specs.Plan.{plan, routes_of}
use Rattle.table.specs.Table.{Table}
use Rattle.collector.specs.Exchanged.{exchanged}

-- THE PLAN TO A COLLECTOR
unfoldable pub plan_to_collector : (n collector : ℕ) → (tails heads lengths senders distances prices tree marks : List ℕ) → Answer
plan_to_collector n c ts hs ls ss ds ps tr ms = plan n c hs ts ls ss ds ps tr ms

-- its answer to a table that is not refused
unfoldable pub collected : Table → (senders : List ℕ) → Answer
collected t ss = routes_of (exchanged t) ss

-- Where the run of a table ends. Assumes nothing: these are definitions.
use Rattle.std.specs.Prelude.{◌≡◌, List, ℕ, length}
use Rattle.table.specs.Lent.{table_in}
use Rattle.table.specs.declared.links.LinkTable.{LinkTable}
use Rattle.steps.specs.declared.state.Node.{Node}
use Rattle.steps.specs.declared.state.RunEnd.{RunEnd}
use Rattle.steps.specs.Seen.{run_of, held}
use Rattle.solver.specs.Runs.{RanWithin}

-- THE RUN OF A TABLE WITHIN A LIMIT ENDS there, with these nodes
pub record RunEnds (l : LinkTable) (limit : ℕ) (end : RunEnd) (nodes : List Node) : Type 0 where
  -- as many as the table has
  pub many : length nodes ≡ l.n
  -- and some path
  pub path : List ℕ
  -- in the state that they make the run has ended
  pub ran : RanWithin (table_in l) l.wanted.now limit end.missing end.scans (held (run_of path nodes end.progress))

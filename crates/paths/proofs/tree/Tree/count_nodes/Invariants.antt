-- The way back from where we are gives the whole path. Assumes nothing.
use Rattle.paths.specs.Trees.{tree_of}
use Rattle.paths.proofs.Counting.{Counting}
use Rattle.paths.proofs.tree.Tree.count_nodes.Given as goal

abbrev pub invariant-loop-count : goal.invariant-loop-count
invariant-loop-count l = Counting l.self.origin l.node (tree_of l.self) l.v l.count

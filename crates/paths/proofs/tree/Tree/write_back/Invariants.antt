-- So many nodes are written, and the next one is the one before. Assumes nothing.
use Rattle.listing.specs.Listing.{nodes_of}
use Rattle.paths.specs.Trees.{tree_of, path_to}
use Rattle.paths.proofs.Writing.{Writing}
use Rattle.paths.proofs.tree.Tree.write_back.Given as goal

abbrev pub invariant-loop-i : goal.invariant-loop-i
invariant-loop-i l = Writing l.self.origin (tree_of l.self) (nodes_of (path_to l.self l.node)) l.v l.i l.nodes

-- The tree and the paths that the code's own struct holds. Assumes nothing: these are definitions.
use Rattle.std.specs.Prelude.{List, ℕ, Some, None, length}
use Rattle.std.specs.Prelude as code
use Rattle.std.proofs.Math.Option.{Option, none, some}
use Rattle.listing.specs.Listing.{Tree, tree_in, path}
use Rattle.paths.specs.declared.tree.Tree as held

abbrev pub tree_of : held.Tree → Tree
tree_of t = tree_in t.tails.now t.heads.now t.column.now

-- the path to a node, from the struct's origin
abbrev pub path_to : held.Tree → (node : ℕ) → Option (List ℕ)
path_to t v = path t.origin v (tree_of t)

-- how many nodes a path has, as the code says it
abbrev pub size : Option (List ℕ) → code.Option ℕ
size none = None
size (some vs) = Some (length vs)

-- An entry that leads back is an arc's position. Assumes nothing.
use native.Mathlib.Omega.{arith}
use Rattle.std.proofs.lemmas.Grind.{common_steps}
use Rattle.std.proofs.lemmas.List.{get_or_default}
use Rattle.listing.specs.Listing.{entry, node_before}
use Rattle.listing.proofs.Entries.{leads}
use Rattle.paths.specs.Trees.{tree_of}
use Rattle.paths.proofs.tree.Tree.known_before.Goals as goal

pub bounds-self-from-2 : goal.bounds-self-from-2
unfolding entry
bounds-self-from-2 c =
    let listed = (leads (tree_of c.args.self.now) c.args.node c.requires.leads).listed in
    grind (arith, common_steps, get_or_default, listed)

pub returns : goal.returns
unfolding entry node_before
returns c = grind (arith, common_steps, get_or_default)

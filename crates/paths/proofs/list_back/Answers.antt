-- Each way out of the code is one of the definition. Assumes nothing.
use mathlib.Core.Path.{◌≡◌, sym, ap, ◌∙◌}
use native.Mathlib.Omega.{arith}
use lib.ListN.{length}
use Rattle.std.specs.Prelude.{Some, None}
use Rattle.listing.specs.Listing.{Tree, tree_in, early_of, path}
use Rattle.table.specs.Told.{tells}
use Rattle.table.proofs.Telling.{handed_out}
use Rattle.paths.specs.Trees.{size}
use Rattle.paths.proofs.Back.{early, no_path, no_room, few, lists}
use Rattle.paths.proofs.list_back.Goals as goal
use Rattle.paths.proofs.list_back.Goals.{In_ok-count}

-- where the path has been counted
module _ (c : In_ok-count) where
  abbrev k : Tree
  k = let a = c.args in tree_in a.tails.now a.heads.now a.column.now

  found : size (path c.args.origin c.args.node k) ≡ Some c.in_ok-count.count
  found =
      let same = c.in_ok-tree.ensures.same in
      let counted : c.count_nodes.result ≡ Some c.in_ok-count.count = grind (arith, c.in_ok-count.ensures.value) in
      rw (← same.0, ← same.1) (sym c.count_nodes.ensures ∙ counted)

pub returns-in_err-tree : goal.returns-in_err-tree
unfolding early_of
returns-in_err-tree c =
    let r = c.from_residual.ensures in
    early _ _ _ _ _ _ _ r.0 (handed_out _ _ r.1) c.in_err-tree.ensures.told

pub returns-in_err-count : goal.returns-in_err-count
unfolding early_of
returns-in_err-count c =
    let r = c.from_residual-in_err-count.ensures in
    let same = c.in_ok-tree.ensures.same in
    let none : c.count_nodes.result ≡ None = grind (arith, c.in_err-count.ensures.value) in
    let same_error : c.in_err-count.field-0.0 ≡ c.at.result = grind (arith, c.in_err-count.ensures.value) in
    no_path _ _ _ _ c.in_ok-tree.ensures.told (rw (← same.0, ← same.1) (sym c.count_nodes.ensures ∙ none)) _ _ r.0
    (handed_out _ _ r.1 ∙ ap tells same_error ∙ c.at.ensures)

pub returns-then-output-count : goal.returns-then-output-count
unfolding early_of
returns-then-output-count c =
    let at = (goal.at.returns-then-output-count c).In_ok-count in
    no_room _ _ (k at) _ c.in_ok-tree.ensures.told _ (found at) c.if-output-count.true _ _ c.at-then-output-count.ensures

pub overflow_cast-result : goal.overflow_cast-result
unfolding early_of
overflow_cast-result c =
    let at = (goal.at.overflow_cast-result c).In_ok-count in
    omega (arith, few _ _ (k at) (length c.args.output.now) c.in_ok-tree.ensures.told _ (found at))

pub returns : goal.returns
unfolding early_of
returns c =
    let at = (goal.at.returns c).In_ok-count in
    let same = c.in_ok-tree.ensures.same in
    rw (c.write_back.ensures, same.0, same.1)
    (lists _ _ (k at) _ c.in_ok-tree.ensures.told _ (found at) c.if-output-count.false c.args.output.now _ (omega arith))

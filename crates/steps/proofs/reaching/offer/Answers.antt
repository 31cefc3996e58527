-- The kept arc has a tail. Assumes nothing.
use mathlib.Core.Path.{sym, ◌∙◌, subst}
use Prim.Native.Nat.{ℕ, ◌<◌}
use lib.ListN.{length}
use Rattle.steps.proofs.Nodes.{entry}
use Rattle.steps.proofs.reaching.offer.Goals as goal

pub forget_tail-requires : goal.forget_tail-requires
forget_tail-requires c = λ any.
    let kept = entry (λ m. m.kept) c.args.nodes.now c.args.head in
    let listed = subst (λ (k : ℕ). k < length c.args.tails.now) kept (c.requires.kept_in.listed c.args.head c.requires.head_in_bounds (λ z. any (sym kept ∙ z))) in
    (listed, c.requires.kept_in.tail_in _ listed)

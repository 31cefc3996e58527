-- The product and the sum wrap at once. Assumes nothing.
use mathlib.Core.Path.{ap, ◌∙◌}
use Prim.Native.Nat.{◌+◌, ◌*◌, ◌%◌}
use Rattle.std.proofs.Math.Nat.{mod-add-mod}
use Rattle.test_load.specs.Load.{draw}
use Rattle.load_maker.proofs.arcs.draw.Goals as goal

pub returns : goal.returns
unfolding draw
returns c =
    ap (λ product. (product + 1013904223) % 4294967296) c.wrapping_mul.ensures
    ∙ mod-add-mod (c.args.state * 1664525) 4294967296 1013904223

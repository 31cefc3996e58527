-- `input::plan_read` meets its contract: a file that was refused is not planned, another one is. Assumes nothing.
use mathlib.Core.Path.{sym, ◌∙◌}
use lib.ListN.{take}
use Rattle.input.proofs.Planning.{part_of, refused_read, planned_parts}
use Rattle.input.proofs.plan_read.Goals as goal

pub returns-then-read-ne0-clause-plans : goal.returns-then-read-ne0-clause-plans
returns-then-read-ne0-clause-plans c o ts₀ hs₀ ls₀ ws₀ well l =
    refused_read c.args.read ts₀ hs₀ ls₀ ws₀ _ _ _ _ _ _ _ _ o well l c.if-read-ne0.true c.nothing.result c.nothing.ensures

pub returns-clause-plans : goal.returns-clause-plans
returns-clause-plans c o ts₀ hs₀ ls₀ ws₀ well l =
    let a = c.args in
    let fits = c.requires.counts_fit in
    let room = c.requires.buffers_roomy in
    let d = sym (part_of a.distances.now a.read.n fits.nodes room.distances_long) in
    let p = sym (part_of a.prices.now a.read.n fits.nodes room.prices_long) in
    let t = sym (part_of a.tree.now a.read.n fits.nodes room.tree_long) in
    let m = sym (part_of a.marks.now a.read.arcs fits.arcs_few room.marks_long) in
    planned_parts a.read ts₀ hs₀ ls₀ ws₀ _ _ _ _ o well l c.if-read-ne0.false c.plan_routes.result
    (take a.read.n a.distances.now) (take a.read.n a.prices.now) (take a.read.n a.tree.now) (take a.read.arcs a.marks.now)
    _ _ _ _ _ _ _ _ d p t m (c.plan_routes.auto.distances ∙ d) (c.plan_routes.auto.prices ∙ p) (c.plan_routes.auto.tree ∙ t)
    (c.plan_routes.auto.marks ∙ m) c.plan_routes.ensures

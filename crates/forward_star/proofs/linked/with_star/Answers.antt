-- The lists of outgoing arcs fill the first parts of two arrays, which are lent again to the call. Assumes nothing.
use native.Mathlib.Omega.{arith}
use mathlib.Core.Path.{refl, sym, ◌∙◌}
use Rattle.forward_star.proofs.Columns.{linkable, Relent, relent, some_table, nodes_are, tails_below}
use Rattle.forward_star.proofs.linked.with_star.Goals as goal
use Rattle.forward_star.proofs.linked.with_star.Goals.{After-link_arcs}
use Rattle.forward_star.proofs.linked.with_star.Given.{Over}

-- where the arcs have been linked: the lists as they come back, and as they are lent again
module _ (g : Over) (c : After-link_arcs g) where
  again : Relent c.args.table.now c.link_arcs.new.first c.link_arcs.new.next
  again = relent c.args.table.now c.link_arcs.auto.first c.link_arcs.auto.next c.link_arcs.ensures

pub slice_bounds-first-end : goal.slice_bounds-first-end
slice_bounds-first-end g c = (linkable c.args.table.now).few_nodes

pub slice_bounds-link_arcs-end : goal.slice_bounds-link_arcs-end
slice_bounds-link_arcs-end g c = sym (linkable c.args.table.now).first_long

pub link_arcs-requires-clause-tails_in : goal.link_arcs-requires-clause-tails_in
link_arcs-requires-clause-tails_in g c = λ i h. omega (arith, tails_below c.args.table.now i h, (linkable c.args.table.now).first_long)

pub link_arcs-requires-clause-empty : goal.link_arcs-requires-clause-empty
link_arcs-requires-clause-empty g c = (linkable c.args.table.now).no_first

pub slice_bounds-first-end-2 : goal.slice_bounds-first-end-2
slice_bounds-first-end-2 g c = (again g (goal.at.slice_bounds-first-end-2 g c).After-link_arcs).first_part

pub slice_bounds-star-end : goal.slice_bounds-star-end
slice_bounds-star-end g c = sym ((again g (goal.at.slice_bounds-star-end g c).After-link_arcs).listed.linked.first_count ∙ nodes_are c.args.table.now)

pub invariant_of-star : goal.invariant_of-star
invariant_of-star g c = record { of_some_table = some_table (again g (goal.at.invariant_of-star g c).After-link_arcs).listed }

pub invariant_of-linked : goal.invariant_of-linked
invariant_of-linked g c = record { same_columns = refl; listed = (again g (goal.at.invariant_of-linked g c).After-link_arcs).listed }

pub returns : goal.returns
returns g c = (_, refl, record { shown = _; shows = refl; called = c.then.ensures })

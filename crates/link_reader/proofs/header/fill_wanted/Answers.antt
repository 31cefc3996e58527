-- `header::fill_wanted` meets its contract: the nodes that are listed, or all nodes, which are as many as are wanted. Assumes nothing.
use Rattle.std.proofs.Common.{arith, ◌≡◌, ◌∙◌, length}
use Rattle.link_format.specs.Format.{count_up}
use Rattle.link_format.proofs.AllNodes.{length_count_up}
use Rattle.link_reader.specs.Says.{wanted_in}
use Rattle.link_reader.proofs.header.fill_wanted.Goals as goal

pub fill_all-requires : goal.fill_all-requires
unfolding wanted_in
fill_all-requires c =
    let got = c.requires.0 in
    let all : length (count_up 0 c.args.header.n) ≡ c.args.header.wanted = rw c.in-None.is at got.size in
    (got.nodes, omega (arith, all, length_count_up 0 c.args.header.n, c.requires.1))

pub returns-in-Some : goal.returns-in-Some
unfolding wanted_in
returns-in-Some c = c.fill_nodes.ensures ∙ rw c.in-Some.is

pub returns-in-None : goal.returns-in-None
unfolding wanted_in
returns-in-None c = c.fill_all.ensures ∙ rw c.in-None.is

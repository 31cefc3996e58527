-- `input::Workspace::read_input` meets its contract: too long an input is refused, and another one is read. Assumes nothing.
use mathlib.Core.Path.{ap, ◌∙◌}
use Rattle.std.proofs.Common.{rules}
use Rattle.table.specs.Table.{Below}
use Rattle.table.specs.Refusals.{Refusal}
use Rattle.link_format.specs.Buffers.{no_content}
use Rattle.link_format.specs.Format.{content}
use Rattle.link_file.specs.Entries.{read_answer}
use Rattle.link_file.proofs.EntryTrips.{answers_fit}
use Rattle.input.proofs.Planning.{input_too_long, input_read}
use Rattle.input.proofs.Workspace.read_input.Goals as goal

pub returns-then-input-gt-MOST_INPUT-clause-reads : goal.returns-then-input-gt-MOST_INPUT-clause-reads
returns-then-input-gt-MOST_INPUT-clause-reads c =
    input_too_long _ _ _ _ _ _ c.if-input-gt-MOST_INPUT.true (c.from.ensures ∙ ap (λ (r : Refusal). read_answer r no_content) c.at.ensures)

pub returns-then-input-gt-MOST_INPUT-clause-fits : goal.returns-then-input-gt-MOST_INPUT-clause-fits
unfolding read_answer no_content content
returns-then-input-gt-MOST_INPUT-clause-fits c = rw c.from.ensures (record { nodes = search rules; arcs_few = search rules; wanted_few = search rules })

pub returns-clause-reads : goal.returns-clause-reads
unfolding Below
returns-clause-reads c = let r = c.read_link_file in input_read _ _ _ _ _ _ _ _ _ r.result c.if-input-gt-MOST_INPUT.false (search rules) r.ensures

pub returns-clause-fits : goal.returns-clause-fits
unfolding Below
returns-clause-fits c =
    let r = c.read_link_file in answers_fit _ _ _ _ _ _ _ _ _ r.result (λ i. (c.type_inv.input i).fits) r.ensures

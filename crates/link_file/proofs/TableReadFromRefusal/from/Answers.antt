-- A refusal as the reader's answer meets its contract: the definition is the code. Assumes nothing.
use Rattle.table.specs.Refusals.{refusal}
use Rattle.link_format.specs.Buffers.{no_content}
use Rattle.link_format.specs.Format.{content}
use Rattle.link_file.specs.Entries.{read_answer}
use Rattle.link_file.proofs.TableReadFromRefusal.from.Goals as goal

pub returns : goal.returns
unfolding read_answer refusal no_content content
returns c = rw c.number.ensures

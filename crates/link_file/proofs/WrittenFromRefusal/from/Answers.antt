-- A refusal as the writer's answer meets its contract: the definition is the code. Assumes nothing.
use Rattle.table.specs.Refusals.{refusal}
use Rattle.link_file.specs.Entries.{write_answer}
use Rattle.link_file.proofs.WrittenFromRefusal.from.Goals as goal

pub returns : goal.returns
unfolding write_answer refusal
returns c = rw c.number.ensures

-- The answer is that of the function that is handed on to. Assumes nothing.
use Rattle.kestrelore.proofs.kestrelore_write_link_file.Goals as goal

pub returns : goal.returns
returns c = c.write_link_file.ensures

-- The answer is that of the function that is handed on to. Assumes nothing.
use Rattle.kestrelore.proofs.kestrelore_make_load.Goals as goal

pub returns : goal.returns
returns c = c.make_load.ensures

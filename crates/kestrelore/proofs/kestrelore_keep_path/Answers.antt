-- The answer is that of the function that is handed on to. Assumes nothing.
use Rattle.kestrelore.proofs.kestrelore_keep_path.Goals as goal

pub returns : goal.returns
returns c = c.decide.ensures

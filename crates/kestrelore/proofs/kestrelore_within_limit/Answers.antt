-- The answer is that of the function that is handed on to. Assumes nothing.
use Rattle.kestrelore.proofs.kestrelore_within_limit.Goals as goal

pub returns : goal.returns
returns c = c.within_limit.ensures

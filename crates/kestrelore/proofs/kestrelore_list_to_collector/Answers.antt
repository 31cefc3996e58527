-- The answer is that of the function that is handed on to. Assumes nothing.
use Rattle.kestrelore.proofs.kestrelore_list_to_collector.Goals as goal

pub returns : goal.returns
returns c = c.list_to_collector.ensures

-- The nodes, as they were listed, are turned round. Assumes nothing.
use mathlib.Core.Path.{refl}
use Rattle.paths.proofs.Back.{turned, none}
use Rattle.paths.proofs.list_path.Goals as goal

pub returns-in-Ok : goal.returns-in-Ok
returns-in-Ok c = let a = c.from.ensures in turned _ _ _ _ _ _ c.in-Ok.ensures a.0 a.1 a.2 (rw c.reverse.ensures.after refl)

pub returns-in-Err : goal.returns-in-Err
returns-in-Err c = let a = c.from-in-Err.ensures in none _ _ _ _ _ c.in-Err.ensures a.0 a.1 a.2

-- The nodes, as they were listed, stand as they are wanted. Assumes nothing.
use Rattle.listing.specs.Collecting.{listing_to_collector}
use Rattle.paths.proofs.Back.{as_made, none_turned}
use Rattle.paths.proofs.list_to_collector.Goals as goal

pub returns-in-Ok : goal.returns-in-Ok
unfolding listing_to_collector
returns-in-Ok c = let a = c.from.ensures in as_made _ _ _ _ _ c.in-Ok.ensures a.0 a.1 a.2

pub returns-in-Err : goal.returns-in-Err
unfolding listing_to_collector
returns-in-Err c = let a = c.from-in-Err.ensures in none_turned _ _ _ _ _ c.in-Err.ensures a.0 a.1 a.2

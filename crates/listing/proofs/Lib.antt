-- What a listing is made of: the refusals that are tested first, a node's tree entry, a way back that gives a path, and the ways out.
pub mod Early
pub mod Entries
pub mod Ways
pub mod Answers
-- The promises: listing agrees with the walk that was returned, first for any tree column, then for a table's, then to a collector.
pub mod Returned
pub mod Listable
pub mod Senders
pub mod Promised
-- Where a listing is not refused, the node was given a walk.
pub mod Given
-- The rows of the examples.
pub mod Examples

-- The bid over one arc, and the least bid over all arcs out of a node.
pub mod Bidding

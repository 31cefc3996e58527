-- What offering one arc, and all arcs out of a node, does to the arrays and to what the nodes remember.
pub mod Offering
pub mod Losing
pub mod Offered
pub mod Walk

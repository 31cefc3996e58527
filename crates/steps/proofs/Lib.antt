-- What the proofs of more than one module use: what the arrays hold, the arcs out of a node, and what the nodes remember.
pub mod Nodes
pub mod Arrays
pub mod Arcs
pub mod Remembering
pub mod Unread

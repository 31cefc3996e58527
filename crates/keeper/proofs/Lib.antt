-- The laws behind the functions: the loop over a node's arcs, the one over the steps of a list, the choice, and what is answered.
pub mod Stepping
pub mod Totalling
pub mod Choosing
pub mod Answering

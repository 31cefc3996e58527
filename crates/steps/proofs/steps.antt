-- What a deletion, a contraction and an extension do to the arrays.
pub mod Stepping
pub mod Writing

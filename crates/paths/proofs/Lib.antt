-- The laws behind the functions: the loop that counts and the one that writes, the ways out, and what is answered.
pub mod Counting
pub mod Writing
pub mod Back

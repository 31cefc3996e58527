-- The laws behind the functions: the number that a word writes, the refusals and the bytes of the file, what fits it.
pub mod Words
pub mod Writing
pub mod Sizes
pub mod Fitting
pub mod Promised
pub mod Rows

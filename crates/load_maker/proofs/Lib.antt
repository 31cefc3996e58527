-- The laws behind the functions: what is left of the pairs and of the arcs, turn by turn; the columns; the tests.
pub mod Leaving
pub mod Filling
pub mod Making

-- The laws of one mark more.
pub mod Counting

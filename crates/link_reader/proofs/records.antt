pub mod Ways
pub mod Runs
pub mod Filling

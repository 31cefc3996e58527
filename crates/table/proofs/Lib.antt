pub mod Basics
pub mod Present
pub mod Counts
pub mod Columns
pub mod Storing
pub mod Telling

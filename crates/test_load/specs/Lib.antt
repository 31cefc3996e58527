pub mod Load
pub mod Making
pub mod Promises
pub mod Rows

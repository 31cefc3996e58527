pub mod Answer
pub mod Promises
pub mod Rows

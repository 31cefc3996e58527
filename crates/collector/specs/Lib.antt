pub mod Exchanged
pub mod Plan
pub mod Promises
pub mod Stability
pub mod Rows

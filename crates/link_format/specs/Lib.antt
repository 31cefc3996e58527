pub mod Format
pub mod Reading
pub mod Buffers
pub mod Promises
pub mod Rows

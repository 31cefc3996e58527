pub mod LoadFile
pub mod Promises
pub mod Rows

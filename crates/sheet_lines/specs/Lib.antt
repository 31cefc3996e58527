pub mod Buffers
pub mod Room
